use Rattle.std.proofs.Common.{◌≡◌, ℕ, ◌+◌, ◌≤◌, true, false, [], ◌∷◌, ◌++◌, length, List, Bool, refl, sym, ap, subst, ◌∙◌, arith}
use Rattle.std.specs.Prelude.{Some, IfSome}
use Rattle.desk.specs.declared.entry.Entry.{Entry}
use Rattle.desk.specs.Journal.{journal_text}
use Rattle.desk.specs.declared.entry.Noted.{Noted}
use Rattle.desk.specs.declared.entry.Noted.TheVariants as noted
use Rattle.desk.specs.Noting.{piece_of, is_first, journal_end, IsTornBehind, IsKept, IsMarked}
use Rattle.desk.specs.Steps.{Outcome, entry_of, is_full, history_full}
use Rattle.desk.specs.Histories.{IsAcceptedBehind}
use Rattle.desk.specs.Points.{Telling, IsSound, entries_of, last_counted}
use Rattle.desk.proofs.Accepts.{accepted_entry}
use Rattle.desk.proofs.Journals.{place_within}
use Rattle.desk.proofs.States.{sound_entry, sound_mark, full_journal, room_journal, total_journal, fields_fit, counts_fit, first_of, place_first, place_later, noted_kept, noted_marked, torn_behind}
use Rattle.desk.proofs.Replies.{within_full, within_room, served_not, stepped, marked, no_growth_mark}
use Rattle.desk.proofs.state.State.enter.Given as given
use Rattle.desk.proofs.state.State.enter.Goals as goal
use Rattle.desk.proofs.state.State.enter.Goals.{then-first, else-first}

pub prepare-requires : goal.prepare-requires
prepare-requires g c =
    let s = c.self.inside in let inv = c.self.invariant in
    fields_fit s.limit s.bytes c.entry_size.result c.saturating_add-total.result (entries_of s.list.items)
    c.args.ask.now
    inv.bytes_is c.entry_size.ensures c.saturating_add-total.ensures inv.limit_is c.args.caller c.if-self-total.false

pub returns-then-self-total-clause-happens : goal.returns-then-self-total-clause-happens
returns-then-self-total-clause-happens g c =
    let s = c.self.inside in let inv = c.self.invariant in let t = c.args.self.now in let ask = c.args.ask.now in
    let full = full_journal s.limit s.bytes c.entry_size.result c.saturating_add-total.result (entries_of s.list.items)
    ask inv.bytes_is c.entry_size.ensures c.saturating_add-total.ensures inv.limit_is c.if-self-total.true in
    let full_now =
    subst (λ (u : Telling _). is_full u.pair.0 (entries_of u.list) (entry_of 0 ask) ≡ true) c.self.view_is
    full in
    let made : Outcome = record { status = c.args.status; body = c.args.body; accepts = true } in
    stepped g.E.Engine.plain t.pair c.args.caller ask t.list t.list c.reply.result history_full
    (made, c.requires.plain, within_full t.pair.0 (entries_of t.list) ask made refl full_now)
    c.reply.ensures.at c.reply.ensures.reply.0 (c.reply.ensures.reply.1 ∙ ap Some c.in_ok-make_full.ensures) refl
    c.reply.ensures.counts

-- the place of the piece
place_at : (g : given.Over) (c : goal.After-as_slice g) → c.if-first.at
    ≡ journal_end (entries_of c.self.inside.list.items)
place_at g c =
    let s = c.self.inside in let inv = c.self.invariant in
    elim c.if-first.branch [
      | then-first w ↦ place_first s.entries c.if-first.at (entries_of s.list.items) inv.entries_is
          w.if-first.true w.at-is
      | else-first w ↦ place_later s.entries c.if-first.at s.bytes (entries_of s.list.items) inv.entries_is
          w.if-first.false w.at-is inv.bytes_is
    ]

pub put_noted-requires-clause-at : goal.put_noted-requires-clause-at
put_noted-requires-clause-at g c =
    let s = c.self.inside in
    subst (λ (n : ℕ). IfSome (g.K.Keeper.kept s.keeper) (λ bytes. n ≤ length bytes)) (sym (place_at g c))
    (place_within g.E.Engine.plain s.limit (g.K.Keeper.kept s.keeper) s.list.items c.self.invariant.keeps)

pub overflow_add-self : goal.overflow_add-self
overflow_add-self g c =
    let s = c.self.inside in let inv = c.self.invariant in
    let small = counts_fit s.limit s.bytes c.entry_size.result c.saturating_add-total.result (entries_of s.list.items)
    c.args.ask.now inv.bytes_is c.entry_size.ensures c.saturating_add-total.ensures inv.limit_is s.entries
    inv.entries_is c.if-self-total.false in
    omega (arith, small)

-- the place, at the mark
marked_place : (g : given.Over) (c : goal.After-drop-world-in-Marked-1 g)
    → c.if-first.at ≡ journal_end (entries_of c.self.inside.list.items)
marked_place g c =
    let s = c.self.inside in let inv = c.self.invariant in
    elim c.if-first.branch [
      | then-first w ↦ place_first s.entries c.if-first.at (entries_of s.list.items) inv.entries_is
          w.if-first.true w.at-is
      | else-first w ↦ place_later s.entries c.if-first.at s.bytes (entries_of s.list.items) inv.entries_is
          w.if-first.false w.at-is inv.bytes_is
    ]

-- the state where the piece is kept
kept_state : (g : given.Over) (c : goal.After-drop-piece-inside-in-Kept-1 g)
    → IsSound g.E.Engine.plain g.E.Engine.stands c.args.world c.put_noted.new.list.items (c.self.inside.entries + 1)
    c.saturating_add-total.result c.self.inside.limit c.self.inside.opened (g.K.Keeper.failures c.put_noted.new.keeper)
    (g.K.Keeper.kept c.put_noted.new.keeper)
    × IfSome (g.K.Keeper.kept c.put_noted.new.keeper) (λ b. b ≡ journal_text (entries_of c.put_noted.new.list.items))
kept_state g c =
    let s = c.self.inside in let inv = c.self.invariant in let es = entries_of s.list.items in
    let p = c.in_ok-entry.ensures in let e = c.in_ok-entry.field-0.entry in
    let place : c.if-first.at ≡ journal_end es = elim c.if-first.branch [
      | then-first w ↦ place_first s.entries c.if-first.at es inv.entries_is w.if-first.true w.at-is
      | else-first w ↦ place_later s.entries c.if-first.at s.bytes es inv.entries_is w.if-first.false w.at-is
          inv.bytes_is
    ] in
    let put = noted_kept _ c.in-Kept.is c.in_ok-put_noted.ensures.noted in
    let made : Outcome = record { status = c.args.status; body = c.args.body; accepts = true } in
    let total = total_journal s.limit s.bytes c.entry_size.result c.saturating_add-total.result es c.args.ask.now
    inv.bytes_is c.entry_size.ensures c.saturating_add-total.ensures inv.limit_is c.args.caller
    c.if-self-total.false in
    sound_entry g.E.Engine.plain g.E.Engine.stands s.world c.args.world s.list.items c.put_noted.new.list.items
    s.entries s.bytes
    c.saturating_add-total.result s.limit s.opened (g.K.Keeper.failures s.keeper)
    (g.K.Keeper.failures c.put_noted.new.keeper) (g.K.Keeper.kept s.keeper) (g.K.Keeper.kept c.put_noted.new.keeper)
    e c.as_slice.result.now c.if-first.at inv
    (subst (λ (x : Entry). g.E.Engine.stands c.args.world (es ++ x ∷ [])) (sym p.entry_is)
    (subst (λ (t : Telling _). g.E.Engine.stands c.args.world (entries_of t.list
    ++ entry_of c.args.caller c.args.ask.now ∷ [])) (sym c.self.view_is) (c.requires.world c.args.caller)))
    (subst (IsAcceptedBehind g.E.Engine.plain es) (sym p.entry_is)
    (accepted_entry g.E.Engine.plain c.served_outcomes.ensures es c.args.caller c.args.ask.now made p.texts
    (subst (λ (t : Telling _). g.E.Engine.plain (entries_of t.list) c.args.ask.now made) (sym c.self.view_is)
    c.requires.plain) refl))
    (total ∙ ap (λ (x : Entry). length (journal_text (es ++ x ∷ []))) (sym p.entry_is)) c.if-self-total.false
    (c.as_slice.ensures ∙ p.piece_is ∙ ap (λ (b : Bool). piece_of b (entry_of c.args.caller c.args.ask.now))
    (first_of s.entries es inv.entries_is) ∙ ap (piece_of (is_first es)) (sym p.entry_is))
    place
    (subst (λ (l : List Noted). IsKept e c.if-first.at c.as_slice.result.now l c.put_noted.new.list.items
    (g.K.Keeper.kept s.keeper) (g.K.Keeper.kept c.put_noted.new.keeper) (g.K.Keeper.failures s.keeper)
    (g.K.Keeper.failures c.put_noted.new.keeper)) c.reserve.ensures.items put)

pub invariant_of-self-in-Kept-1 : goal.invariant_of-self-in-Kept-1
invariant_of-self-in-Kept-1 g c = (kept_state g c).0

pub returns-in-Kept-clause-kept : goal.returns-in-Kept-clause-kept
returns-in-Kept-clause-kept g c = λ _. (kept_state g c).1

pub returns-in-Kept-clause-happens : goal.returns-in-Kept-clause-happens
returns-in-Kept-clause-happens g c =
    let s = c.self.inside in let inv = c.self.invariant in let t = c.args.self.now in let ask = c.args.ask.now in
    let room = room_journal s.limit s.bytes c.entry_size.result c.saturating_add-total.result (entries_of s.list.items)
    ask inv.bytes_is c.entry_size.ensures c.saturating_add-total.ensures inv.limit_is c.if-self-total.false in
    let room_now =
    subst (λ (u : Telling _). is_full u.pair.0 (entries_of u.list) (entry_of 0 ask) ≡ false) c.self.view_is
    room in
    let put = noted_kept _ c.in-Kept.is c.in_ok-put_noted.ensures.noted in
    let made : Outcome = record { status = c.args.status; body = c.args.body; accepts = true } in
    stepped g.E.Engine.plain t.pair c.args.caller ask t.list c.put_noted.new.list.items c.reply-reply.result
    made (made, c.requires.plain, within_room t.pair.0 (entries_of t.list) ask made room_now)
    c.reply-reply.ensures.at c.reply-reply.ensures.reply.0 c.reply-reply.ensures.reply.1
    (put.list_is ∙ ap (λ (l : List Noted). l ++ noted.Entry c.in_ok-entry.field-0.entry ∷ []) c.reserve.ensures.items
    ∙ ap (λ (e : Entry). s.list.items ++ noted.Entry e ∷ []) c.in_ok-entry.ensures.entry_is
    ∙ ap (λ (u : Telling _). u.list ++ noted.Entry (entry_of c.args.caller ask) ∷ []) c.self.view_is)
    c.reply-reply.ensures.counts

-- the state where the keeper failed
marked_state : (g : given.Over) (c : goal.After-drop-world-in-Marked-1 g)
    → IsSound g.E.Engine.plain g.E.Engine.stands c.self.inside.world c.put_noted.new.list.items c.self.inside.entries
    c.self.inside.bytes
    c.self.inside.limit c.self.inside.opened (g.K.Keeper.failures c.put_noted.new.keeper)
    (g.K.Keeper.kept c.put_noted.new.keeper)
marked_state g c =
    let s = c.self.inside in let inv = c.self.invariant in let es = entries_of s.list.items in
    let p = c.in_ok-entry.ensures in
    let made : Outcome = record { status = c.args.status; body = c.args.body; accepts = true } in
    let total = total_journal s.limit s.bytes c.entry_size.result c.saturating_add-total.result es c.args.ask.now
    inv.bytes_is c.entry_size.ensures c.saturating_add-total.ensures inv.limit_is c.args.caller
    c.if-self-total.false in
    let put = noted_marked _ c.in-Marked.before c.in-Marked.after c.in-Marked.is c.in_ok-put_noted.ensures.noted in
    sound_mark g.E.Engine.plain g.E.Engine.stands s.world s.list.items c.put_noted.new.list.items s.entries s.bytes
    s.limit s.opened
    (g.K.Keeper.failures s.keeper) (g.K.Keeper.failures c.put_noted.new.keeper) (g.K.Keeper.kept s.keeper)
    (g.K.Keeper.kept c.put_noted.new.keeper) _ c.in-Marked.before c.in-Marked.after c.as_slice.result.now
    c.if-first.at inv
    (subst (IsAcceptedBehind g.E.Engine.plain es) (sym p.entry_is)
    (accepted_entry g.E.Engine.plain c.served_outcomes.ensures es c.args.caller c.args.ask.now made p.texts
    (subst (λ (t : Telling _). g.E.Engine.plain (entries_of t.list) c.args.ask.now made) (sym c.self.view_is)
    c.requires.plain) refl))
    (let size = ap (λ (x : Entry). length (journal_text (es ++ x ∷ []))) p.entry_is in
    omega (arith, size, total, c.if-self-total.false)) (marked_place g c)
    (c.as_slice.ensures ∙ p.piece_is ∙ ap (λ (b : Bool). piece_of b (entry_of c.args.caller c.args.ask.now))
    (first_of s.entries es inv.entries_is) ∙ ap (piece_of (is_first es)) (sym p.entry_is))
    (subst (λ (l : List Noted). IsMarked c.in_ok-entry.field-0.entry c.in-Marked.before c.in-Marked.after c.if-first.at
    c.as_slice.result.now l c.put_noted.new.list.items (g.K.Keeper.kept s.keeper)
    (g.K.Keeper.kept c.put_noted.new.keeper) (g.K.Keeper.failures s.keeper)
    (g.K.Keeper.failures c.put_noted.new.keeper)) c.reserve.ensures.items put)

pub invariant_of-self-in-Marked-1 : goal.invariant_of-self-in-Marked-1
invariant_of-self-in-Marked-1 g c = marked_state g c

pub returns-in-Marked-clause-happens : goal.returns-in-Marked-clause-happens
returns-in-Marked-clause-happens g c =
    let s = c.self.inside in let inv = c.self.invariant in let t = c.args.self.now in let ask = c.args.ask.now in
    let room = room_journal s.limit s.bytes c.entry_size.result c.saturating_add-total.result (entries_of s.list.items)
    ask inv.bytes_is c.entry_size.ensures c.saturating_add-total.ensures inv.limit_is c.if-self-total.false in
    let room_now =
    subst (λ (u : Telling _). is_full u.pair.0 (entries_of u.list) (entry_of 0 ask) ≡ false) c.self.view_is
    room in
    let put = noted_marked _ c.in-Marked.before c.in-Marked.after c.in-Marked.is c.in_ok-put_noted.ensures.noted in
    let made : Outcome = record { status = c.args.status; body = c.args.body; accepts = true } in
    marked g.E.Engine.plain t.pair c.args.caller ask t.list c.put_noted.new.list.items
    (record {
      status = 503;
      body = Some c.in_ok-entry.field-0.unavailable;
      at = c.reply-reply.result.at;
      faults = (c.in-Marked.before, c.in-Marked.after);
    })
    made c.in_ok-entry.field-0.entry c.in-Marked.before c.in-Marked.after c.in_ok-entry.ensures.entry_is
    (made, c.requires.plain, within_room t.pair.0 (entries_of t.list) ask made room_now) refl
    c.reply-reply.ensures.at refl (ap Some c.in_ok-entry.ensures.unavailable_is) refl
    (put.list_is ∙ ap (λ (l : List Noted). l ++ noted.Mark c.in_ok-entry.field-0.entry c.in-Marked.before
    c.in-Marked.after ∷ []) (c.reserve.ensures.items ∙ ap (λ (u : Telling _). u.list) c.self.view_is))
    (put.before_is ∙ inv.failures_is ∙ ap (λ (u : Telling _). last_counted u.pair.1 u.list) c.self.view_is) put.rose

pub returns-in-Marked-clause-kept : goal.returns-in-Marked-clause-kept
returns-in-Marked-clause-kept g c =
    let s = c.self.inside in
    let put = noted_marked _ c.in-Marked.before c.in-Marked.after c.in-Marked.is c.in_ok-put_noted.ensures.noted in
    no_growth_mark c.args.self.now.list c.put_noted.new.list.items c.in_ok-entry.field-0.entry c.in-Marked.before
    c.in-Marked.after
    (put.list_is ∙ ap (λ (l : List Noted). l ++ noted.Mark c.in_ok-entry.field-0.entry c.in-Marked.before
    c.in-Marked.after ∷ []) (c.reserve.ensures.items ∙ ap (λ (t : Telling _). t.list) c.self.view_is))

-- ---- what is kept, the count of faults, and what is torn

pub returns-in-Kept-clause-keeps : goal.returns-in-Kept-clause-keeps
returns-in-Kept-clause-keeps g c = (kept_state g c).0.keeps

pub returns-in-Marked-clause-keeps : goal.returns-in-Marked-clause-keeps
returns-in-Marked-clause-keeps g c = (marked_state g c).keeps

pub returns-in-Kept-clause-counted : goal.returns-in-Kept-clause-counted
returns-in-Kept-clause-counted g c = (c.reply-reply.ensures.counted, (kept_state g c).0.failures_is)

pub returns-in-Marked-clause-counted : goal.returns-in-Marked-clause-counted
returns-in-Marked-clause-counted g c = (c.reply-reply.ensures.counted, (marked_state g c).failures_is)

pub returns-in-Kept-clause-torn : goal.returns-in-Kept-clause-torn
returns-in-Kept-clause-torn g c =
    let t = c.args.self.now in let ask = c.args.ask.now in
    let made : Outcome = record { status = c.args.status; body = c.args.body; accepts = true } in
    λ unavailable. absurd (served_not ask made
    (c.served_outcomes.ensures (entries_of t.list) ask made c.requires.plain)
    (sym c.reply-reply.ensures.reply.0 ∙ unavailable))

pub returns-in-Marked-clause-torn : goal.returns-in-Marked-clause-torn
returns-in-Marked-clause-torn g c =
    let s = c.self.inside in let inv = c.self.invariant in let es = entries_of s.list.items in
    let put = noted_marked _ c.in-Marked.before c.in-Marked.after c.in-Marked.is c.in_ok-put_noted.ensures.noted in
    λ _. subst (λ (u : Telling _). IsTornBehind (entries_of u.list) (entry_of c.args.caller c.args.ask.now)
    (g.K.Keeper.kept u.keeper) (g.K.Keeper.kept c.put_noted.new.keeper)) c.self.view_is
    (torn_behind es (entry_of c.args.caller c.args.ask.now) (marked_place g c)
    (c.as_slice.ensures ∙ c.in_ok-entry.ensures.piece_is
    ∙ ap (λ (b : Bool). piece_of b (entry_of c.args.caller c.args.ask.now)) (first_of s.entries es inv.entries_is))
    put)
