-- The command `serve`: a desk whose keepers never fail is always available, and what is told is the history.
use Rattle.std.proofs.Common.{◌≡◌, ◌≢◌, ◌<◌, inl, inr, ℕ, Bool, true, false, List, [], ◌∷◌, ◌++◌, length, drop, refl, sym, ap}
use Rattle.std.proofs.Common.{subst, ◌∙◌, arith}
use Rattle.std.specs.Prelude.{Option, Some, IfSome, All, IsTrue, ◌==◌, ◌&&◌, if◌then◌else◌}
use Rattle.std.specs.List.{list_any}
use Rattle.std.proofs.lemmas.List.{append-nil}
use Rattle.std.proofs.lemmas.List.Elements.{All-head, All-weaker}
use Rattle.cell_value.specs.FaultCount.{last_count, Rose, StaysSteady}
use Rattle.history_lock.specs.History.{NoneOf}
use Rattle.history_lock.specs.declared.pass.Pass.{Pass}
use Rattle.history_lock.specs.Passes.{seen_by, number_of, count_of}
use Rattle.desk.specs.declared.desk.Desk.{Desk}
use Rattle.desk.specs.declared.entry.Ask.{Ask}
use Rattle.desk.specs.declared.entry.Entry.{Entry}
use Rattle.desk.specs.declared.entry.Noted.{Noted}
use Rattle.desk.specs.Journal.{journal_text}
use Rattle.desk.specs.declared.state.TheConstants.{LONGEST_JOURNAL}
use Rattle.desk.specs.Desks.{list_at, pair_at}
use Rattle.desk.specs.Points.{as_one_thread, as_out_of_memory, as_unavailable, AreCountsOf, IsClosed, Keeps, caller_of}
use Rattle.desk.specs.Steps.{Outcome, AreServed, served, history_full, within_limit, entry_of, is_full}
use Rattle.conversation.specs.declared.ended.Ended.{Ended}
use Rattle.conversation.specs.Conversation.{Moment}
use Rattle.connections.specs.Calls.{UserTable, ask_of, IsAnswer}
use Rattle.connections.specs.Doors.{Shown}
use Rattle.serving.specs.declared.accepting.Served.{Served}
use Rattle.serving.specs.Serving.{AreServed as AreServedAt, Visit, HasVisitor}
use Rattle.commands.specs.Serving.{NeverFails, IsAvailable, IsOpened, Tells, TellsHistory, TellsBehind, IsVisited}
use Rattle.commands.specs.Serving.{ServesAll, ServesFrom, ServesInMemory, from_nothing}
use Rattle.commands.specs.Serving.{ServesByJournal, Serves, by_journal}
use Rattle.commands.specs.Users.{HasUsers, after_reading}
use Rattle.commands.specs.declared.finish.Finish.{Finish}
use Rattle.folder.specs.Folder.{ShownFolder}
use Rattle.std.specs.Option.{option_map}

never_true : false ≡ true → ⊥
never_true e = cc

-- a status that an engine answers isn't 503
not_503 : (outcome : Outcome) → IsTrue (list_any (λ (status : ℕ). status == outcome.status) served)
    → outcome.status ≢ 503
not_503 outcome is same =
    never_true (subst (λ (n : ℕ). IsTrue (list_any (λ (status : ℕ). status == n) served)) same is)

within : (limit : ℕ) (entries : List Entry) (ask : Ask) (plainly : Outcome) → plainly.status ≢ 503
    → (within_limit limit entries ask plainly).status ≢ 503
within limit entries ask plainly other =
    go (plainly.accepts && is_full limit entries (entry_of 0 ask))
  where
    go : (full : Bool) → (if full then history_full else plainly).status ≢ 503
    go true is = absurd (omega (arith, is))
    go false is = other is

stays_low : (before after : ℕ) → before ≡ 0 → after ≡ 0 → Rose before after → ⊥
stays_low before after low low' (inl more) = omega (arith, low, low', more)
stays_low before after low low' (inr last) = omega (arith, low', last)

always_available : {E K W A : Type 0} (plain : List Entry → Ask → Outcome → Type 0) (failures : K → ℕ)
    (steady : K → Bool) → AreServed plain → NeverFails failures steady → (desk : Desk E K W A)
    → IsAvailable plain failures steady desk
always_available {E} {K} plain failures steady law never desk users caller before wire after response answer is =
    let ask = ask_of users wire in
    elim answer.call.happens.comes_to [
      | as_one_thread step ↦ within _ _ ask step.steps.0
          (not_503 step.steps.0 (law _ ask step.steps.0 step.steps.1).status_is)
          (ap (λ (o : Outcome). o.status) (sym step.steps.2) ∙ sym step.status_is ∙ is)
      | as_unavailable down ↦
          let (earlier, later, are) = subst (λ (body : Option (List ℕ)). IfSome body (λ _. (earlier : K)
          × (later : K) × AreCountsOf failures steady answer.reply.faults earlier later)) down.body_is answer.counts in
          stays_low answer.reply.faults.0 answer.reply.faults.1 (are.before_is ∙ (never earlier).1)
          (are.after_is ∙ (never later).1) down.rose
      | as_out_of_memory lost ↦ omega (arith, lost.status_is, is)
    ]

-- ---- what is told

-- the lines are those of the history
pub told_of : (cells : List Entry → ℕ → Type 0) (entries : List Entry) (calls count bytes : ℕ)
    (written written' : Option (List ℕ)) (shortages shortages' : ℕ) (end : Ended) → calls ≡ length entries
    → cells entries count → bytes ≡ length (journal_text entries)
    → Tells calls count bytes written written' shortages shortages' end
    → TellsHistory cells entries written written' shortages shortages' end
told_of cells entries calls count bytes written written' shortages shortages' end calls_are count_is bytes_are tells =
    record {
      count = count;
      count_is = count_is;
      tells = subst (λ (n : ℕ). Tells n count (length (journal_text entries)) written written' shortages shortages' end)
          calls_are (subst (λ (n : ℕ). Tells calls count n written written' shortages shortages' end) bytes_are tells);
    }

-- the first pass had number 0, no other number was drawn, and it had seen the list at the opening
all_visited : {E K W A : Type 0} (start : List Noted) (desk : Desk E K W A) (pass : Pass Noted)
    → IsOpened start desk pass → (visits : List Visit) (told : List Noted)
    → All (HasVisitor (number_of pass) (count_of pass) visits) (drop (length (seen_by pass)) told)
    → All (IsVisited visits) (drop (length start) told)
all_visited start desk pass opened visits told all =
    subst (λ (l : List Noted). All (IsVisited visits) (drop (length l) told)) opened.seen_is
    (All-weaker (HasVisitor (number_of pass) (count_of pass) visits) (IsVisited visits)
    (λ item has. elim has [
      | inl there ↦ there
      | inr (low, other) ↦ absurd (other (omega (arith, low, opened.drawn_is, opened.number_is)))
    ])
    (drop (length (seen_by pass)) told) all)

-- connections were served at a desk, and what is told is told
pub serves_at : {E K W A : Type 0} (plain : List Entry → Ask → Outcome → Type 0) (cells : List Entry → ℕ → Type 0)
    (failures : K → ℕ) (steady : K → Bool) (start : List Noted) (desk : Desk E K W A) (pass : Pass Noted)
    (users : UserTable) (limit : ℕ) (end end' : Served)
    (before after : Moment (Option Shown)) (entries : List Entry) (failed : ℕ) (kept : Option (List ℕ)) (by : Ended)
    → AreServed plain → IsOpened start desk pass → end ≡ end'
    → AreServedAt plain (IsAnswer plain failures steady) desk users pass limit end before.state after.state
    entries failed
    kept
    → TellsBehind cells end' entries before.written after.written before.shortages after.shortages by
    → ServesAll E K W A plain cells failures steady users limit start before after kept by
serves_at plain cells failures steady start desk pass users limit end end' before after entries failed kept by law
    opened end_is served told =
    let these = subst (λ (e : Served). AreServedAt plain (IsAnswer plain failures steady) desk users pass limit e
    before.state after.state entries failed kept) end_is served in
    record {
      desk = desk;
      pass = pass;
      opened = opened;
      available = λ never. always_available plain failures steady law never desk;
      accepted = end';
      entries = entries;
      failed = failed;
      served = these;
      visited = all_visited start desk pass opened these.talked.visits these.told (these.visitors opened.alone);
      told = told;
    }

-- ---- a desk at which nobody called

-- an item of no number is none
none_below : (items : List Noted) → All (λ item. caller_of item < 1) items → NoneOf caller_of 0 items → items ≡ []
none_below [] below none = refl
none_below (item ∷ items) below none =
    let low : caller_of item < 1 = All-head (λ (i : Noted). caller_of i < 1) item items below in
    absurd (All-head (λ (i : Noted). caller_of i ≢ 0) item items none (omega (arith, low)))

drop_front : (xs ys : List Noted) → drop (length xs) (xs ++ ys) ≡ ys
drop_front [] ys = refl
drop_front (x ∷ xs) ys = drop_front xs ys

-- a desk that is closed by its first pass, which made no call and gave no number away, tells what it was opened with
nothing_told : {E K W A : Type 0} (plain : List Entry → Ask → Outcome → Type 0) (start : List Noted)
    (desk : Desk E K W A) (pass : Pass Noted) → IsOpened start desk pass → (failures callers : ℕ) (entries : List Entry)
    (kept : Option (List ℕ))
    (closed : IsClosed plain (list_at desk) (pair_at desk) callers pass entries failures kept) → closed.told ≡ start
nothing_told plain start desk pass is failures callers entries kept closed =
    let rest = closed.begins.0 in
    let parts : closed.told ≡ start ++ rest = closed.begins.1 ∙ ap (λ (l : List Noted). l ++ rest) is.seen_is in
    let behind : drop (length start) closed.told ≡ rest = ap (λ (l : List Noted). drop (length start) l) parts
    ∙ drop_front start rest in
    let below = subst (λ (n : ℕ). All (λ item. caller_of item < n) (drop (length (list_at desk)) closed.told))
    is.drawn_is (closed.alone is.alone) in
    let below' = subst (λ (l : List Noted). All (λ item. caller_of item < 1) (drop (length l) closed.told)) is.list_is
    below in
    let none = subst (λ (n : ℕ). NoneOf caller_of n (drop (length (seen_by pass)) closed.told)) is.number_is
    closed.not_own in
    let none' = subst (λ (l : List Noted). NoneOf caller_of 0 (drop (length l) closed.told)) is.seen_is none in
    let empty = none_below rest (subst (All (λ item. caller_of item < 1)) behind below')
    (subst (NoneOf caller_of 0) behind none') in
    parts ∙ ap (λ (l : List Noted). start ++ l) empty ∙ append-nil start

pub keeps_start : {E K W A : Type 0} (plain : List Entry → Ask → Outcome → Type 0) (start : List Noted)
    (desk : Desk E K W A) (pass : Pass Noted) → IsOpened start desk pass → (failures callers : ℕ) (entries : List Entry)
    (kept : Option (List ℕ)) → IsClosed plain (list_at desk) (pair_at desk) callers pass entries failures kept
    → Keeps plain LONGEST_JOURNAL kept start
keeps_start plain start desk pass is failures callers entries kept closed =
    subst (λ (limit : ℕ). Keeps plain limit kept start) is.limit_is
    (subst (Keeps plain (pair_at desk).0 kept)
    (nothing_told plain start desk pass is failures callers entries kept closed) closed.keeps)

-- ---- doors

-- steady doors don't fail
pub never_rises : (steady steady' : Bool) (failures failures' : ℕ) → failures < last_count
    → StaysSteady steady steady' failures failures' → IsTrue steady → Rose failures failures' → ⊥
never_rises steady steady' failures failures' low stays is (inl more) = omega (arith, more, (stays is).1)
never_rises steady steady' failures failures' low stays is (inr last) = omega (arith, last, low, (stays is).1)

-- ---- a desk in memory

pub in_memory_told : {E W A : Type 0} (plain : List Entry → Ask → Outcome → Type 0) (cells : List Entry → ℕ → Type 0)
    (users : UserTable) (port limit : ℕ) (start : List Noted) (before after : Moment (Option Shown)) (kept : List ℕ)
    (end : Ended) → start ≡ []
    → ServesFrom E (List ℕ) W A plain cells (λ k. 0) (λ k. true) users port limit start before after (Some kept) end
    → ServesInMemory E W A plain cells users port limit before after end
in_memory_told {E} {W} {A} plain cells users port limit start before after kept end empty serves =
    from_nothing kept (subst (λ (l : List Noted). ServesFrom E (List ℕ) W A plain cells (λ k. 0) (λ k. true) users port
    limit l before after (Some kept) end) empty serves)

-- ---- a journal

pub by_journal_told : {E K W A : Type 0} (plain : List Entry → Ask → Outcome → Type 0)
    (cells : List Entry → ℕ → Type 0) (failures : K → ℕ) (steady : K → Bool) (port limit : ℕ)
    (users journal : Option (List ℕ)) (name : List ℕ) (table : UserTable) (shown read shown' : Option ShownFolder)
    (before after : Moment (Option Shown)) (end : Finish) → HasUsers shown users table → journal ≡ Some name
    → read ≡ option_map (after_reading users) shown
    → ServesByJournal E K W A plain cells failures steady table port limit name read shown' before after end
    → Serves E K W A plain cells failures steady port limit users journal shown shown' before after end
by_journal_told {E} {K} {W} {A} plain cells failures steady port limit users journal name table shown read shown' before
    after end has named is serves =
    by_journal table name has named (subst (λ (o : Option ShownFolder). ServesByJournal E K W A plain cells failures
    steady table port limit name o shown' before after end) is serves)
