-- What a record of calls says of a disk, and how it grows.
use Rattle.std.proofs.Common.{◌≡◌, ◌⊎◌, inl, inr, ⊎_elim, ℕ, zero, suc, ◌+◌, ◌<◌, ◌≤◌, Bool, true, false, List, []}
use Rattle.std.proofs.Common.{◌∷◌, ◌++◌, length, get_or, take, drop, refl, sym, ◌∙◌, ap, subst, arith, length-append}
use Rattle.std.proofs.Common.{length-drop, take-append-drop}
use Rattle.std.proofs.lemmas.List.{append-nil, take-append-le, take_all, drop-append-le, drop_all}
use Rattle.std.proofs.lemmas.Bool.{cases_lt, true≢false}
use Rattle.std.proofs.Math.Seq.{drop-append_seam, take-suc}
use Rattle.journal_disk.specs.Disk.{Holds, Torn, Elapses, Follows, Only, most_bytes}
use Rattle.journal_disk.specs.Recorded.{DiskState, empty, over, state_after_call, state_after, MayLeave, LeftSince}
use Rattle.journal_disk.specs.Recorded.{AllSound, bytes_end, place_end, IsReplayed}
use Rattle.journal_disk.specs.Laws.{torn_over, IsOneOf, seen_torn}
use Rattle.journal_disk.specs.declared.calls.Call.{Call}
use Rattle.journal_disk.specs.declared.calls.Call.TheVariants.{Size, Read, Write, Sync}

-- one call more
pub calls_push : (written : List ℕ) (held : DiskState) (calls : List Call) (call : Call)
    → state_after written held (calls ++ call ∷ []) ≡ state_after_call written (state_after written held calls) call
calls_push written held [] call = refl
calls_push written held (first ∷ calls) call = calls_push written (state_after_call written held first) calls call

-- bytes behind those that were written don't change what a write wrote
same_bytes : (written more : List ℕ) (from count : ℕ) → from + count ≤ length written
    → take count (drop from (written ++ more)) ≡ take count (drop from written)
same_bytes written more from count within =
    ap (λ (l : List ℕ). take count l) (drop-append-le from written more (omega (arith, within)))
    ∙ take-append-le count (drop from written) more (omega (arith, within, length-drop from written))

same_call : (written more : List ℕ) (held : DiskState) (call : Call) → bytes_end call ≤ length written
    → state_after_call (written ++ more) held call ≡ state_after_call written held call
same_call written more held (Size failed) within = refl
same_call written more held (Read failed) within = refl
same_call written more held (Write at from count true) within = refl
same_call written more held (Write at from count false) within =
    ap (λ (l : List ℕ). record {
      seen = over at l held.seen;
      settled = held.settled;
      unsettled = (at, count) ∷ held.unsettled;
    }) (same_bytes written more from count within)
same_call written more held (Sync true) within = refl
same_call written more held (Sync false) within = refl

same_calls : (written more : List ℕ) (held : DiskState) (k : ℕ) (calls : List Call) → AllSound (length written) calls
    → state_after (written ++ more) held (take k calls) ≡ state_after written held (take k calls)
same_calls written more held zero calls sound = refl
same_calls written more held (suc k) [] sound = refl
same_calls written more held (suc k) (call ∷ calls) sound =
    same_calls written more (state_after_call (written ++ more) held call) k calls
    (λ i d le. sound (suc i) d (omega (arith, le)))
    ∙ ap (λ (h : DiskState). state_after written h (take k calls))
    (same_call written more held call (sound 0 call (omega arith)).0)

-- all calls, and one more
pub held_push : (written more : List ℕ) (calls : List Call) (call : Call) → AllSound (length written) calls
    → state_after (written ++ more) empty (calls ++ call ∷ []) ≡ state_after_call (written ++ more)
    (state_after written empty calls) call
held_push written more calls call sound =
    let whole : take (length calls) calls ≡ calls = take_all (length calls) calls (omega arith) in
    let same : state_after (written ++ more) empty calls ≡ state_after written empty calls =
    ap (λ (l : List Call). state_after (written ++ more) empty l) (sym whole)
    ∙ same_calls written more empty (length calls) calls sound
    ∙ ap (λ (l : List Call). state_after written empty l) whole in
    calls_push (written ++ more) empty calls call ∙ ap (λ (h : DiskState). state_after_call
    (written ++ more) h call) same

-- the record stays sound
pub sound_push : (written more : List ℕ) (calls : List Call) (call : Call) → AllSound (length written) calls
    → bytes_end call ≤ length (written ++ more) → place_end call ≤ most_bytes
    → AllSound (length (written ++ more)) (calls ++ call ∷ [])
sound_push written more [] call sound within small zero d le = (within, small)
sound_push written more [] call sound within small (suc i) d le = absurd (omega (arith, le))
sound_push written more (first ∷ calls) call sound within small zero d le =
    (omega (arith, (sound 0 d (omega arith)).0, length-append written more), (sound 0 d (omega arith)).1)
sound_push written more (first ∷ calls) call sound within small (suc i) d le =
    sound_push written more calls call (λ j e less. sound (suc j) e (omega (arith, less))) within small i d
    (omega (arith, le))

pub torn_then : (at count : ℕ) (old mid new : List ℕ) → Torn at count old mid → Torn at count mid new
    → Torn at count old new
torn_then at count old mid new first second = record {
  before = λ front le within. second.before front le (omega (arith, within, first.no_shorter))
      ∙ first.before front le within;
  after = second.after ∙ first.after;
  no_shorter = omega (arith, first.no_shorter, second.no_shorter);
  no_longer = omega (arith, first.no_longer, second.no_longer);
}

-- an image that grew to a place in the range
pub torn_grown : (at count : ℕ) (old more : List ℕ) → length old + length more ≤ at + count
    → Torn at count old (old ++ more)
torn_grown at count old more le = record {
  before = λ n n_le n_in. take-append-le n old more n_in;
  after = drop_all (at + count) (old ++ more) (omega (arith, length-append old more, le))
      ∙ sym (drop_all (at + count) old (omega (arith, le)));
  no_shorter = omega (arith, length-append old more);
  no_longer = omega (arith, length-append old more, le);
}

pub elapses_same : (written : List ℕ) (calls : List Call)
    → Elapses (length calls) (length calls) (LeftSince written calls) (LeftSince written calls) (MayLeave written calls)
elapses_same written calls = record {
  later = omega arith;
  nothing_else = λ t image le left. inl left;
  keeps = λ t image le left. left;
}

module _ (written newly : List ℕ) (calls : List Call) (call : Call)
    (same : (k : ℕ) → state_after newly empty (take k calls) ≡ state_after written empty (take k calls)) where
  earlier : (k : ℕ) → k ≤ length calls → state_after newly empty (take k
      (calls ++ call ∷ [])) ≡ state_after written empty (take k calls)
  earlier k le = ap (λ (l : List Call). state_after newly empty l) (take-append-le k calls (call ∷ []) le) ∙ same k

  before_call : (t : ℕ) (image : List ℕ) (since : LeftSince newly (calls ++ call ∷ []) t image)
      → since.count ≤ length calls → LeftSince written calls t image
  before_call t image since le = record {
    count = since.count;
    later = since.later;
    made = le;
    left = record {
      torn = subst (λ (h : DiskState). IsOneOf h image) (earlier since.count le) since.left.torn;
      small = since.left.small;
    };
  }

  at_call : (t : ℕ) (image : List ℕ) (since : LeftSince newly (calls ++ call ∷ []) t image) → length calls < since.count
      → MayLeave newly (calls ++ call ∷ []) image
  at_call t image since lt = subst (λ (l : List Call). MayLeave newly l image) (take_all since.count
      (calls ++ call ∷ []) (omega (arith, lt, length-append calls (call ∷ [])))) since.left

  pub elapses_push : Elapses (length calls) (length (calls ++ call ∷ [])) (LeftSince written calls)
      (LeftSince newly (calls ++ call ∷ [])) (MayLeave newly (calls ++ call ∷ []))
  elapses_push = record {
    later = omega (arith, length-append calls (call ∷ []));
    nothing_else = λ t image le since. ⊎_elim (λ lt. inr (at_call t image since lt))
        (λ le_count. inl (before_call t image since le_count)) (cases_lt (length calls) since.count);
    keeps = λ t image le since. record {
      count = since.count;
      later = since.later;
      made = omega (arith, since.made, length-append calls (call ∷ []));
      left = record {
        torn = subst (λ (h : DiskState). IsOneOf h image) (sym
            (earlier since.count since.made)) since.left.torn;
        small = since.left.small;
      };
    };
  }

-- A call that writes nothing, and is noted where there is room
module _ (written : List ℕ) (calls later : List Call) (call : Call)
    (noted : (later ≡ calls) ⊎ (later ≡ calls ++ call ∷ [])) where
  pub notes_sound : AllSound (length written) calls → bytes_end call ≡ 0 → place_end call ≡ 0
      → AllSound (length written) later
  notes_sound sound none nowhere = elim noted [
    | inl same ↦ subst (λ (l : List Call). AllSound (length written) l) (sym same) sound
    | inr more ↦
        let pushed = sound_push written [] calls call sound (omega (arith, none)) (omega (arith, nowhere)) in
        subst (λ (l : List Call). AllSound (length written) l) (sym more)
        (subst (λ (w : List ℕ). AllSound (length w) (calls ++ call ∷ [])) (append-nil written) pushed)
  ]

  pub notes_told : (bytes : List ℕ) → ((held : DiskState) → (state_after_call written held call).seen ≡ held.seen)
      → bytes ≡ (state_after written empty calls).seen → bytes ≡ (state_after written empty later).seen
  notes_told bytes quiet told = elim noted [
    | inl same ↦ told ∙ ap (λ (l : List Call). (state_after written empty l).seen) (sym same)
    | inr more ↦ told ∙ sym (quiet (state_after written empty calls))
        ∙ ap (λ (h : DiskState). h.seen) (sym (calls_push written empty calls call))
        ∙ ap (λ (l : List Call). (state_after written empty l).seen) (sym more)
  ]

  pub notes_time : Elapses (length calls) (length later) (LeftSince written calls) (LeftSince written later)
      (MayLeave written later)
  notes_time = elim noted [
    | inl same ↦ subst (λ (l : List Call). Elapses (length calls) (length l) (LeftSince written calls)
        (LeftSince written l) (MayLeave written l)) (sym same) (elapses_same written calls)
    | inr more ↦ subst (λ (l : List Call). Elapses (length calls) (length l) (LeftSince written calls)
        (LeftSince written l) (MayLeave written l)) (sym more) (elapses_push written written calls call (λ k. refl))
  ]

  -- each image that it may leave is one that might have been left
  pub notes_crash : (image : List ℕ) → ((held : DiskState) → IsOneOf held held.seen
      → IsOneOf (state_after_call written held call) image → IsOneOf held image) → MayLeave written later image
      → MayLeave written calls image
  notes_crash image quiet left = elim noted [
    | inl same ↦ subst (λ (l : List Call). MayLeave written l image) same left
    | inr more ↦
        let after = subst (λ (l : List Call). MayLeave written l image) more left in
        let torn = subst (λ (h : DiskState). IsOneOf h image) (calls_push written empty calls call) after.torn in
        record {
          torn = quiet (state_after written empty calls) (seen_torn written empty calls refl) torn;
          small = left.small;
        }
  ]

-- a sync settles what is read, or nothing
pub sync_seen : (written : List ℕ) (failed : Bool) (held : DiskState)
    → (state_after_call written held (Sync failed)).seen ≡ held.seen
sync_seen written true held = refl
sync_seen written false held = refl

pub sync_leaves : (written : List ℕ) (failed : Bool) (image : List ℕ) (held : DiskState) → IsOneOf held held.seen
    → IsOneOf (state_after_call written held (Sync failed)) image → IsOneOf held image
sync_leaves written true image held one left = left
sync_leaves written false image held one left = subst (λ (l : List ℕ). IsOneOf held l) (sym left) one

pub sync_only : (written : List ℕ) (calls later : List Call) (failed : Bool) (bytes : List ℕ) → failed ≡ false
    → later ≡ calls ++ Sync failed ∷ [] → bytes ≡ (state_after written empty calls).seen
    → Only bytes (MayLeave written later)
sync_only written calls later true bytes done is told image left = absurd (true≢false done)
sync_only written calls later false bytes done is told image left =
    let after = subst (λ (l : List Call). MayLeave written l image) is left in
    subst (λ (h : DiskState). IsOneOf h image) (calls_push written empty calls (Sync false)) after.torn ∙ sym told

unsettled_more : (written : List ℕ) (at from count : ℕ) (failed : Bool) (held : DiskState) (image : List ℕ)
    → IsOneOf (state_after_call written held (Write at from count failed)) image → (earlier : List ℕ)
    × IsOneOf held earlier × Torn at count earlier image
unsettled_more written at from count true held image left = left
unsettled_more written at from count false held image left = left

-- A write that is noted
module _ (written with : List ℕ) (calls : List Call) (at : ℕ) (failed : Bool)
    (sound : AllSound (length written) calls) where
  abbrev wrote : Call
  wrote = Write at (length written) (length with) failed

  wrote_sound : at + length with ≤ most_bytes → AllSound (length (written ++ with)) (calls ++ wrote ∷ [])
  wrote_sound small = sound_push written with calls wrote sound (omega (arith, length-append written with)) small

  wrote_time : Elapses (length calls) (length (calls ++ wrote ∷ [])) (LeftSince written calls)
      (LeftSince (written ++ with) (calls ++ wrote ∷ [])) (MayLeave (written ++ with) (calls ++ wrote ∷ []))
  wrote_time = elapses_push written (written ++ with) calls wrote (λ k. same_calls written with empty k calls sound)

  wrote_crash : Follows (Torn at (length with)) (MayLeave written calls)
      (MayLeave (written ++ with) (calls ++ wrote ∷ []))
  wrote_crash image left =
      let torn = subst (λ (h : DiskState). IsOneOf h image) (held_push written with calls wrote sound) left.torn in
      let from = unsettled_more (written ++ with) at (length written) (length with) failed
      (state_after written empty calls) image torn in
      (from.0, record { torn = from.1; small = omega (arith, from.2.no_shorter, left.small) }, from.2)

wrote_told : (written with : List ℕ) (calls : List Call) (at : ℕ) (failed : Bool) (old new : List ℕ)
    → AllSound (length written) calls → (failed ≡ false → Holds old at with new) → (failed ≡ true → new ≡ old)
    → old ≡ (state_after written empty calls).seen
    → new ≡ (state_after (written ++ with) empty
    (calls ++ Write at (length written) (length with) failed ∷ [])).seen
wrote_told written with calls at true old new sound done kept told =
    kept refl ∙ told ∙ ap (λ (h : DiskState). h.seen)
    (sym (held_push written with calls (Write at (length written) (length with) true) sound))
wrote_told written with calls at false old new sound done kept told =
    let wrote : with ≡ take (length with) (drop (length written) (written ++ with)) =
    sym (take_all (length with) with (omega arith))
    ∙ ap (λ (l : List ℕ). take (length with) l) (sym (drop-append_seam written with)) in
    done refl ∙ ap (λ (l : List ℕ). over at with l) told
    ∙ ap (λ (l : List ℕ). over at l (state_after written empty calls).seen) wrote
    ∙ ap (λ (h : DiskState). h.seen) (sym (held_push written with calls
    (Write at (length written) (length with) false) sound))

pub wrote_small : (at : ℕ) (with old new : List ℕ) (failed : Bool) → (failed ≡ false → Holds old at with new)
    → (failed ≡ true → new ≡ old) → at + length with ≤ most_bytes → length old ≤ most_bytes → length new ≤ most_bytes
wrote_small at with old new true done kept room small = omega (arith, ap length (kept refl), small)
wrote_small at with old new false done kept room small =
    omega (arith, ap length (done refl), (torn_over at (length with) with old (omega arith)).no_longer, room, small)

-- what a write that failed left is the same
pub wrote_none : (old : List ℕ) (at : ℕ) (with new : List ℕ) → new ≡ old → Holds old at (take 0 with) new
wrote_none old at with new is =
    let none_more : at + 0 ≡ at = omega arith in
    is ∙ sym (ap (λ (l : List ℕ). l ++ drop (at + 0) old) (append-nil (take at old))
    ∙ ap (λ (n : ℕ). take at old ++ drop n old) none_more ∙ take-append-drop at old)

-- The same of the record that a disk then has
module _ (written with newly : List ℕ) (calls later : List Call) (at : ℕ) (failed : Bool)
    (grown : newly ≡ written ++ with) (noted : later ≡ calls ++ Write at (length written) (length with) failed ∷ [])
    (sound : AllSound (length written) calls) where
  both : (P : List ℕ → List Call → Type 0) → P (written ++ with) (calls
      ++ Write at (length written) (length with) failed ∷ []) → P newly later
  both P so = subst (λ (w : List ℕ). P w later) (sym grown)
      (subst (λ (l : List Call). P (written ++ with) l) (sym noted) so)

  pub write_sound : at + length with ≤ most_bytes → AllSound (length newly) later
  write_sound small = both (λ w l. AllSound (length w) l) (wrote_sound written with calls at failed sound small)

  pub write_told : (old new : List ℕ) → (failed ≡ false → Holds old at with new) → (failed ≡ true → new ≡ old)
      → old ≡ (state_after written empty calls).seen → new ≡ (state_after newly empty later).seen
  write_told old new done kept told = both (λ w l. new ≡
      (state_after w empty l).seen) (wrote_told written with calls at failed old new sound done kept told)

  pub write_time : Elapses (length calls) (length later) (LeftSince written calls) (LeftSince newly later)
      (MayLeave newly later)
  write_time = both (λ w l. Elapses (length calls) (length l) (LeftSince written calls) (LeftSince w l) (MayLeave w l))
      (wrote_time written with calls at failed sound)

  pub write_crash : Follows (Torn at (length with)) (MayLeave written calls) (MayLeave newly later)
  write_crash = both (λ w l. Follows (Torn at (length with)) (MayLeave written calls) (MayLeave w l))
      (wrote_crash written with calls at failed sound)

-- A replay goes on by one call.
pub replays_on : (written bytes : List ℕ) (all calls : List Call) (index : ℕ) (d : Call)
    (seen image seen_then image_then : List ℕ) → bytes ≡ written → calls ≡ all → index < length calls
    → IsReplayed (state_after written empty (take index all)) seen image
    → ((held : DiskState) → IsReplayed held seen image
    → IsReplayed (state_after_call bytes held (get_or calls index d)) seen_then image_then)
    → IsReplayed (state_after written empty (take (index + 1) all)) seen_then image_then
replays_on written bytes all calls index d seen image seen_then image_then same_written same_all within before step =
    let held = state_after written empty (take index calls) in
    let so_far = subst (λ (l : List Call). IsReplayed (state_after written empty (take index l)) seen image)
    (sym same_all) before in
    let stepped = subst (λ (w : List ℕ). IsReplayed
    (state_after_call w held (get_or calls index d)) seen_then image_then) same_written (step held so_far) in
    let next : index + 1 ≡ suc index = omega arith in
    let more = ap (λ (l : List Call). state_after written empty l)
    (ap (λ (n : ℕ). take n calls) next ∙ take-suc calls index d within)
    ∙ calls_push written empty (take index calls) (get_or calls index d) in
    subst (λ (l : List Call). IsReplayed (state_after written empty (take (index + 1) l)) seen_then image_then) same_all
    (subst (λ (h : DiskState). IsReplayed h seen_then image_then) (sym more) stepped)
