-- Members that change a spreadsheet, one after another.
use Rattle.std.proofs.Common.{◌≡◌, ℕ, ◌+◌, ◌<◌, ◌≤◌, List, [], ◌∷◌, ◌++◌, length, drop, get_or, refl, sym, ap, subst, ◌∙◌}
use Rattle.std.specs.Prelude.{Result, Ok, Err}
use Rattle.std.proofs.lemmas.List.{append-nil, append_assoc, drop_more, drop_all}
use Rattle.dimension_ops.specs.declared.rule.Rule.{Rule}
use Rattle.world_model.specs.Book.{PlaceBook}
use Rattle.world_model.specs.BookChange.{AreChanges, BookChange}
use Rattle.world_model.specs.ChangingLaws.{ChangesApart, ChangesInTurn}
use Rattle.world_model.specs.Sound.{IsSound}
use Rattle.dimension_ops.specs.Rules.{IsUnlessNoMemory}
use Rattle.dimension_ops.specs.declared.rule.RuleOr.{RuleOr}
use Rattle.request_kinds.specs.Telling.{IsDoneTo}
use Rattle.batch_engine.specs.Members.{AreDone, InTurn, ThenOn, ToldOfAll, with_first}
use Rattle.batch_engine.specs.Calls.{as_told}
use Rattle.batch_engine.proofs.Judged.{judged_so}
use Rattle.batch_engine.proofs.Judging.{with_all, with_all_err, with_all_more, with_all_ok}

-- ---- members

-- the members before a place are done so, and these are their changes: what is told of the others is told behind that
pub record DoneTo {M A : Type 0} (Is : PlaceBook → M → Result (A × List BookChange) Rule → Type 0) (members : List M)
    (before : PlaceBook) (at : ℕ) (done : List A) (now : PlaceBook) : Type 0 where
  pub changes : List BookChange
  pub changed : AreChanges changes before now
  pub on : (rest : ToldOfAll A) (others : List BookChange) → InTurn Is at (drop at members) now rest others
      → InTurn Is 0 members before (with_all done rest) (changes ++ others)

module _ (turns : ChangesInTurn) {M A : Type 0} (Is : PlaceBook → M → Result (A × List BookChange) Rule → Type 0)
    (members : List M) (before : PlaceBook) where
  pub none_done : DoneTo Is members before 0 [] before
  none_done = record { changes = []; changed = turns.none before; on = λ rest others is. is }

  module _ (at : ℕ) (done : List A) (now : PlaceBook) (so_far : DoneTo Is members before at done now) where
    pub one_more : (d : M) (last : A) (made : List BookChange) (next : PlaceBook) → at < length members
        → Is now (get_or members at d) (Ok (last, made)) → AreChanges made now next
        → DoneTo Is members before (at + 1) (done ++ last ∷ []) next
    one_more d last made next there holds are = record {
      changes = so_far.changes ++ made;
      changed = turns.both so_far.changes made before now next so_far.changed are;
      on = λ rest others is.
          subst (λ all. InTurn Is 0 members before (with_all (done ++ last ∷ []) rest) all)
          (sym (append_assoc so_far.changes made others))
          (subst (λ told. InTurn Is 0 members before told (so_far.changes ++ (made ++ others)))
          (sym (with_all_more done last rest))
          (so_far.on (with_first last rest) (made ++ others)
          (subst (λ list. InTurn Is at list now (with_first last rest) (made ++ others))
          (sym (drop_more members at d there))
          (Ok (last, made), holds, (next, rest, others, are, is, refl, refl)))));
    }

    up_to_here : (told : ToldOfAll A) → InTurn Is at (drop at members) now told []
        → InTurn Is 0 members before (with_all done told) so_far.changes
    up_to_here told is =
        subst (InTurn Is 0 members before (with_all done told)) (append-nil so_far.changes) (so_far.on told [] is)

    pub all_done : length members ≤ at → AreDone Is members before now (Ok done)
    all_done past = record {
      changes = so_far.changes;
      each = subst (λ told. InTurn Is 0 members before told so_far.changes) (with_all_ok done)
          (up_to_here (Ok [])
          (subst (λ list. InTurn Is at list now (Ok []) []) (sym (drop_all at members past)) (refl, refl)));
      becomes = so_far.changed;
    }

    pub broken_there : (d : M) (broken : Rule) (next : PlaceBook) → at < length members
        → Is now (get_or members at d) (Err broken) → AreDone Is members before next (Err (at, broken))
    broken_there d broken next there holds = record {
      changes = so_far.changes;
      each = subst (λ told. InTurn Is 0 members before told so_far.changes) (with_all_err done (at, broken))
          (up_to_here (Err (at, broken))
          (subst (λ list. InTurn Is at list now (Err (at, broken)) []) (sym (drop_more members at d there))
          (Err broken, holds, (refl, refl))));
      becomes = tt;
    }

-- ---- one thing is told of members, and one list of changes

module _ (apart : ChangesApart) (turns : ChangesInTurn) {M A : Type 0}
    (Is : PlaceBook → M → Result (A × List BookChange) Rule → Type 0)
    (once : (book : PlaceBook) → IsSound book → (member : M) (one other : Result (A × List BookChange) Rule)
    → Is book member one → Is book member other → one ≡ other) where
  then_once : (IsRest : PlaceBook → ToldOfAll A → List BookChange → Type 0)
      (rest_once : (book : PlaceBook) → IsSound book → (told told' : ToldOfAll A) (changes changes' : List BookChange)
      → IsRest book told changes → IsRest book told' changes' → (told ≡ told') × (changes ≡ changes'))
      → (at : ℕ) (one : Result (A × List BookChange) Rule) (before : PlaceBook) → IsSound before
      → (told told' : ToldOfAll A)
      (changes changes' : List BookChange) → ThenOn at one IsRest before told changes
      → ThenOn at one IsRest before told' changes' → (told ≡ told') × (changes ≡ changes')
  then_once IsRest rest_once at (Ok (first, made)) before sound told told' changes changes'
      (between, rest, others, are, is, told_is, changes_are)
      (between', rest', others', are', is', told_is', changes_are') =
      let same = apart.same made before between between' sound are are' in
      let (same_rest, same_others) = rest_once between' (turns.sound made before between' sound are')
      rest rest' others others' (subst (λ book. IsRest book rest others) same is) is' in (
        told_is ∙ ap (with_first first) same_rest ∙ sym told_is',
        changes_are ∙ ap (λ list. made ++ list) same_others ∙ sym changes_are',
      )
  then_once IsRest rest_once at (Err broken) before sound told told' changes changes' is is' =
      (is.0 ∙ sym is'.0, is.1 ∙ sym is'.1)

  pub in_turn_once : (at : ℕ) (members : List M) (before : PlaceBook) → IsSound before → (told told' : ToldOfAll A)
      (changes changes' : List BookChange) → InTurn Is at members before told changes
      → InTurn Is at members before told' changes' → (told ≡ told') × (changes ≡ changes')
  in_turn_once at [] before sound told told' changes changes' is is' = (is.0 ∙ sym is'.0, is.1 ∙ sym is'.1)
  in_turn_once at (member ∷ members) before sound told told' changes changes' (one, holds, then)
      (other, holds', then') =
      then_once (InTurn Is (at + 1) members) (in_turn_once (at + 1) members) at other before sound told told'
      changes changes'
      (subst (λ first. ThenOn at first (InTurn Is (at + 1) members) before told changes)
      (once before sound member one other holds holds') then) then'

-- what came of a member for which memory didn't run out
pub done_so : {M A : Type 0} (Is : PlaceBook → M → Result (A × List BookChange) Rule → Type 0) (member other : M)
    (now next : PlaceBook) (told : Result A RuleOr) (judged : Result A Rule) → other ≡ member
    → IsUnlessNoMemory (IsDoneTo (Is now other) now next) told → told ≡ as_told judged
    → IsDoneTo (Is now member) now next judged
done_so Is member other now next told judged same is told_is =
    subst (λ one. IsDoneTo (Is now one) now next judged) same
    (judged_so (IsDoneTo (Is now other) now next) judged
    (subst (IsUnlessNoMemory (IsDoneTo (Is now other) now next)) told_is is))
