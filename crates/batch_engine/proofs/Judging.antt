-- Members that are judged one after another.
use Rattle.std.proofs.Common.{◌≡◌, ℕ, ◌+◌, ◌<◌, ◌≤◌, List, [], ◌∷◌, ◌++◌, length, drop, get_or, refl, sym, ap, subst, ◌∙◌}
use Rattle.std.specs.Prelude.{OnOk, Option, Result, Ok, Err}
use Rattle.std.proofs.lemmas.List.{drop_more, drop_all}
use Rattle.cell_value.specs.declared.cell.Render.{Render}
use Rattle.dimension_ops.specs.Rules.{IsUnlessNoMemory}
use Rattle.dimension_ops.specs.declared.rule.Rule.{Rule}
use Rattle.dimension_ops.specs.declared.rule.RuleOr.{RuleOr}
use Rattle.grid_range.specs.declared.axis.Axis.{Axis}
use Rattle.sheets_json.specs.declared.answer.ShownRange.{ShownRange}
use Rattle.world_model.specs.Book.{PlaceBook}
use Rattle.batch_engine.specs.Calls.{as_told}
use Rattle.batch_engine.specs.Values.{IsShown}
use Rattle.batch_engine.specs.Members.{InOrder, ToldOfAll, with_first}
use Rattle.batch_engine.proofs.Judged.{judged_so}

module _ {A : Type 0} where
  -- what is told of members before others
  abbrev pub with_all : List A → ToldOfAll A → ToldOfAll A
  with_all [] rest = rest
  with_all (first ∷ later) rest = with_first first (with_all later rest)

  pub with_all_more : (all : List A) (last : A) (rest : ToldOfAll A)
      → with_all (all ++ last ∷ []) rest ≡ with_all all (with_first last rest)
  with_all_more [] last rest = refl
  with_all_more (first ∷ later) last rest = ap (with_first first) (with_all_more later last rest)

  pub with_all_ok : (all : List A) → with_all all (Ok []) ≡ Ok all
  with_all_ok [] = refl
  with_all_ok (first ∷ later) = ap (with_first first) (with_all_ok later)

  pub with_all_err : (all : List A) (broken : ℕ × Rule) → with_all all (Err broken) ≡ Err broken
  with_all_err [] broken = refl
  with_all_err (first ∷ later) broken = ap (with_first first) (with_all_err later broken)

module _ {M A : Type 0} (Is : M → Result A Rule → Type 0) (members : List M) where
  -- the members before a place are answered so: what is told of the others is told behind that
  abbrev pub SoFar : ℕ → List A → Type 0
  SoFar at all = (rest : ToldOfAll A) → InOrder Is at (drop at members) rest → InOrder Is 0 members (with_all all rest)

  module _ (at : ℕ) (all : List A) (so_far : SoFar at all) where
    pub one_more : (d : M) (last : A) → at < length members → Is (get_or members at d) (Ok last)
        → SoFar (at + 1) (all ++ last ∷ [])
    one_more d last there holds rest is =
        subst (InOrder Is 0 members) (sym (with_all_more all last rest))
        (so_far (with_first last rest)
        (subst (λ list. InOrder Is at list (with_first last rest)) (sym (drop_more members at d there))
        (Ok last, holds, (rest, is, refl))))

    pub all_told : length members ≤ at → InOrder Is 0 members (Ok all)
    all_told past =
        subst (InOrder Is 0 members) (with_all_ok all)
        (so_far (Ok []) (subst (λ list. InOrder Is at list (Ok [])) (sym (drop_all at members past)) refl))

    pub broken_told : (d : M) (broken : Rule) → at < length members → Is (get_or members at d) (Err broken)
        → InOrder Is 0 members (Err (at, broken))
    broken_told d broken there holds =
        subst (InOrder Is 0 members) (with_all_err all (at, broken))
        (so_far (Err (at, broken))
        (subst (λ list. InOrder Is at list (Err (at, broken))) (sym (drop_more members at d there))
        (Err broken, holds, refl)))

-- what is told for which memory didn't run out
pub told_so : {A : Type 0} (Is : Result A Rule → Type 0) (told : Result A RuleOr) (judged : Result A Rule)
    → IsUnlessNoMemory Is told → told ≡ as_told judged → Is judged
told_so Is told judged is told_is = judged_so Is judged (subst (IsUnlessNoMemory Is) told_is is)

-- what a range shows for which memory didn't run out
pub shown_so : (dimension : Option Axis) (render : Option Render) (book : PlaceBook) (range other : List ℕ)
    (told : Result ShownRange RuleOr) (judged : Result ShownRange Rule) → other ≡ range
    → IsUnlessNoMemory (IsShown dimension render book other) told → told ≡ as_told judged
    → IsShown dimension render book range judged
shown_so dimension render book range other told judged same is told_is =
    subst (λ text. IsShown dimension render book text judged) same
    (judged_so (IsShown dimension render book other) judged
    (subst (IsUnlessNoMemory (IsShown dimension render book other)) told_is is))

-- what holds behind a member that is answered
pub judged_ok : {T : Type 0} (P : Type 0) (told : Result T RuleOr) (judged : Result T Rule) (one : T)
    → told ≡ as_told judged → judged ≡ Ok one → OnOk told P → P
judged_ok P told judged one is ok holds = subst (λ r. OnOk r P) (is ∙ ap as_told ok) holds
