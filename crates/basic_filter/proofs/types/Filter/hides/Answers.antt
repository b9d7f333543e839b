use Rattle.std.proofs.Common.{◌≡◌, ◌⊎◌, ◌∙◌, List, [], ◌∷◌, false, refl, ⊎_elim}
use Rattle.std.proofs.lemmas.Slice.Zip.{either_empty_from_Zip}
use Rattle.cell_value.specs.declared.cell.Value.{Value}
use Rattle.basic_filter.specs.declared.types.Criterion.{Criterion}
use Rattle.basic_filter.specs.Hiding.{hides}
use Rattle.basic_filter.proofs.types.Filter.hides.Goals as goal

-- no cell is left, and none is hidden
none_left : (criteria : List Criterion) (values : List Value) → (criteria ≡ []) ⊎ (values ≡ [])
    → false ≡ hides criteria values
none_left [] values empty = refl
none_left (criterion ∷ criteria) [] empty = refl
none_left (criterion ∷ criteria) (value ∷ values) empty =
    ⊎_elim (λ none. absurd (cc)) (λ none. absurd (cc)) empty

pub returns : goal.returns
returns c =
    none_left _ _ (either_empty_from_Zip _ c.next.new.self _ c.in-None.is c.next.ensures.steps)
    ∙ c.loop-criterion.invariant
