-- The range of a write is found, or breaks a rule; a range that is found lies on its sheet, which is there.
use Rattle.std.proofs.Common.{◌≡◌, ℕ, Bool, true, false, List, refl, sym, subst, cond, arith}
use Rattle.std.specs.Prelude.{Option, Some, None, Result, Ok, Err, IsSomeAnd, ◌&&◌, ◌||◌}
use Rattle.grid_range.specs.declared.area.Area.{Area}
use Rattle.world_model.specs.Book.{PlaceBook}
use Rattle.world_model.specs.Laws.{IdsFind}
use Rattle.world_model.specs.Sheet.{PlaceSheet}
use Rattle.world_model.specs.Sound.{IsSound, place_sheet_with}
use Rattle.dimension_ops.specs.declared.rule.Rule.{Rule}
use Rattle.dimension_ops.specs.declared.rule.Rule.TheVariants.{NoSheet, BadRange, OutsideGrid}
use Rattle.values_api.specs.Answered.{ReadsAnswered}
use Rattle.values_api.specs.RangeLaws.{EndOn, LiesThere, named_lies}
use Rattle.values_api.specs.Ranges.{FoundArea, Resolves}
use Rattle.batch_engine.specs.Ranges.{IsTarget, agreed, is_bad_range, is_one_area, is_outside, names_no_sheet}
use Rattle.answered_calls.proofs.Writes.{AreEndsWithin}

-- the area's sheet is there, and the area ends on it
abbrev pub EndsThere : List PlaceSheet → Area → Type 0
EndsThere sheets area = IsSomeAnd (place_sheet_with area.sheet sheets) (EndOn area)

-- values for the area go no further than the sheet does, and neither do those for one cell
pub fits_either : (one_cell : Bool) (area : Area) (sheet : PlaceSheet) → EndOn area sheet
    → AreEndsWithin one_cell area sheet
fits_either true area sheet ends = (omega arith, omega arith)
fits_either false area sheet ends = ends

-- ---- the range of a write

abbrev as_found : FoundArea → Result FoundArea Rule
as_found one = Ok one

found_not_broken : (found : FoundArea) (broken : Rule) → as_found found ≡ Err broken → ⊥
found_not_broken found broken e = cc

module _ (ids : IdsFind) (book : PlaceBook) (sound : IsSound book) where
  if_named : (no_sheet bad outside same : Bool) (one : Result FoundArea Rule) (found : FoundArea)
      → as_found found ≡ cond no_sheet (Err NoSheet) (cond bad (Err BadRange) (cond outside (Err OutsideGrid)
      (cond same one (Err BadRange)))) → as_found found ≡ one
  if_named true bad outside same one found is = absurd (found_not_broken found NoSheet is)
  if_named false true outside same one found is = absurd (found_not_broken found BadRange is)
  if_named false false true same one found is = absurd (found_not_broken found OutsideGrid is)
  if_named false false false true one found is = is
  if_named false false false false one found is = absurd (found_not_broken found BadRange is)

  pub target_lies : (range : List ℕ) (body : Option (List ℕ)) (found : FoundArea)
      → IsTarget range body book (Ok found) → LiesThere book.sheets found.0
  target_lies range None found is = named_lies ids book sound range found is
  target_lies range (Some body) found is =
      let same : as_found found ≡ is.named = if_named (names_no_sheet is.named || names_no_sheet is.said)
      (is_bad_range is.named || is_bad_range is.said) (is_outside is.named && is_outside is.said)
      (is_one_area is.named is.said) is.named found is.found_is in
      named_lies ids book sound range found (subst (Resolves range book) (sym same) is.resolves)

  pub some_target : ReadsAnswered → (range : List ℕ) (body : Option (List ℕ))
      → ¬ ((found : Result FoundArea Rule) → ¬ (IsTarget range body book found))
  some_target reads range None none = reads.resolves range book none
  some_target reads range (Some body) none =
      reads.resolves range book (λ first resolves. reads.resolves body book (λ second says.
      none (agreed first second) (record {
        named = first;
        said = second;
        resolves = resolves;
        says = says;
        found_is = refl;
      })))
