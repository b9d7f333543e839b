-- Laws of merges: a sheet that gets some is found with them, and lines of an area can be some of its sheet.
use Rattle.std.proofs.Common.{◌≡◌, ℕ, ◌+◌, ◌≤◌, arith, refl, ap, ◌∙◌, cond, Bool, true, false, List, [], ◌∷◌, map}
use Rattle.std.specs.Prelude.{Option, Some, ◌==◌}
use Rattle.std.proofs.lemmas.Option.{none-some, same_Some}
use Rattle.grid_range.specs.Area.{band_on}
use Rattle.grid_range.specs.Band.{HasLine, Within}
use Rattle.grid_range.specs.declared.area.Area.{Area}
use Rattle.grid_range.specs.declared.axis.Axis.{Axis}
use Rattle.grid_range.specs.declared.axis.Axis.TheVariants.{Rows, Columns}
use Rattle.grid_range.specs.declared.band.Band.{Band}
use Rattle.grid_range.specs.declared.band.Band.TheVariants.{Whole, From, Span}
use Rattle.merge_ranges.specs.Merges.{HasEnds, IsRectangle}
use Rattle.merge_ranges.specs.Tests.{line_of}
use Rattle.world_model.specs.Sheet.{PlaceSheet}
use Rattle.world_model.specs.SheetChange.{place_merged}
use Rattle.world_model.specs.Sound.{place_sheet_with}
use Rattle.dimension_ops.specs.MergeRequests.{IsOfSheet}

-- ---- the sheet that is found

module _ (id : ℕ) (merges : List Area) where
  abbrev gets : PlaceSheet → PlaceSheet
  gets sheet = cond (sheet.id == id) (place_merged merges sheet) sheet

  either_set : (b : Bool) (s found : PlaceSheet) (rest rest' : Option PlaceSheet) → (s.id == id) ≡ b
      → (rest ≡ Some found → rest' ≡ Some (place_merged merges found)) → cond b (Some s) rest ≡ Some found
      → cond ((cond b (place_merged merges s) s).id == id) (Some (cond b (place_merged merges s) s)) rest'
      ≡ Some (place_merged merges found)
  either_set true s found rest rest' here behind is =
      ap (λ b. cond b (Some (place_merged merges s)) rest') here
      ∙ ap (λ (sheet : PlaceSheet). Some (place_merged merges sheet)) (same_Some s found is)
  either_set false s found rest rest' away behind is = ap (λ b. cond b (Some s) rest') away ∙ behind is

  -- it has them then
  pub found_with : (sheets : List PlaceSheet) (found : PlaceSheet) → place_sheet_with id sheets ≡ Some found
      → place_sheet_with id (map gets sheets) ≡ Some (place_merged merges found)
  found_with [] found is = absurd (none-some found is)
  found_with (s ∷ ss) found is =
      either_set (s.id == id) s found (place_sheet_with id ss) (place_sheet_with id (map gets ss)) refl
      (found_with ss found) is

-- ---- a line of an area

span_line : (band : Band) (line count : ℕ) → HasEnds band → HasLine band line → Within band count
    → line + 1 ≤ count
span_line Whole line count ends has within = absurd ends
span_line (From start) line count ends has within = absurd ends
span_line (Span start end) line count ends has within =
    let below = has.1 in let most = within.1 in omega (arith, below, most)

-- a line of an area of a sheet is of it
pub line_is_of : (axis : Axis) (area : Area) (sheet : PlaceSheet) (line : ℕ) → IsRectangle area
    → HasLine (band_on axis area) line → IsOfSheet sheet area → IsOfSheet sheet (line_of axis area line)
line_is_of Rows area sheet line is has of =
    (of.0, ((omega arith, span_line area.rows line sheet.table.rows is.0 has of.1.0), of.1.1))
line_is_of Columns area sheet line is has of =
    (of.0, (of.1.0, (omega arith, span_line area.cols line sheet.table.cols is.1 has of.1.1)))
