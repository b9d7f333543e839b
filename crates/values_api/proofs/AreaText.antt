-- The text of an area of a sheet.
use Rattle.std.proofs.Common.{◌≡◌, ℕ, ◌<◌, ◌≤◌, List, sym, subst, ap, ◌∙◌, arith}
use Rattle.std.specs.Prelude.{Some, IsSomeAnd, Result, Ok, Err, IfOk}
use Rattle.grid_range.specs.Area.{AreaWithin}
use Rattle.grid_range.specs.Band.{Within, first_line, end_line}
use Rattle.grid_range.specs.declared.area.Area.{Area}
use Rattle.grid_range.specs.declared.band.Band.{Band}
use Rattle.a1_notation.specs.Canonical.{IsStretch, canonical}
use Rattle.world_model.specs.Sheet.{PlaceSheet}
use Rattle.world_model.specs.Sound.{place_sheet_with}
use Rattle.values_api.specs.Ranges.{IsThere, area_text}
use Rattle.values_api.proofs.Ends.{end_small}
use Rattle.values_api.proofs.WriteEnds.{first_before}

-- the lines of a band that is within a sheet
pub stretch : (band : Band) (lines : ℕ × ℕ) (count most : ℕ) → Within band count → 0 < count → count ≤ most
    → lines.0 ≡ first_line band → lines.1 ≡ end_line band count → IsStretch lines most
stretch band lines count most within some few first end =
    let before = first_before band count within some in
    let small = end_small band count within in
    (omega (arith, before, first, end), omega (arith, small, few, end))

-- what is printed of them is the text of the area
pub text_is : {E : Type 0} (sheets : List PlaceSheet) (area : Area) (sheet : PlaceSheet) (title : List ℕ)
    (rows cols : ℕ × ℕ) (answer : Result (List ℕ) E) → place_sheet_with area.sheet sheets ≡ Some sheet
    → title ≡ sheet.title → rows ≡ (first_line area.rows, end_line area.rows sheet.table.rows)
    → cols ≡ (first_line area.cols, end_line area.cols sheet.table.cols)
    → IfOk answer (λ text. text ≡ canonical title rows cols)
    → IfOk answer (λ text. IsSomeAnd (place_sheet_with area.sheet sheets) (λ one. text ≡ area_text one area))
text_is sheets area sheet title rows cols (Err fault) found title_is rows_are cols_are is = tt
text_is sheets area sheet title rows cols (Ok text) found title_is rows_are cols_are is =
    subst (λ place. IsSomeAnd place (λ one. text ≡ area_text one area)) (sym found)
    (is ∙ ap (λ t. canonical t rows cols) title_is ∙ ap (λ lines. canonical sheet.title lines cols) rows_are
    ∙ ap (λ lines. canonical sheet.title (first_line area.rows, end_line area.rows sheet.table.rows) lines) cols_are)

pub pair_is : (lines : ℕ × ℕ) (first end : ℕ) → lines.0 ≡ first → lines.1 ≡ end → lines ≡ (first, end)
pair_is lines first end is is' = ap (λ n. (n, lines.1)) is ∙ ap (λ n. (first, n)) is'

-- the area is within its sheet
pub on_sheet : (sheets : List PlaceSheet) (area : Area) (sheet : PlaceSheet) → IsThere sheets area
    → place_sheet_with area.sheet sheets ≡ Some sheet → AreaWithin area sheet.table.rows sheet.table.cols
on_sheet sheets area sheet there found =
    subst (λ place. IsSomeAnd place (λ (one : PlaceSheet). AreaWithin area one.table.rows one.table.cols)) found there
