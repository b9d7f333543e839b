-- How much spreadsheets hold.
use Rattle.std.specs.Prelude.{ℕ, ◌*◌, Bool, true, false, List, Option, if◌then◌else◌}
use Rattle.std.specs.FinMap as finite
use Rattle.std.specs.List.{sum_by, count_by}
use Rattle.std.specs.Option.{option_map_or}
use Rattle.cell_store.specs.Table.{Table, filled_places}
use Rattle.ref_rewrite.specs.declared.cell_content.Content.{Content}
use Rattle.ref_rewrite.specs.declared.cell_content.Content.TheVariants as content
use Rattle.world_model.specs.Book.{PlaceBook}
use Rattle.world_model.specs.Sheet.{PlaceSheet}

-- how many places the sheets have
abbrev pub grid_places : List PlaceSheet → ℕ
grid_places sheets = sum_by (λ sheet. sheet.table.rows * sheet.table.cols) sheets

-- how many cells of the sheets are stored
abbrev pub filled_of : List PlaceSheet → ℕ
filled_of sheets = sum_by (λ sheet. filled_places sheet.table) sheets

-- how many cells of all spreadsheets are
abbrev pub filled_in : List PlaceBook → ℕ
filled_in books = sum_by (λ book. filled_of book.sheets) books

abbrev pub is_formula : Content → Bool
is_formula (content.Formula formula) = true
is_formula (content.Number number) = false
is_formula (content.Text text) = false
is_formula (content.Truth truth) = false

-- how many cells of the table hold a formula
abbrev pub formulas_in : Table Content → ℕ
formulas_in table = count_by is_formula (finite.values table.cells)

-- how many cells of the sheets hold one
abbrev pub formulas_of : List PlaceSheet → ℕ
formulas_of sheets = sum_by (λ sheet. formulas_in sheet.table) sheets

-- one where what a place holds is a formula
abbrev pub formulas_at : Option Content → ℕ
formulas_at held = option_map_or (λ item. if is_formula item then 1 else 0) held 0
