-- The sheets of a spreadsheet as its formulas see them (Google Sheets API v4 reference, SheetProperties), and what its
-- formulas read (CellData, `userEnteredValue`, and NamedRange).
use Rattle.std.specs.Prelude.{◌≡◌, ℕ, List, [], ◌∷◌, ◌++◌, Contains, Option, Some, map}
use Rattle.std.specs.List.{find}
use Rattle.std.specs.Option.{IsSome, option_map}
use Rattle.std.specs.Str.{bytes_eq, str_to_ascii_lowercase}
use Rattle.grid_range.specs.declared.area.Area.{Area}
use Rattle.cell_store.specs.Places.{AreFilledPlaces}
use Rattle.cell_store.specs.Table.{Table, item_at}
use Rattle.ref_rewrite.specs.declared.cell_content.Content.{Content}
use Rattle.formula_reader.specs.Sheets.{Sheets}
use Rattle.cell_calc.specs.Contents.{Contents, cell_place}
use Rattle.cell_calc.specs.declared.cells.StoredCell.{StoredCell}
use Rattle.dimension_ops.specs.Found.{content_at}
use Rattle.named_ranges.specs.Listed.{with_name}
use Rattle.world_model.specs.Book.{PlaceBook}
use Rattle.world_model.specs.Sheet.{PlaceSheet}
use Rattle.world_model.specs.Sound.{place_sheet_with}

-- how many rows and columns the sheet with the id has
abbrev pub size_of : List PlaceSheet → ℕ → Option (ℕ × ℕ)
size_of sheets id = option_map (λ sheet. (sheet.table.rows, sheet.table.cols)) (place_sheet_with id sheets)

-- the sheets of a spreadsheet as its formulas name them
abbrev pub formula_sheets : List PlaceSheet → Sheets
formula_sheets sheets = record {
  named = λ title. option_map (λ sheet. sheet.id)
      (find (λ sheet. bytes_eq (str_to_ascii_lowercase sheet.title) title) sheets);
  size = size_of sheets;
  title = λ id. option_map (λ sheet. sheet.title) (place_sheet_with id sheets);
}

-- a spreadsheet as its formulas read it: a word names the range that has it as its name
abbrev pub stored_in : PlaceBook → Contents
stored_in book = record {
  sheets = map (λ sheet. sheet.id) book.sheets;
  size = size_of book.sheets;
  content = λ place. content_at place.sheet place.row place.column book.sheets;
  named = λ word. option_map (λ range. range.area) (with_name word book.ranges);
}

-- ---- what the private functions hand to one another

-- something is stored in each of these places of a sheet
abbrev pub ArePlacesOn : Table Content → List (ℕ × ℕ) → Type 0
ArePlacesOn table places = (place : ℕ × ℕ) → Contains places place → IsSome (item_at table place.0 place.1)

-- these are the cells in those places of a sheet, each with what is stored there
pub record AreCellsAt (table : Table Content) (places : List (ℕ × ℕ)) (cells : List StoredCell) : Type 0 where
  pub at : map cell_place cells ≡ places
  pub held : (cell : StoredCell) → Contains cells cell → item_at table cell.row cell.column ≡ Some cell.content.now

-- where something is stored in the place its cell is put behind others
abbrev pub AddsCell : Table Content → ℕ × ℕ → List StoredCell → List StoredCell → Type 0
AddsCell table place before after =
    IsSome (item_at table place.0 place.1)
    → (cell : StoredCell) × (cell_place cell ≡ place) × (item_at table place.0 place.1 ≡ Some cell.content.now)
    × (after ≡ before ++ cell ∷ [])

-- these are the cells of the area in which a sheet stores something
abbrev pub AreCellsOn : Area → Table Content → List StoredCell → Type 0
AreCellsOn area table cells =
    (places : List (ℕ × ℕ)) × AreFilledPlaces area table places × AreCellsAt table places cells
