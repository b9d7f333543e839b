-- When what a program keeps, by places, stands for what is meant, by names.
use Rattle.std.specs.Prelude.{◌≡◌, ◌↔◌, ℕ, List, length, Some, None, Contains, map, slice_get}
use Rattle.std.specs.List.{AllZip}
use Rattle.std.specs.Option.{option_map}
use Rattle.grid_range.specs.Order.{IsOrder}
use Rattle.cell_store.specs.Table.{item_at}
use Rattle.world_model.specs.Area.{NameArea, area_named}
use Rattle.world_model.specs.Book.{NameBook, PlaceBook, orders_of}
use Rattle.world_model.specs.Content.{content_named}
use Rattle.world_model.specs.Filters.{filter_named}
use Rattle.world_model.specs.Metadata.{item_named}
use Rattle.world_model.specs.Protections.{protection_named}
use Rattle.world_model.specs.Ranges.{range_named}
use Rattle.world_model.specs.Sheet.{NameSheet, PlaceSheet}
use Rattle.world_model.specs.Sound.{IsSound}

-- both have one id, title, mark and size, no line has two names of an order, the item at a place is, with its
-- references by names, what is stored in the cell of the lines at that place, no other cell has anything, and both have
-- the same merges, whatever their order, and the same filter
pub record SheetStandsFor (sheets : List NameSheet) (sheet : PlaceSheet) (names : NameSheet) : Type 0 where
  pub id : sheet.id ≡ names.id
  pub title : sheet.title ≡ names.title
  pub hidden : sheet.hidden ≡ names.hidden
  pub distinct_rows : IsOrder names.rows
  pub distinct_cols : IsOrder names.cols
  pub rows : sheet.table.rows ≡ length names.rows
  pub cols : sheet.table.cols ≡ length names.cols
  pub cells : (row col r c : ℕ) → slice_get names.rows row ≡ Some r → slice_get names.cols col ≡ Some c
      → names.cells r c ≡ option_map (content_named (orders_of sheets)) (item_at sheet.table row col)
  pub nowhere_else : (r c : ℕ) → ¬ (Contains names.rows r × Contains names.cols c) → names.cells r c ≡ None
  pub merges : (area : NameArea)
      → Contains names.merges area ↔ Contains (map (area_named (orders_of sheets)) sheet.merges) area
  pub filter : names.filter ≡ option_map (filter_named (orders_of sheets)) sheet.filter

-- what is kept by places is sound, and both are one spreadsheet, sheet by sheet, range by range, protection by
-- protection and item of metadata by item of metadata
pub record BookStandsFor (book : PlaceBook) (names : NameBook) : Type 0 where
  pub sound : IsSound book
  pub id : book.id ≡ names.id
  pub title : book.title ≡ names.title
  pub owner : book.owner ≡ names.owner
  pub sheets : AllZip (SheetStandsFor names.sheets) book.sheets names.sheets
  pub ranges : names.ranges ≡ map (range_named (orders_of names.sheets)) book.ranges
  pub protections : names.protections ≡ map (protection_named (orders_of names.sheets)) book.protections
  pub metadata : names.metadata ≡ map (item_named (orders_of names.sheets)) book.metadata
