-- An update of many cells of a sheet at once, and what it makes of a spreadsheet: by the names of the lines at those
-- places, and by the places (spreadsheets.values.update and spreadsheets.values.clear of the Google Sheets API v4).
use Rattle.std.specs.Prelude.{◌≡◌, ℕ, List, map, Option, None, Some, ◌==◌, ◌&&◌, if◌then◌else◌, unwrap_or}
use Rattle.std.specs.Prelude.{option_and_then}
use Rattle.std.specs.List.{AllZip, position_from}
use Rattle.std.specs.Option.{option_map}
use Rattle.cell_store.specs.Table.{item_at}
use Rattle.ref_rewrite.specs.declared.cell_content.Content.{Content}
use Rattle.world_model.specs.Area.{Orders}
use Rattle.world_model.specs.Book.{NameBook, PlaceBook, orders_of}
use Rattle.world_model.specs.Content.{NameContent, content_named}
use Rattle.world_model.specs.Sheet.{NameSheet, PlaceSheet}

-- for each place nothing, or what it is to hold, which may be nothing: then it is emptied
abbrev pub Updates : Type 0
Updates = ℕ → ℕ → Option (Option Content)

-- no cell is updated
abbrev pub no_updates : Updates
no_updates row col = None

-- a place is to hold that, whatever it was to hold
abbrev pub with_update : ℕ → ℕ → Option Content → Updates → Updates
with_update row col content updates r c = if r == row && c == col then Some content else updates r c

-- a line's place in an order
abbrev pub place_in : List ℕ → ℕ → Option ℕ
place_in order line = position_from (λ other. other == line) 0 order

-- the update of the cell of a row and a column: that of the place where they stand, its references by names
abbrev pub update_named : Orders → NameSheet → Updates → ℕ → ℕ → Option (Option NameContent)
update_named orders sheet updates row col =
    option_and_then (λ r. option_and_then (λ c. option_map (option_map (content_named orders)) (updates r c))
    (place_in sheet.cols col)) (place_in sheet.rows row)

-- each cell of the sheet with the id holds what it is to hold, or else what it held
abbrev pub sheet_updated : Orders → ℕ → Updates → NameSheet → NameSheet
sheet_updated orders id updates sheet =
    if sheet.id == id
    then record sheet { cells = λ row col. unwrap_or (update_named orders sheet updates row col) (sheet.cells row col) }
    else sheet

-- the spreadsheet after those updates of the sheet with the id
abbrev pub book_updated : ℕ → Updates → NameBook → NameBook
book_updated id updates book =
    record book { sheets = map (sheet_updated (orders_of book.sheets) id updates) book.sheets }

-- what stands at a place of a sheet after those updates of the sheet with the id
abbrev pub item_updated : ℕ → Updates → PlaceSheet → ℕ → ℕ → Option Content
item_updated id updates sheet row col =
    if sheet.id == id then unwrap_or (updates row col) (item_at sheet.table row col) else item_at sheet.table row col

-- the same by places
pub record SheetUpdated (sheet : ℕ) (updates : Updates) (before after : PlaceSheet) : Type 0 where
  pub id : after.id ≡ before.id
  pub title : after.title ≡ before.title
  pub hidden : after.hidden ≡ before.hidden
  pub rows : after.table.rows ≡ before.table.rows
  pub cols : after.table.cols ≡ before.table.cols
  pub items : (row col : ℕ) → item_at after.table row col ≡ item_updated sheet updates before row col
  pub merges : after.merges ≡ before.merges
  pub filter : after.filter ≡ before.filter

pub record BookUpdated (sheet : ℕ) (updates : Updates) (before after : PlaceBook) : Type 0 where
  pub id : after.id ≡ before.id
  pub title : after.title ≡ before.title
  pub owner : after.owner ≡ before.owner
  pub sheets : AllZip (SheetUpdated sheet updates) before.sheets after.sheets
  pub ranges : after.ranges ≡ before.ranges
  pub protections : after.protections ≡ before.protections
  pub metadata : after.metadata ≡ before.metadata
