-- A write of one cell: what it makes of a spreadsheet, by the names of the cell's lines, and by its place.
use Rattle.std.specs.Prelude.{ℕ, map, Option, None, Some, ◌==◌, ◌&&◌, if◌then◌else◌}
use Rattle.ref_rewrite.specs.declared.cell_content.Content.{Content}
use Rattle.cell_store.specs.Table.{Table, with_item, without_item}
use Rattle.world_model.specs.Book.{NameBook, PlaceBook}
use Rattle.world_model.specs.Content.{NameContent}
use Rattle.world_model.specs.Sheet.{NameSheet, PlaceSheet}

-- the cell of the row and the column holds the content, or nothing; each other holds what it held
abbrev pub cells_written : ℕ → ℕ → Option NameContent → (ℕ → ℕ → Option NameContent) → ℕ → ℕ → Option NameContent
cells_written row col content cells r c = if r == row && c == col then content else cells r c

abbrev pub sheet_written : ℕ → ℕ → ℕ → Option NameContent → NameSheet → NameSheet
sheet_written id row col content sheet =
    if sheet.id == id then record sheet { cells = cells_written row col content sheet.cells } else sheet

-- the cell of the row and the column of the sheet with the id holds that, and all else is as it was
abbrev pub book_written : ℕ → ℕ → ℕ → Option NameContent → NameBook → NameBook
book_written id row col content book =
    record book { sheets = map (sheet_written id row col content) book.sheets }

-- the table with the item, or with nothing, at the place
abbrev pub table_written : {T : Type 0} → ℕ → ℕ → Option T → Table T → Table T
table_written row col None table = without_item table row col
table_written row col (Some item) table = with_item table row col item

abbrev pub sheet_put : ℕ → ℕ → ℕ → Option Content → PlaceSheet → PlaceSheet
sheet_put id row col content sheet =
    if sheet.id == id then record sheet { table = table_written row col content sheet.table } else sheet

-- the same by the cell's place
abbrev pub book_put : ℕ → ℕ → ℕ → Option Content → PlaceBook → PlaceBook
book_put id row col content book = record book { sheets = map (sheet_put id row col content) book.sheets }
