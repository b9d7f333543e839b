-- Cells that a change of a spreadsheet leaves keep what was entered into them (Google Sheets API v4 reference,
-- CellData, userEnteredValue): only its references follow their lines, or are lost with these or with their sheet, and
-- its words are renamed. A change of lines, of a title, of a mark, of a named range, of words, of merges, of a filter,
-- of protected ranges or of metadata leaves each cell that stays.
use Rattle.std.specs.Prelude.{◌≡◌, ◌≢◌, ℕ, List, [], ◌∷◌, Option, None, Contains, IfSome, IsSomeAnd, option_and_then, ⊤}
use Rattle.std.specs.Option.{option_map}
use Rattle.std.specs.List.{range_with_len}
use Rattle.grid_range.specs.Change.{inserted_lines, order_change}
use Rattle.world_model.specs.Book.{NameBook, orders_of, sheet_with}
use Rattle.world_model.specs.BookChange.{BookChange, Named, changed_by, changed_by_all, name_content_renamed, name_content_without}
use Rattle.world_model.specs.BookChange.BookChange.{CellsUpdated, LinesChanged, SheetAdded, SheetDeleted, SheetTitled, SheetHidden}
use Rattle.world_model.specs.BookChange.BookChange.{RangeAdded, RangeChanged, RangeDeleted, WordsRenamed, MergesSet, ProtectionsSet, MetadataSet, FilterSet}
use Rattle.world_model.specs.Content.{NameContent}
use Rattle.world_model.specs.LineChange.{line_change, name_content_followed}
use Rattle.world_model.specs.Updating.{update_named}

-- what is stored in the cell of the row and the column of the sheet with the id; nothing where the sheet isn't there
abbrev pub cell_of : ℕ → ℕ → ℕ → NameBook → Option NameContent
cell_of id row col book = option_and_then (λ sheet. sheet.cells row col) (sheet_with id book.sheets)

-- that sheet is there and has the row and the column
abbrev pub HasCell : ℕ → ℕ → ℕ → NameBook → Type 0
HasCell id row col book =
    IsSomeAnd (sheet_with id book.sheets) (λ sheet. Contains sheet.rows row × Contains sheet.cols col)

-- the change doesn't say what the cell is to hold: no update is its, and it is none of a new sheet
abbrev pub Leaves : BookChange → NameBook → ℕ → ℕ → ℕ → Type 0
Leaves (CellsUpdated sheet updates) book id row col = id ≡ sheet
    → IfSome (sheet_with id book.sheets) (λ found. update_named (orders_of book.sheets) found updates row col ≡ None)
Leaves (SheetAdded at sheet) book id row col = sheet.id ≢ id
Leaves (LinesChanged sheet axis change) book id row col = ⊤
Leaves (SheetDeleted sheet) book id row col = ⊤
Leaves (SheetTitled sheet title) book id row col = ⊤
Leaves (SheetHidden sheet hidden) book id row col = ⊤
Leaves (RangeAdded range) book id row col = ⊤
Leaves (RangeChanged range) book id row col = ⊤
Leaves (RangeDeleted range) book id row col = ⊤
Leaves (WordsRenamed old new) book id row col = ⊤
Leaves (MergesSet sheet merges) book id row col = ⊤
Leaves (ProtectionsSet protections) book id row col = ⊤
Leaves (MetadataSet items) book id row col = ⊤
Leaves (FilterSet sheet filter) book id row col = ⊤

-- what becomes of a content that stays where it is
abbrev pub content_kept : Named → BookChange → NameContent → NameContent
content_kept named (LinesChanged sheet axis change) content =
    let fresh = range_with_len named.next (inserted_lines change) in
    name_content_followed (line_change named.book.sheets sheet axis (order_change change fresh)) content
content_kept named (SheetDeleted sheet) content = name_content_without sheet content
content_kept named (CellsUpdated sheet updates) content = content
content_kept named (SheetAdded at sheet) content = content
content_kept named (SheetTitled sheet title) content = content
content_kept named (SheetHidden sheet hidden) content = content
content_kept named (RangeAdded range) content = content
content_kept named (RangeChanged range) content = content
content_kept named (RangeDeleted range) content = content
content_kept named (MergesSet sheet merges) content = content
content_kept named (ProtectionsSet protections) content = content
content_kept named (MetadataSet items) content = content
content_kept named (FilterSet sheet filter) content = content
content_kept named (WordsRenamed old new) content = name_content_renamed old new content

-- each of the changes leaves the cell, which is there after it
abbrev pub LeaveInTurn : Named → List BookChange → ℕ → ℕ → ℕ → Type 0
LeaveInTurn named [] id row col = ⊤
LeaveInTurn named (change ∷ changes) id row col = Leaves change named.book id row col
    × HasCell id row col (changed_by named change).book × LeaveInTurn (changed_by named change) changes id row col

-- what becomes of it by one change after another
abbrev pub content_kept_by_all : Named → List BookChange → NameContent → NameContent
content_kept_by_all named [] content = content
content_kept_by_all named (change ∷ changes) content =
    content_kept_by_all (changed_by named change) changes (content_kept named change content)

-- a cell that changes leave, and that is there before and after each of them, holds what it held, which follows
pub record LeftCellsStay : Type 0 where
  pub stays : (named : Named) (changes : List BookChange) (id row col : ℕ) → HasCell id row col named.book
      → LeaveInTurn named changes id row col
      → cell_of id row col (changed_by_all named changes).book
      ≡ option_map (content_kept_by_all named changes) (cell_of id row col named.book)
