-- What requests make of a spreadsheet, by the names of its lines (Google Sheets API v4 reference, Request): cells are
-- updated, lines of a sheet are inserted, deleted or moved, a sheet is added, deleted, or gets another title, another
-- mark, other merges or another filter, a named range is added, changed or deleted, words of formulas become another
-- one, and the spreadsheet gets other protected ranges or other metadata. A line that is inserted, or that a new sheet
-- has, gets the next name, which no line ever had. A change is told where it can be made: its sheet is there, its
-- places are, a change of lines fits and tears no merge, and merges and a filter are such as the sheet can have.
use Rattle.std.specs.Prelude.{◌≡◌, ℕ, Bool, ◌+◌, ◌++◌, ◌==◌, List, [], ◌∷◌, map, filter, take, drop, not, Option, None, if◌then◌else◌}
use Rattle.std.specs.List.{filter_map, fold, range_with_len}
use Rattle.std.specs.Option.{option_map}
use Rattle.std.specs.Str.{bytes_eq, str_eq_ignore_ascii_case}
use Rattle.basic_filter.specs.declared.types.Filter.{Filter}
use Rattle.dev_metadata.specs.declared.types.Item.{Item}
use Rattle.grid_range.specs.Change.{inserted_lines, order_change}
use Rattle.grid_range.specs.declared.area.Area.{Area}
use Rattle.grid_range.specs.declared.axis.Axis.{Axis}
use Rattle.grid_range.specs.declared.change.Change.{Change}
use Rattle.named_ranges.specs.declared.range.NamedRange.{NamedRange}
use Rattle.protection.specs.declared.range.Protection.{Protection}
use Rattle.world_model.specs.Area.{NameArea, area_named}
use Rattle.world_model.specs.Book.{NameBook, PlaceBook, orders_of}
use Rattle.world_model.specs.Content.{NameContent, NamePiece}
use Rattle.world_model.specs.Filters.{NameFilter, filter_named}
use Rattle.world_model.specs.LineChange.{book_changed}
use Rattle.world_model.specs.Metadata.{NameItem, item_named, name_items_elsewhere}
use Rattle.world_model.specs.Protections.{NameProtection, name_protection_without, protection_named}
use Rattle.world_model.specs.Ranges.{NameRange, name_ranges_elsewhere, range_named}
use Rattle.world_model.specs.Sheet.{NameSheet}
use Rattle.world_model.specs.StandsFor.{BookStandsFor}
use Rattle.world_model.specs.Updating.{Updates, book_updated}
use Rattle.world_model.specs.World.{HasNamesBelow}

-- a sheet that is added: an empty one of that size
pub record NewSheet : Type 0 where
  pub id : ℕ
  pub title : List ℕ
  pub hidden : Bool
  pub rows : ℕ
  pub cols : ℕ

-- one change of a spreadsheet; sheets and named ranges are known by their ids, and a sheet is added before the one at a
-- place, or last; ranges, merges, filters, protections and metadata are told by the places of their lines
pub data BookChange : Type 0 where
  CellsUpdated : (sheet : ℕ) (updates : Updates) → BookChange
  LinesChanged : (sheet : ℕ) (axis : Axis) (change : Change) → BookChange
  SheetAdded : (at : ℕ) (sheet : NewSheet) → BookChange
  SheetDeleted : (sheet : ℕ) → BookChange
  SheetTitled : (sheet : ℕ) (title : List ℕ) → BookChange
  SheetHidden : (sheet : ℕ) (hidden : Bool) → BookChange
  RangeAdded : (range : NamedRange) → BookChange
  RangeChanged : (range : NamedRange) → BookChange
  RangeDeleted : (id : List ℕ) → BookChange
  WordsRenamed : (old new : List ℕ) → BookChange
  MergesSet : (sheet : ℕ) (merges : List Area) → BookChange
  ProtectionsSet : (protections : List Protection) → BookChange
  MetadataSet : (items : List Item) → BookChange
  FilterSet : (sheet : ℕ) (given : Option Filter) → BookChange

-- a spreadsheet by the names of its lines, and the name that the next new line gets
pub record Named : Type 0 where
  pub book : NameBook
  pub next : ℕ

abbrev pub with_sheets : List NameSheet → NameBook → NameBook
with_sheets sheets book = record book { sheets = sheets }

-- ---- a sheet is added

-- its rows get the next names, and its columns those behind them
abbrev pub new_sheet : ℕ → NewSheet → NameSheet
new_sheet next sheet = record {
  id = sheet.id;
  title = sheet.title;
  hidden = sheet.hidden;
  rows = range_with_len next sheet.rows;
  cols = range_with_len (next + sheet.rows) sheet.cols;
  cells = λ row col. None;
  merges = [];
  filter = None;
}

abbrev pub sheet_added : ℕ → NameSheet → NameBook → NameBook
sheet_added at sheet book = with_sheets (take at book.sheets ++ sheet ∷ drop at book.sheets) book

-- ---- a sheet is deleted

-- a reference to the deleted sheet is lost for good
abbrev pub name_piece_without : ℕ → NamePiece → NamePiece
name_piece_without sheet (NamePiece.Text text) = NamePiece.Text text
name_piece_without sheet (NamePiece.Word word) = NamePiece.Word word
name_piece_without sheet (NamePiece.Ref reference) =
    if reference.area.sheet == sheet then NamePiece.Lost else NamePiece.Ref reference
name_piece_without sheet NamePiece.Lost = NamePiece.Lost

abbrev pub name_content_without : ℕ → NameContent → NameContent
name_content_without sheet (NameContent.Number number) = NameContent.Number number
name_content_without sheet (NameContent.Text text) = NameContent.Text text
name_content_without sheet (NameContent.Truth truth) = NameContent.Truth truth
name_content_without sheet (NameContent.Formula pieces) =
    NameContent.Formula (map (name_piece_without sheet) pieces)

abbrev pub without_references : ℕ → NameSheet → NameSheet
without_references sheet other =
    record other { cells = λ row col. option_map (name_content_without sheet) (other.cells row col) }

-- and its named ranges, its protections and its metadata go with it
abbrev pub sheet_deleted : ℕ → NameBook → NameBook
sheet_deleted id book = record book {
  sheets = map (without_references id) (filter (λ sheet. not (sheet.id == id)) book.sheets);
  ranges = name_ranges_elsewhere id book.ranges;
  protections = filter_map (name_protection_without id) book.protections;
  metadata = name_items_elsewhere id book.metadata;
}

-- ---- a sheet gets another title or mark

abbrev pub on_sheet : ℕ → (NameSheet → NameSheet) → NameBook → NameBook
on_sheet id changed book = with_sheets (map (λ sheet. if sheet.id == id then changed sheet else sheet) book.sheets) book

abbrev pub titled : List ℕ → NameSheet → NameSheet
titled title sheet = record sheet { title = title }

abbrev pub marked_hidden : Bool → NameSheet → NameSheet
marked_hidden hidden sheet = record sheet { hidden = hidden }

-- ---- a sheet gets other merges

abbrev pub merged : List NameArea → NameSheet → NameSheet
merged merges sheet = record sheet { merges = merges }

-- the merges of the sheet are these and no others
abbrev pub merges_set : ℕ → List NameArea → NameBook → NameBook
merges_set id merges book = on_sheet id (merged merges) book

-- ---- a sheet gets another filter

abbrev pub filtered : Option NameFilter → NameSheet → NameSheet
filtered given sheet = record sheet { filter = given }

-- the sheet has this filter, or none
abbrev pub filter_set : ℕ → Option NameFilter → NameBook → NameBook
filter_set id given book = on_sheet id (filtered given) book

-- ---- a named range is added, changed or deleted

abbrev pub with_ranges : List NameRange → NameBook → NameBook
with_ranges ranges book = record book { ranges = ranges }

-- a new one stands last
abbrev pub range_added : NameRange → NameBook → NameBook
range_added range book = with_ranges (book.ranges ++ range ∷ []) book

-- one stands in the place of the one with its id
abbrev pub range_changed : NameRange → NameBook → NameBook
range_changed range book =
    with_ranges (map (λ other. if bytes_eq range.id other.id then range else other) book.ranges) book

abbrev pub range_deleted : List ℕ → NameBook → NameBook
range_deleted id book = with_ranges (filter (λ range. not (bytes_eq id range.id)) book.ranges) book

-- ---- the spreadsheet gets other protections

-- these and no others
abbrev pub protections_set : List NameProtection → NameBook → NameBook
protections_set protections book = record book { protections = protections }

-- ---- the spreadsheet gets other metadata

-- these items and no others
abbrev pub metadata_set : List NameItem → NameBook → NameBook
metadata_set items book = record book { metadata = items }

-- ---- words of formulas become another one

-- a word that is the old one, whatever the case of its ASCII letters, is the new one
abbrev pub name_piece_renamed : List ℕ → List ℕ → NamePiece → NamePiece
name_piece_renamed old new (NamePiece.Word word) =
    NamePiece.Word (if str_eq_ignore_ascii_case word old then new else word)
name_piece_renamed old new (NamePiece.Text text) = NamePiece.Text text
name_piece_renamed old new (NamePiece.Ref reference) = NamePiece.Ref reference
name_piece_renamed old new NamePiece.Lost = NamePiece.Lost

-- all else of a formula stays
abbrev pub name_content_renamed : List ℕ → List ℕ → NameContent → NameContent
name_content_renamed old new (NameContent.Formula pieces) =
    NameContent.Formula (map (name_piece_renamed old new) pieces)
name_content_renamed old new (NameContent.Number number) = NameContent.Number number
name_content_renamed old new (NameContent.Text text) = NameContent.Text text
name_content_renamed old new (NameContent.Truth truth) = NameContent.Truth truth

abbrev pub sheet_renamed : List ℕ → List ℕ → NameSheet → NameSheet
sheet_renamed old new sheet =
    record sheet { cells = λ row col. option_map (name_content_renamed old new) (sheet.cells row col) }

abbrev pub words_renamed : List ℕ → List ℕ → NameBook → NameBook
words_renamed old new book = with_sheets (map (sheet_renamed old new) book.sheets) book

-- ---- changes

-- the spreadsheet after the change, and the name that the next new line gets then
abbrev pub changed_by : Named → BookChange → Named
changed_by named (BookChange.CellsUpdated sheet updates) =
    record named { book = book_updated sheet updates named.book }
changed_by named (BookChange.LinesChanged sheet axis change) = record {
  book = book_changed sheet axis (order_change change (range_with_len named.next (inserted_lines change))) named.book;
  next = named.next + inserted_lines change;
}
changed_by named (BookChange.SheetAdded at sheet) = record {
  book = sheet_added at (new_sheet named.next sheet) named.book;
  next = named.next + sheet.rows + sheet.cols;
}
changed_by named (BookChange.SheetDeleted sheet) = record named { book = sheet_deleted sheet named.book }
changed_by named (BookChange.SheetTitled sheet title) = record named { book = on_sheet sheet (titled title) named.book }
changed_by named (BookChange.SheetHidden sheet hidden) =
    record named { book = on_sheet sheet (marked_hidden hidden) named.book }
changed_by named (BookChange.RangeAdded range) =
    record named { book = range_added (range_named (orders_of named.book.sheets) range) named.book }
changed_by named (BookChange.RangeChanged range) =
    record named { book = range_changed (range_named (orders_of named.book.sheets) range) named.book }
changed_by named (BookChange.RangeDeleted id) = record named { book = range_deleted id named.book }
changed_by named (BookChange.WordsRenamed old new) = record named { book = words_renamed old new named.book }
changed_by named (BookChange.MergesSet sheet merges) =
    record named { book = merges_set sheet (map (area_named (orders_of named.book.sheets)) merges) named.book }
changed_by named (BookChange.ProtectionsSet protections) = record named {
  book = protections_set (map (protection_named (orders_of named.book.sheets)) protections) named.book;
}
changed_by named (BookChange.MetadataSet items) =
    record named { book = metadata_set (map (item_named (orders_of named.book.sheets)) items) named.book }
changed_by named (BookChange.FilterSet sheet given) =
    record named { book = filter_set sheet (option_map (filter_named (orders_of named.book.sheets)) given) named.book }

-- one change after another
abbrev pub changed_by_all : Named → List BookChange → Named
changed_by_all named changes = fold changed_by named changes

-- what is kept by places stands for the spreadsheet, each of whose lines was called before the next one
pub record NamedStandsFor (book : PlaceBook) (named : Named) : Type 0 where
  pub stands : BookStandsFor book named.book
  pub called : HasNamesBelow named.next named.book

-- the spreadsheet after stands for the one before with these changes, whatever its lines are called
pub record AreChanges (changes : List BookChange) (before after : PlaceBook) : Type 0 where
  pub id : after.id ≡ before.id
  pub names : (named : Named) → NamedStandsFor before named → NamedStandsFor after (changed_by_all named changes)
