-- What a spreadsheet becomes by places when a sheet is added, is deleted, or gets another title, another mark, other
-- merges or another filter, which is what a program does: addSheet, deleteSheet, updateSheetProperties, mergeCells,
-- unmergeCells, setBasicFilter and clearBasicFilter of the Google Sheets API v4.
use Rattle.std.specs.Prelude.{◌≡◌, ◌⊎◌, ℕ, Bool, ◌++◌, ◌==◌, List, [], ◌∷◌, map, filter, take, drop, not, Option, None, if◌then◌else◌}
use Rattle.std.specs.List.{AllZip, filter_map}
use Rattle.std.specs.Option.{option_map}
use Rattle.basic_filter.specs.declared.types.Filter.{Filter}
use Rattle.cell_store.specs.Table.{empty_table, item_at}
use Rattle.dev_metadata.specs.Following.{items_elsewhere}
use Rattle.grid_range.specs.declared.area.Area.{Area}
use Rattle.named_ranges.specs.Following.{ranges_elsewhere}
use Rattle.protection.specs.Following.{protection_without_sheet}
use Rattle.ref_rewrite.specs.Following.{piece_without_sheet}
use Rattle.ref_rewrite.specs.declared.cell_content.Content.{Content}
use Rattle.ref_rewrite.specs.declared.cell_content.Content.TheVariants as content
use Rattle.world_model.specs.Book.{PlaceBook}
use Rattle.world_model.specs.BookChange.{NewSheet}
use Rattle.world_model.specs.Sheet.{PlaceSheet}

abbrev pub with_place_sheets : List PlaceSheet → PlaceBook → PlaceBook
with_place_sheets sheets book = record book { sheets = sheets }

-- ---- a sheet is added

abbrev pub new_place_sheet : NewSheet → PlaceSheet
new_place_sheet sheet = record {
  id = sheet.id;
  title = sheet.title;
  hidden = sheet.hidden;
  table = empty_table sheet.rows sheet.cols;
  merges = [];
  filter = None;
}

abbrev pub place_sheet_added : ℕ → PlaceSheet → PlaceBook → PlaceBook
place_sheet_added at sheet book = with_place_sheets (take at book.sheets ++ sheet ∷ drop at book.sheets) book

-- ---- a sheet is deleted

-- the references of a formula to the sheet are lost, and all else stays
abbrev pub content_without : ℕ → Content → Content
content_without sheet (content.Number number) = content.Number number
content_without sheet (content.Text text) = content.Text text
content_without sheet (content.Truth truth) = content.Truth truth
content_without sheet (content.Formula formula) =
    content.Formula (record formula { pieces = map (piece_without_sheet sheet) formula.pieces })

-- another sheet: each place holds what it held, without the references to the sheet
pub record LosesReferences (sheet : ℕ) (before after : PlaceSheet) : Type 0 where
  pub id : after.id ≡ before.id
  pub title : after.title ≡ before.title
  pub hidden : after.hidden ≡ before.hidden
  pub rows : after.table.rows ≡ before.table.rows
  pub cols : after.table.cols ≡ before.table.cols
  pub items : (row col : ℕ) → item_at after.table row col
      ≡ option_map (content_without sheet) (item_at before.table row col)
  pub merges : after.merges ≡ before.merges
  pub filter : after.filter ≡ before.filter

abbrev pub other_sheets : ℕ → List PlaceSheet → List PlaceSheet
other_sheets id sheets = filter (λ sheet. not (sheet.id == id)) sheets

-- the other sheets are left, in their order, and so are their named ranges, their protections and their metadata
pub record PlaceSheetDeleted (sheet : ℕ) (before after : PlaceBook) : Type 0 where
  pub id : after.id ≡ before.id
  pub title : after.title ≡ before.title
  pub owner : after.owner ≡ before.owner
  pub sheets : AllZip (LosesReferences sheet) (other_sheets sheet before.sheets) after.sheets
  pub ranges : after.ranges ≡ ranges_elsewhere sheet before.ranges
  pub protections : after.protections ≡ filter_map (protection_without_sheet sheet) before.protections
  pub metadata : after.metadata ≡ items_elsewhere sheet before.metadata

-- some sheets are without their references to the sheet, which is still there
pub record SomeLoseReferences (sheet : ℕ) (before after : PlaceBook) : Type 0 where
  pub id : after.id ≡ before.id
  pub title : after.title ≡ before.title
  pub owner : after.owner ≡ before.owner
  pub sheets : AllZip (λ one other. (other ≡ one) ⊎ LosesReferences sheet one other) before.sheets after.sheets
  pub ranges : after.ranges ≡ before.ranges
  pub protections : after.protections ≡ before.protections
  pub metadata : after.metadata ≡ before.metadata

-- ---- a sheet gets another title or mark

abbrev pub on_place_sheet : ℕ → (PlaceSheet → PlaceSheet) → PlaceBook → PlaceBook
on_place_sheet id changed book =
    with_place_sheets (map (λ sheet. if sheet.id == id then changed sheet else sheet) book.sheets) book

abbrev pub place_titled : List ℕ → PlaceSheet → PlaceSheet
place_titled title sheet = record sheet { title = title }

abbrev pub place_marked_hidden : Bool → PlaceSheet → PlaceSheet
place_marked_hidden hidden sheet = record sheet { hidden = hidden }

-- ---- a sheet gets other merges

abbrev pub place_merged : List Area → PlaceSheet → PlaceSheet
place_merged merges sheet = record sheet { merges = merges }

-- the merges of the sheet are these and no others
abbrev pub place_merges_set : ℕ → List Area → PlaceBook → PlaceBook
place_merges_set id merges book = on_place_sheet id (place_merged merges) book

-- ---- a sheet gets another filter

abbrev pub place_filtered : Option Filter → PlaceSheet → PlaceSheet
place_filtered given sheet = record sheet { filter = given }

-- the sheet has this filter, or none
abbrev pub place_filter_set : ℕ → Option Filter → PlaceBook → PlaceBook
place_filter_set id given book = on_place_sheet id (place_filtered given) book
