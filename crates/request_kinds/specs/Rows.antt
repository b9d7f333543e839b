-- Cells of a sheet that a request gives values: rows are written to an area, which may be emptied first (Google Sheets
-- API v4 reference, RowData and GridRange).
use Rattle.std.specs.Prelude.{◌≡◌, Bool, false, ◌&&◌, ◌||◌, ◌++◌, not, nat_le, nat_lt, List, Option, Some}
use Rattle.std.specs.Prelude.{Result, Ok, Err, MatchResult}
use Rattle.std.specs.Option.{is_none, option_map_or}
use Rattle.cell_value.specs.declared.cell.Block.{Block}
use Rattle.grid_range.specs.Area.{cut_area}
use Rattle.grid_range.specs.Band.{first_line}
use Rattle.grid_range.specs.declared.area.Area.{Area}
use Rattle.grid_range.specs.declared.band.Band.{Band}
use Rattle.grid_range.specs.declared.band.Band.TheVariants.{Span}
use Rattle.world_model.specs.Book.{PlaceBook}
use Rattle.world_model.specs.BookChange.{AreChanges, BookChange}
use Rattle.world_model.specs.Sheet.{PlaceSheet}
use Rattle.world_model.specs.Sound.{place_sheet_with}
use Rattle.dimension_ops.specs.Broken.{Broken, judged_by, unbroken}
use Rattle.dimension_ops.specs.declared.rule.Rule.{Rule}
use Rattle.values_api.specs.Blocks.{IsWrite, contents_of}
use Rattle.values_api.specs.declared.writing.WrittenCells.{WrittenCells}
use Rattle.sheets_json.specs.declared.spreadsheet.Reply.{Reply}
use Rattle.sheets_json.specs.declared.spreadsheet.Reply.TheVariants as reply
use Rattle.request_kinds.specs.Telling.{cells_updated}

-- ---- areas

-- a start that isn't below its end
abbrev pub is_reversed : Band → Bool
is_reversed (Span start end) = nat_le end start
is_reversed _ = false

-- the first row and the first column of the area are there
abbrev pub begins_on : Area → PlaceSheet → Bool
begins_on area sheet = nat_lt (first_line area.rows) sheet.table.rows && nat_lt (first_line area.cols) sheet.table.cols

-- the rules that an area breaks, on the sheet that has its id
abbrev pub broken_by_area : Option PlaceSheet → Area → Broken
broken_by_area found area = record unbroken {
  no_sheet = is_none found;
  bad_range = is_reversed area.rows || is_reversed area.cols;
  outside_grid = option_map_or (λ sheet. not (begins_on area sheet)) found false;
}

-- the area, cut at the grid of the sheet
abbrev pub cut_on : Option PlaceSheet → Area → Area
cut_on found area = option_map_or (λ sheet. cut_area area sheet.table.rows sheet.table.cols) found area

abbrev pub cut_or_broken : Option PlaceSheet → Area → Result Area Rule
cut_or_broken found area = judged_by (broken_by_area found area) (cut_on found area)

-- the area that a request is on, or the first rule that it breaks
abbrev pub area_or_broken : List PlaceSheet → Area → Result Area Rule
area_or_broken sheets area = cut_or_broken (place_sheet_with area.sheet sheets) area

-- what is done on the area, unless it breaks a rule
abbrev pub OnArea : {A : Type 0} → Result Area Rule → (Area → Result A Rule → Type 0) → Result A Rule → Type 0
OnArea (Ok area) IsDone told = IsDone area told
OnArea (Err broken) IsDone told = told ≡ Err broken

-- ---- rows

-- rows are written to the area, once the first changes have made that of the spreadsheet, or the write breaks a rule:
-- limits are counted after all of it
pub record AreRowsPut (first : List BookChange) (rows : Block) (one_cell : Bool) (between : PlaceBook) (area : Area)
    (told : Result (Reply × List BookChange) Rule) : Type 0 where
  pub after : PlaceBook
  pub sheet : PlaceSheet
  pub there : place_sheet_with area.sheet between.sheets ≡ Some sheet
  pub wrote : Result WrittenCells Rule
  pub writes : IsWrite one_cell area rows sheet between after wrote
  pub tells : MatchResult wrote
      (λ counts. told ≡ Ok (reply.Empty, first ++ cells_updated area.sheet (contents_of writes.entries)))
      (λ broken. told ≡ Err broken)

-- the first changes are made, and then the rows are written
pub record AreRowsWritten (first : List BookChange) (rows : Block) (one_cell : Bool) (book : PlaceBook) (area : Area)
    (told : Result (Reply × List BookChange) Rule) : Type 0 where
  pub between : PlaceBook
  pub changed : AreChanges first book between
  pub put : AreRowsPut first rows one_cell between area told
