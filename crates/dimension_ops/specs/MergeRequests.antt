-- What requests that merge cells, or dissolve merges, make of a spreadsheet (Google Sheets API v4 reference,
-- MergeCellsRequest, UnmergeCellsRequest). An area to be unmerged must not have a part of a merge
-- (UnmergeCellsRequest); that one to be merged must not either is this project's profile.
use Rattle.std.specs.Prelude.{◌≡◌, ◌∷◌, [], ℕ, List, Any, IsSomeAnd, Some}
use Rattle.std.specs.List.{All}
use Rattle.grid_range.specs.Area.{AreaWithin}
use Rattle.grid_range.specs.declared.area.Area.{Area}
use Rattle.merge_ranges.specs.Calls.{Cuts, ListsJust}
use Rattle.world_model.specs.Book.{PlaceBook}
use Rattle.world_model.specs.BookChange.{AreChanges, BookChange}
use Rattle.world_model.specs.Sheet.{PlaceSheet}
use Rattle.world_model.specs.SheetChange.{place_merged, place_merges_set}
use Rattle.world_model.specs.Sound.{place_sheet_with}

-- the area has a cell of a merge of its sheet, and not all of them
abbrev pub CutsOne : Area → List PlaceSheet → Type 0
CutsOne area sheets = IsSomeAnd (place_sheet_with area.sheet sheets) (λ sheet. Any (Cuts area) sheet.merges)

-- the merges of the sheet with the id become just those that `IsMergeAfter` says of the ones that it had, and all else
-- of the spreadsheet is as it was, by places, and whatever its lines are called
pub record MergesBecome (id : ℕ) (IsMergeAfter : List Area → Area → Type 0) (before after : PlaceBook) : Type 0 where
  pub merges : List Area
  pub just : IsSomeAnd (place_sheet_with id before.sheets) (λ sheet. ListsJust (IsMergeAfter sheet.merges) merges)
  pub found : IsSomeAnd (place_sheet_with id before.sheets)
      (λ sheet. place_sheet_with id after.sheets ≡ Some (place_merged merges sheet))
  pub set : after ≡ place_merges_set id merges before
  pub names : AreChanges (BookChange.MergesSet id merges ∷ []) before after

-- ---- what the private functions hand to one another

-- the area is of the sheet, and of lines that this has
abbrev pub IsOfSheet : PlaceSheet → Area → Type 0
IsOfSheet sheet area = (area.sheet ≡ sheet.id) × AreaWithin area sheet.table.rows sheet.table.cols

abbrev pub AreOfSheet : PlaceSheet → List Area → Type 0
AreOfSheet sheet areas = All (IsOfSheet sheet) areas
