-- What is told of a request for lines of a sheet, of one that deletes a sheet, or of one that updates a named range,
-- can be made, and keeps that no two named ranges have one id or one name.
use Rattle.std.specs.Prelude.{ℕ, Bool, false, List, Option, Result, unwrap_or}
use Rattle.grid_range.specs.declared.area.Area.{Area}
use Rattle.grid_range.specs.declared.axis.Axis.{Axis}
use Rattle.world_model.specs.Book.{PlaceBook}
use Rattle.world_model.specs.BookChange.{BookChange}
use Rattle.world_model.specs.SheetLaws.{SheetsDeleted}
use Rattle.world_model.specs.Sound.{IsSound}
use Rattle.dimension_ops.specs.declared.rule.Rule.{Rule}
use Rattle.json_requests.specs.declared.request.DimensionRange.{DimensionRange}
use Rattle.json_requests.specs.declared.request.Request.TheVariants as request
use Rattle.sheets_json.specs.declared.spreadsheet.Reply.{Reply}
use Rattle.request_kinds.specs.Requests.{IsDoneByKind}
use Rattle.answered_calls.proofs.LinesMade.{LinesChange, append_named, delete_named, insert_named, move_named}
use Rattle.answered_calls.proofs.NamesKept.{CanBeMadeNamed}
use Rattle.answered_calls.proofs.RangesSet.{update_range_named}
use Rattle.answered_calls.proofs.SheetLost.{delete_sheet_named}

module _ (user project : List ℕ) (book : PlaceBook) (told : Result (Reply × List BookChange) Rule) where
  module _ (laws : LinesChange) (sound : IsSound book) where
    pub insert_dimension : (range : DimensionRange) (inherits : Option Bool)
        → IsDoneByKind user project book (request.InsertDimension range inherits) told → CanBeMadeNamed book told
    insert_dimension range inherits = insert_named laws book sound range (unwrap_or inherits false) told

    pub delete_dimension : (range : DimensionRange)
        → IsDoneByKind user project book (request.DeleteDimension range) told → CanBeMadeNamed book told
    delete_dimension range = delete_named laws book sound range told

    pub move_dimension : (range : DimensionRange) (to : ℕ)
        → IsDoneByKind user project book (request.MoveDimension range to) told → CanBeMadeNamed book told
    move_dimension range to = move_named laws book sound range to told

    pub append_dimension : (sheet : ℕ) (axis : Axis) (length : ℕ)
        → IsDoneByKind user project book (request.AppendDimension sheet axis length) told → CanBeMadeNamed book told
    append_dimension sheet axis length = append_named laws book sound sheet axis length told

  pub delete_sheet : SheetsDeleted → IsSound book → (sheet : ℕ)
      → IsDoneByKind user project book (request.DeleteSheet sheet) told → CanBeMadeNamed book told
  delete_sheet law sound sheet = delete_sheet_named sheet law book sound told

  pub update_named_range : (id : List ℕ) (name : Option (List ℕ)) (area : Option Area)
      → IsDoneByKind user project book (request.UpdateNamedRange id name area) told → CanBeMadeNamed book told
  update_named_range id name area = update_range_named id name book told area
