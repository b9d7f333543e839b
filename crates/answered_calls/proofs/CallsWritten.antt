-- Calls that write values have an answer: a write, several, and an append; and so has each request that writes rows.
use Rattle.std.specs.Prelude.{ℕ, List, Option}
use Rattle.cell_value.specs.declared.cell.Block.{Block}
use Rattle.formula_reader.specs.Reads.{HasReading, ReadsAreThere}
use Rattle.world_model.specs.Book.{PlaceBook}
use Rattle.world_model.specs.ChangingLaws.{ChangesInTurn, UpdatesAreChanges}
use Rattle.world_model.specs.Laws.{IdsFind, UpdatesAreWrites, UpdatesFollow, WritesStaySound}
use Rattle.world_model.specs.Sound.{IsSound}
use Rattle.values_api.specs.Answered.{ReadsAnswered}
use Rattle.values_api.specs.CellsUpdate.{CellsUpdate, cells_update}
use Rattle.json_shapes.specs.Reading.{Reading}
use Rattle.json_requests.specs.declared.request.Request.TheVariants as request
use Rattle.json_requests.specs.declared.request.UpdatedArea.{UpdatedArea}
use Rattle.sheets_json.specs.declared.answer.Answer.TheVariants as answer
use Rattle.sheets_json.specs.declared.call.InsertData.{InsertData}
use Rattle.sheets_json.specs.declared.call.RangeBlock.{RangeBlock}
use Rattle.sheets_json.specs.declared.call.ValueRange.{ValueRange}
use Rattle.sheets_json.specs.declared.place.Place.TheVariants as place
use Rattle.request_kinds.specs.Requests.{IsDoneByKind}
use Rattle.batch_engine.specs.Answered.{HasNoAnswer}
use Rattle.batch_engine.specs.Calls.{IsAppendOf, IsWriteManyOf, IsWriteOf, written_answer}
use Rattle.batch_engine.specs.Values.{IsAppended, IsUpdated, IsWritten, inserts}
use Rattle.batch_engine.specs.MadeLaws.{some_made, some_made_alone, some_sound}
use Rattle.answered_calls.proofs.KnownReads.{ReadsWithin, reads_within}
use Rattle.answered_calls.proofs.LinesInserted.{LinesInsert}
use Rattle.batch_engine.specs.MadeLaws.{CannotBecome}
use Rattle.answered_calls.proofs.RangesKept.{IsKeptByRows}
use Rattle.answered_calls.proofs.RowsAppended.{some_append_cells}
use Rattle.answered_calls.proofs.RowsWritten.{some_update_cells}
use Rattle.answered_calls.proofs.ValuesAppended.{LinesAdd, some_appended}
use Rattle.answered_calls.proofs.ValuesWritten.{some_updated, some_written}

-- the laws that writes stand on
pub record WriteLaws : Type 0 where
  pub answered : ReadsAnswered
  pub reading : HasReading
  pub refer : ReadsAreThere
  pub ids : IdsFind
  pub writes : UpdatesAreWrites
  pub stay : WritesStaySound
  pub follow : UpdatesFollow
  pub changes : UpdatesAreChanges
  pub turns : ChangesInTurn

module _ (laws : WriteLaws) (user : List ℕ) where
  within : ReadsWithin
  within = reads_within laws.ids laws.refer

  update : CellsUpdate
  update = cells_update laws.writes laws.stay laws.follow

  -- ---- writes

  pub some_write_of : (range : List ℕ) (values : Reading ValueRange) (book : PlaceBook) → IsSound book
      → ¬ (HasNoAnswer (IsWriteOf user range values book))
  some_write_of range values book sound =
      some_made_alone (IsWritten user range book values) (λ wrote. answer.Write wrote.0) book
      (some_written laws.answered laws.reading within laws.ids update laws.changes user book sound range values)

  pub some_write_many : (blocks : List (Reading RangeBlock)) (book : PlaceBook) → IsSound book
      → ¬ (HasNoAnswer (IsWriteManyOf user blocks book))
  some_write_many blocks book sound =
      some_made IsSound (IsUpdated user)
      (λ book sound block. some_sound laws.turns book sound (IsUpdated user book block)
      (some_updated laws.answered laws.reading within laws.ids update laws.changes user book sound block)) blocks
      place.Data (written_answer book) book sound

  pub some_append_of : LinesAdd → (range : List ℕ) (option : Option InsertData) (values : Reading ValueRange)
      (book : PlaceBook) → IsSound book → ¬ (HasNoAnswer (IsAppendOf user range option values book))
  some_append_of add range option values book sound =
      some_made_alone (IsAppended user range (inserts option) book values)
      (λ made. answer.Append book.id made.0 made.1) book
      (some_appended laws.answered laws.reading within laws.ids update laws.changes laws.turns add
      user range (inserts option) book sound values)

  -- ---- requests

  module _ (Keeps : PlaceBook → PlaceBook → Type 0) (kept : IsKeptByRows Keeps) (project : List ℕ) (book : PlaceBook)
      (sound : IsSound book) (rows : Block) where
    pub some_update_cells_done : (area : UpdatedArea)
        → ¬ (CannotBecome (Keeps book) book (IsDoneByKind user project book (request.UpdateCells rows area)))
    some_update_cells_done area =
        some_update_cells laws.reading within update laws.changes laws.turns Keeps kept book sound rows laws.writes area

    pub some_append_cells_done : LinesInsert → (sheet : ℕ)
        → ¬ (CannotBecome (Keeps book) book (IsDoneByKind user project book (request.AppendCells sheet rows)))
    some_append_cells_done insert sheet =
        some_append_cells laws.reading within update laws.changes laws.turns insert Keeps kept user book sound rows
        sheet
