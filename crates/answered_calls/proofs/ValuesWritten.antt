-- Writes of values have an answer: for the range of a call, and for ranges that blocks of values name.
use Rattle.std.proofs.Common.{◌≡◌, ℕ, List, refl}
use Rattle.std.specs.Prelude.{Some, Result, Ok, Err}
use Rattle.cell_value.specs.declared.cell.Block.{Block}
use Rattle.formula_reader.specs.Reads.{HasReading}
use Rattle.world_model.specs.Book.{PlaceBook}
use Rattle.world_model.specs.ChangingLaws.{UpdatesAreChanges}
use Rattle.world_model.specs.Laws.{IdsFind}
use Rattle.world_model.specs.Sheet.{PlaceSheet}
use Rattle.world_model.specs.Sound.{IsSound, place_sheet_with}
use Rattle.dimension_ops.specs.declared.rule.Rule.{Rule}
use Rattle.values_api.specs.Answered.{ReadsAnswered}
use Rattle.values_api.specs.Blocks.{contents_of}
use Rattle.values_api.specs.CellsUpdate.{CellsUpdate}
use Rattle.values_api.specs.Denials.{IsWriteBy}
use Rattle.values_api.specs.RangeLaws.{LiesOn, named_lies}
use Rattle.values_api.specs.Ranges.{FoundArea, Resolves}
use Rattle.values_api.specs.declared.writing.WrittenCells.{WrittenCells}
use Rattle.json_shapes.specs.Reading.{Reading}
use Rattle.sheets_json.specs.declared.call.RangeBlock.{RangeBlock}
use Rattle.sheets_json.specs.declared.call.ValueRange.{ValueRange}
use Rattle.request_kinds.specs.Telling.{cells_updated}
use Rattle.request_kinds.specs.TellingLaws.{update_made}
use Rattle.batch_engine.specs.Ranges.{IsTarget}
use Rattle.batch_engine.specs.Values.{IsUpdate, IsUpdated, IsWritten, rule_of, update_of}
use Rattle.answered_calls.proofs.KnownReads.{ReadsWithin}
use Rattle.batch_engine.specs.MadeLaws.{CanBeMade, CanTellNone, no_on_range}
use Rattle.answered_calls.proofs.RangeEnds.{fits_either, some_target, target_lies}
use Rattle.answered_calls.proofs.Writes.{some_write_by}

module _ (answered : ReadsAnswered) (reading : HasReading) (reads : ReadsWithin) (ids : IdsFind) (update : CellsUpdate)
    (changes : UpdatesAreChanges) (user : List ℕ) (book : PlaceBook) (sound : IsSound book) where
  module _ (block : Block) where
    write_told : (found : FoundArea) (sheet : PlaceSheet) → CanTellNone book (IsUpdate user book block found sheet)
        → (after : PlaceBook) (wrote : Result WrittenCells Rule)
        → ¬ (IsWriteBy user found.1 found.0 block sheet book after wrote)
    write_told found sheet none after (Ok counts) writes =
        none (Ok ((update_of book sheet counts, counts), cells_updated found.0.sheet (contents_of writes.is.entries)))
        (record { after = after; wrote = Ok counts; writes = writes; tells = refl })
        (after, update_made changes found.0.sheet (contents_of writes.is.entries) book after writes.is.updated)
    write_told found sheet none after (Err broken) writes =
        none (Err broken) (record { after = after; wrote = Err broken; writes = writes; tells = refl }) tt

    some_update : (found : FoundArea) (sheet : PlaceSheet) → place_sheet_with found.0.sheet book.sheets ≡ Some sheet
        → LiesOn found.0 sheet → ¬ (CanTellNone book (IsUpdate user book block found sheet))
    some_update found sheet there lies none =
        some_write_by reading reads update book sound found.1 found.0 block sheet there
        (fits_either found.1 found.0 sheet lies.0) user (write_told found sheet none)

  pub some_written : (range : List ℕ) (given : Reading ValueRange)
      → ¬ (CanTellNone book (IsWritten user range book given))
  some_written range (Ok values) none =
      no_on_range (IsTarget range values.range book) book.sheets (IsUpdate user book values.block) (CanBeMade book)
      (λ found. LiesOn found.0) (some_target ids book sound answered range values.range)
      (target_lies ids book sound range values.range) (λ broken. tt) (some_update values.block) none
  some_written range (Err shape) none = none (Err (rule_of shape)) refl tt

  pub some_updated : (given : Reading RangeBlock) → ¬ (CanTellNone book (IsUpdated user book given))
  some_updated (Ok values) none =
      no_on_range (Resolves values.range book) book.sheets (IsUpdate user book values.block) (CanBeMade book)
      (λ found. LiesOn found.0) (answered.resolves values.range book) (named_lies ids book sound values.range)
      (λ broken. tt) (some_update values.block) none
  some_updated (Err shape) none = none (Err (rule_of shape)) refl tt
