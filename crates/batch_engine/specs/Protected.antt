-- A protected cell's entered content changes only for its editors and the owner (Google Sheets API v4 reference,
-- ProtectedRange: `range`, `unprotectedRanges`, `warningOnly` and `editors`): what another user's call makes leaves the
-- cell where it is, with what was entered into it. Each part of a call, as a request of a batch, is judged by the
-- protected ranges as they are before it.
use Rattle.std.specs.Prelude.{List, ℕ, Result}
use Rattle.world_model.specs.Book.{PlaceBook}
use Rattle.world_model.specs.BookChange.{BookChange}
use Rattle.sheets_json.specs.declared.answer.Answer.{Answer}
use Rattle.sheets_json.specs.declared.call.Call.{Call}
use Rattle.kept_cells.specs.Staying.{LeavesProtectedInParts}
use Rattle.batch_engine.specs.Calls.{IsAnswered, OnBook, Refusal}
use Rattle.batch_engine.specs.Effects.Effect.{Changes}
use Rattle.batch_engine.specs.declared.calls.Caller.{Caller}

-- what a call makes of a spreadsheet leaves what is protected from its caller
pub record ProtectedCellsStay : Type 0 where
  pub call : (caller : Caller) (called : Call) (books : List PlaceBook) (told : Result Answer Refusal) (id : List ℕ)
      (changes : List BookChange) → IsAnswered caller called books told (Changes id changes)
      → OnBook id books (λ book. LeavesProtectedInParts caller.user book changes)
