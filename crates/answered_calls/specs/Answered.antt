-- A law of calls: it can't be that one has no answer, where it asks for few enough (Google Sheets API v4 reference, the
-- methods of spreadsheets, spreadsheets.values and spreadsheets.developerMetadata).
use Rattle.std.specs.Prelude.{◌+◌, ◌^◌, ◌<◌, List, length, IfOk, IfSome, ⊤}
use Rattle.std.specs.List.{All}
use Rattle.named_ranges.specs.Listed.{AreNames}
use Rattle.world_model.specs.Book.{PlaceBook}
use Rattle.world_model.specs.Sound.{IsSound}
use Rattle.dimension_ops.specs.Creating.{asked_sheets}
use Rattle.dimension_ops.specs.World.{book_with}
use Rattle.json_requests.specs.declared.request.Step.{Step}
use Rattle.sheets_json.specs.declared.call.Call.{Call}
use Rattle.sheets_json.specs.declared.call.Call.TheVariants as call
use Rattle.batch_engine.specs.Answered.{HasNoAnswer}
use Rattle.batch_engine.specs.Calls.{HasItsBook, IsAnswered}
use Rattle.batch_engine.specs.declared.calls.Caller.{Caller}

-- each request of a batch can add a named range, whose id may have to be chosen, with a number in it: below 2^64 these
-- are told apart by their digits
abbrev pub HasRoomFor : List Step → PlaceBook → Type 0
HasRoomFor requests book = length book.ranges + length requests + 1 < 2 ^ 64

-- so few named ranges and so few sheets, whose titles may have to be chosen, likewise
abbrev pub AsksForFew : Call → List PlaceBook → Type 0
AsksForFew (call.Create given) books = IfOk given (λ asked. length (asked_sheets asked.sheets) < 2 ^ 64)
AsksForFew (call.Batch id requests) books = IfSome (book_with id books) (HasRoomFor requests)
AsksForFew _ books = ⊤

-- it can't be that such a call has no answer with an effect, where its spreadsheet is there, among sound ones of which
-- none has two named ranges with one id or one name
pub record CallsAnswered : Type 0 where
  pub answered : (caller : Caller) (called : Call) (books : List PlaceBook) → All IsSound books
      → All (λ book. AreNames book.ranges) books → HasItsBook called books → AsksForFew called books
      → ¬ (HasNoAnswer (IsAnswered caller called books))
