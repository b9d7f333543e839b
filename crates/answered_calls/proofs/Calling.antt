-- Each call has an answer.
use Rattle.std.proofs.Common.{◌≡◌, ℕ, List, refl}
use Rattle.std.specs.Prelude.{IsSomeAnd, IfSome, Option, Some, None, Result}
use Rattle.std.specs.List.{All}
use Rattle.std.specs.Option.{IsSome}
use Rattle.std.specs.Str.{bytes_eq}
use Rattle.std.proofs.lemmas.Bool.{false≢true}
use Rattle.named_ranges.specs.Listed.{AreNames}
use Rattle.world_model.specs.Book.{PlaceBook}
use Rattle.world_model.specs.Sound.{IsSound}
use Rattle.dimension_ops.specs.World.{book_with}
use Rattle.sheets_json.specs.declared.answer.Answer.{Answer}
use Rattle.sheets_json.specs.declared.call.Call.{Call}
use Rattle.sheets_json.specs.declared.call.Call.TheVariants as call
use Rattle.values_api.specs.FoundLaws.{holds_of_found}
use Rattle.batch_engine.specs.Answered.{HasNoAnswer, LooksAnswered}
use Rattle.batch_engine.specs.Calls.{HasItsBook, IsAlone, IsAnswered, IsAppendOf, IsBatchOf, IsWriteManyOf, IsWriteOf, OnBook, Refusal}
use Rattle.batch_engine.specs.Create.{IsCreateOf}
use Rattle.batch_engine.specs.Effects.{Effect}
use Rattle.batch_engine.specs.MadeLaws.{some_alone}
use Rattle.batch_engine.specs.declared.calls.Caller.{Caller}
use Rattle.answered_calls.specs.Answered.{AsksForFew, CallsAnswered, HasRoomFor}
use Rattle.answered_calls.proofs.AllRequests.{RequestLaws, batches_answered}
use Rattle.answered_calls.proofs.CallsWritten.{some_append_of, some_write_many, some_write_of}
use Rattle.answered_calls.proofs.Created.{create_answered}
use Rattle.answered_calls.proofs.LinesTaken.{lines_add}

-- the spreadsheet that is found is sound, and its named ranges are apart
abbrev IsGood : PlaceBook → Type 0
IsGood book = IsSound book × AreNames book.ranges

good_in : (id : List ℕ) (books : List PlaceBook) → All IsSound books → All (λ book. AreNames book.ranges) books
    → (found : Option PlaceBook) → book_with id books ≡ found → IfSome found IsGood
good_in id books sound names None is = tt
good_in id books sound names (Some book) is =
    holds_of_found IsGood (λ (book : PlaceBook). bytes_eq book.id id) books book
    (λ k d there. (sound k d there, names k d there)) is

-- what is answered on a good spreadsheet for which something holds is answered on the one that is found
some_on : (Holds : PlaceBook → Type 0) (Answered : PlaceBook → Result Answer Refusal → Effect → Type 0)
    → ((book : PlaceBook) → IsGood book → Holds book → ¬ (HasNoAnswer (Answered book)))
    → (found : Option PlaceBook) → IsSome found → IfSome found IsGood → IfSome found Holds
    → ¬ (HasNoAnswer (λ told effect. IsSomeAnd found (λ book. Answered book told effect)))
some_on Holds Answered each None some sound holds = absurd (false≢true some)
some_on Holds Answered each (Some book) some sound holds = each book sound holds

none_asked : (found : Option PlaceBook) → IfSome found (λ book. Unit {0})
none_asked None = tt
none_asked (Some book) = tt

module _ (looks : LooksAnswered) (laws : RequestLaws) (caller : Caller) (books : List PlaceBook)
    (sound : All IsSound books) (names : All (λ book. AreNames book.ranges) books) where
  abbrev OnFound : List ℕ → (PlaceBook → Result Answer Refusal → Effect → Type 0) → Result Answer Refusal
      → Effect → Type 0
  OnFound id Answered told effect = OnBook id books (λ book. Answered book told effect)

  on_sound : (id : List ℕ) (Answered : PlaceBook → Result Answer Refusal → Effect → Type 0)
      → ((book : PlaceBook) → IsSound book → ¬ (HasNoAnswer (Answered book))) → IsSome (book_with id books)
      → ¬ (HasNoAnswer (OnFound id Answered))
  on_sound id Answered each there =
      some_on (λ book. Unit {0}) Answered (λ book good holds. each book good.0) (book_with id books) there
      (good_in id books sound names (book_with id books) refl) (none_asked (book_with id books))

  some_answered : (called : Call) → HasItsBook called books → AsksForFew called books
      → ¬ (HasNoAnswer (IsAnswered caller called books))
  some_answered (call.Create given) there few =
      some_alone (IsCreateOf caller.user given books) (create_answered caller.user given books few)
  some_answered (call.Batch id requests) there few =
      some_on (HasRoomFor requests) (IsBatchOf caller.user caller.project requests) (λ book good room.
      batches_answered laws caller.user caller.project requests book
      (record { sound = good.0; names = good.1; room = room })) (book_with id books) there
      (good_in id books sound names (book_with id books) refl) few
  some_answered (call.Write id range mode values) there few =
      on_sound id (λ book. IsAlone (IsWriteOf caller.user range values book)) (λ book is.
      some_alone (IsWriteOf caller.user range values book)
      (some_write_of laws.write caller.user range values book is)) there
  some_answered (call.WriteMany id mode blocks) there few =
      on_sound id (IsWriteManyOf caller.user blocks) (some_write_many laws.write caller.user blocks) there
  some_answered (call.Append id range mode option values) there few =
      on_sound id (λ book. IsAlone (IsAppendOf caller.user range option values book)) (λ book is.
      some_alone (IsAppendOf caller.user range option values book)
      (some_append_of laws.write caller.user (lines_add laws.lines laws.write.turns) range option values book is)) there
  some_answered (call.Get id grids) there few = looks.answered caller (call.Get id grids) books sound refl there
  some_answered (call.Read id range dimension render) there few =
      looks.answered caller (call.Read id range dimension render) books sound refl there
  some_answered (call.Clear id range) there few = looks.answered caller (call.Clear id range) books sound refl there
  some_answered (call.ReadMany id ranges dimension render) there few =
      looks.answered caller (call.ReadMany id ranges dimension render) books sound refl there
  some_answered (call.ClearMany id ranges) there few =
      looks.answered caller (call.ClearMany id ranges) books sound refl there
  some_answered (call.ReadFiltered id filters dimension render) there few =
      looks.answered caller (call.ReadFiltered id filters dimension render) books sound refl there
  some_answered (call.Item id item) there few = looks.answered caller (call.Item id item) books sound refl there
  some_answered (call.Search id filters) there few =
      looks.answered caller (call.Search id filters) books sound refl there

pub calls_answered : LooksAnswered → RequestLaws → CallsAnswered
calls_answered looks laws = record {
  answered = λ caller called books sound names. some_answered looks laws caller books sound names called;
}
