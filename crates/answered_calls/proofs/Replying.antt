-- Each request has a reply where each call has an answer.
use Rattle.std.proofs.Common.{List}
use Rattle.std.specs.Prelude.{Result, Ok, Err, IfOk}
use Rattle.std.specs.List.{All}
use Rattle.named_ranges.specs.Listed.{AreNames}
use Rattle.world_model.specs.Book.{PlaceBook}
use Rattle.world_model.specs.Sound.{IsSound}
use Rattle.sheets_json.specs.declared.call.Call.{Call}
use Rattle.batch_engine.specs.Calls.{HasItsBook}
use Rattle.batch_engine.specs.declared.calls.Caller.{Caller}
use Rattle.desk.specs.Steps.{Outcome}
use Rattle.desk.specs.declared.entry.Ask.{Ask}
use Rattle.desk.specs.declared.entry.Entry.{Entry}
use Rattle.sheet_engine.specs.Answered.{AsksAnswered, HasAnswer}
use Rattle.sheet_engine.specs.Replay.{Plain, Stands}
use Rattle.sheet_engine.specs.declared.fault.Fault.{Fault}
use Rattle.connections.specs.Calls.{ask_of}
use Rattle.connections.specs.Replied.{HasReply}
use Rattle.answered_calls.specs.Answered.{AsksForFew, CallsAnswered}
use Rattle.answered_calls.specs.Replied.{IsForFew, NamesApart, RequestsAnswered}

has_answer : CallsAnswered → (books : List PlaceBook) → All IsSound books → All (λ book. AreNames book.ranges) books
    → (asked : Result (Caller × Call) Fault)
    → IfOk asked (λ made. HasItsBook made.1 books) → IfOk asked (λ made. AsksForFew made.1 books)
    → HasAnswer books asked
has_answer calls books sound names (Ok (caller, call)) there few =
    calls.answered caller call books sound names there few
has_answer calls books sound names (Err found) there few = tt

has_outcome : AsksAnswered → CallsAnswered → NamesApart → (history : List Entry) (books : List PlaceBook) (ask : Ask)
    → Stands books history → IsForFew books ask → ¬ ((outcome : Outcome) → ¬ (Plain history ask outcome))
has_outcome asks calls apart history books ask stands few none =
    asks.asked books ask (λ asked is.
    asks.where_answered history books ask asked stands is
    (has_answer calls books (asks.sound history books stands) (apart history books stands) asked
    (asks.on_its_book books ask asked is) (few asked is)) none)

pub requests_answered : AsksAnswered → CallsAnswered → NamesApart → HasReply Plain → RequestsAnswered
requests_answered asks calls apart has_reply = record {
  answered = has_outcome asks calls apart;
  replied = λ users history books request stands few none.
      has_outcome asks calls apart history books (ask_of users request) stands few (λ outcome plain.
      let (left, response, reply) = has_reply users history request outcome plain in
      none left response reply);
}
