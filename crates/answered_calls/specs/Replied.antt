-- Laws of requests: it can't be that one has no reply, where its call asks for few enough (RFC 9110, section 3.4: each
-- request is answered by a response).
use Rattle.std.specs.Prelude.{ℕ, List, Result, IfOk}
use Rattle.std.specs.List.{All}
use Rattle.named_ranges.specs.Listed.{AreNames}
use Rattle.world_model.specs.Book.{PlaceBook}
use Rattle.sheets_http.specs.declared.request.Wire.{Wire}
use Rattle.sheets_json.specs.declared.call.Call.{Call}
use Rattle.batch_engine.specs.declared.calls.Caller.{Caller}
use Rattle.desk.specs.Steps.{Outcome}
use Rattle.desk.specs.declared.entry.Ask.{Ask}
use Rattle.desk.specs.declared.entry.Entry.{Entry}
use Rattle.sheet_engine.specs.Asks.{IsAsked}
use Rattle.sheet_engine.specs.Replay.{Plain, Stands}
use Rattle.sheet_engine.specs.declared.fault.Fault.{Fault}
use Rattle.connections.specs.Alone.{IsReply}
use Rattle.connections.specs.Calls.{UserTable, ask_of}
use Rattle.answered_calls.specs.Answered.{AsksForFew}

-- no spreadsheet that stands for a history has two named ranges with one id or one name, in any case of ASCII letters
abbrev pub NamesApart : Type 0
NamesApart = (history : List Entry) (books : List PlaceBook) → Stands books history
    → All (λ book. AreNames book.ranges) books

-- what is asked isn't a call that asks for more
abbrev pub IsForFew : List PlaceBook → Ask → Type 0
IsForFew books ask = (asked : Result (Caller × Call) Fault) → IsAsked books ask asked
    → IfOk asked (λ made. AsksForFew made.1 books)

-- it can't be, behind a history for which spreadsheets stand, that one thread has no outcome for what is asked, nor
-- that it has no reply to a request, with the history that this leaves
pub record RequestsAnswered : Type 0 where
  pub answered : (history : List Entry) (books : List PlaceBook) (ask : Ask) → Stands books history
      → IsForFew books ask → ¬ ((outcome : Outcome) → ¬ (Plain history ask outcome))
  pub replied : (users : UserTable) (history : List Entry) (books : List PlaceBook) (request : Wire)
      → Stands books history → IsForFew books (ask_of users request)
      → ¬ ((left : List Entry) (response : List ℕ) → ¬ (IsReply Plain users history request left response))
