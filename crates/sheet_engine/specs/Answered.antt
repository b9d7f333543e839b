-- Laws of asks: each is a call or has a fault, and none that has one, looks at a spreadsheet or empties the cells of
-- ranges is without an outcome, nor is a dump without a text. That there is one is told by that it can't be that none
-- is there.
use Rattle.std.specs.Prelude.{ℕ, IsTrue, List, Result, Ok, Err, IfOk, ⊤}
use Rattle.std.specs.List.{All}
use Rattle.world_model.specs.Book.{PlaceBook}
use Rattle.world_model.specs.Sound.{IsSound}
use Rattle.sheets_json.specs.declared.call.Call.{Call}
use Rattle.batch_engine.specs.Answered.{HasNoAnswer, looks_or_clears}
use Rattle.batch_engine.specs.Calls.{HasItsBook, IsAnswered}
use Rattle.batch_engine.specs.declared.calls.Caller.{Caller}
use Rattle.desk.specs.Steps.{Outcome}
use Rattle.desk.specs.declared.entry.Ask.{Ask}
use Rattle.desk.specs.declared.entry.Entry.{Entry}
use Rattle.sheet_engine.specs.Asks.{IsAsked, IsRead}
use Rattle.sheet_engine.specs.Dump.{Dump}
use Rattle.sheet_engine.specs.Replay.{Plain, Stands}
use Rattle.sheet_engine.specs.declared.asking.Reading.{Reading}
use Rattle.sheet_engine.specs.declared.fault.Fault.{Fault}

-- it has a fault, or is a call that looks at a spreadsheet or empties the cells of ranges
abbrev pub LooksOrFails : Result (Caller × Call) Fault → Type 0
LooksOrFails (Ok (caller, call)) = IsTrue (looks_or_clears call)
LooksOrFails (Err found) = ⊤

-- it has a fault, or is a call that can't be without an answer on the spreadsheets
abbrev pub HasAnswer : List PlaceBook → Result (Caller × Call) Fault → Type 0
HasAnswer books (Ok (caller, call)) = ¬ (HasNoAnswer (IsAnswered caller call books))
HasAnswer books (Err found) = ⊤

pub record AsksAnswered : Type 0 where
  pub read : (ask : Ask) → ¬ ((read : Reading) → ¬ (IsRead ask read))
  pub asked : (books : List PlaceBook) (ask : Ask)
      → ¬ ((asked : Result (Caller × Call) Fault) → ¬ (IsAsked books ask asked))
  -- the spreadsheet that a call is on is there
  pub on_its_book : (books : List PlaceBook) (ask : Ask) (asked : Result (Caller × Call) Fault)
      → IsAsked books ask asked → IfOk asked (λ made. HasItsBook made.1 books)
  -- spreadsheets that stand for entries are sound, and behind these an ask has an outcome where its call has an answer
  pub sound : (entries : List Entry) (books : List PlaceBook) → Stands books entries → All IsSound books
  pub where_answered : (entries : List Entry) (books : List PlaceBook) (ask : Ask)
      (asked : Result (Caller × Call) Fault)
      → Stands books entries → IsAsked books ask asked → HasAnswer books asked
      → ¬ ((outcome : Outcome) → ¬ (Plain entries ask outcome))
  pub outcome : (entries : List Entry) (books : List PlaceBook) (ask : Ask) (asked : Result (Caller × Call) Fault)
      → Stands books entries → IsAsked books ask asked → LooksOrFails asked
      → ¬ ((outcome : Outcome) → ¬ (Plain entries ask outcome))
  pub dumped : (entries : List Entry) (books : List PlaceBook) → Stands books entries
      → ¬ ((text : List ℕ) → ¬ (Dump entries text))
