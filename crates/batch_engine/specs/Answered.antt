-- Laws of calls: none that looks at a spreadsheet, or empties cells of ranges, is without an answer. That there is one
-- is told by that it can't be that none is there.
use Rattle.std.specs.Prelude.{Bool, true, false, IsTrue, List, Result}
use Rattle.std.specs.List.{All}
use Rattle.world_model.specs.Book.{PlaceBook}
use Rattle.world_model.specs.Sound.{IsSound}
use Rattle.sheets_json.specs.declared.answer.Answer.{Answer}
use Rattle.sheets_json.specs.declared.call.Call.{Call}
use Rattle.sheets_json.specs.declared.call.Call.TheVariants as call
use Rattle.batch_engine.specs.Calls.{HasItsBook, IsAnswered}
use Rattle.batch_engine.specs.Effects.{Effect}
use Rattle.batch_engine.specs.declared.calls.Caller.{Caller}

-- no answer with an effect is possible
abbrev pub HasNoAnswer : {Broken : Type 0} → (Result Answer Broken → Effect → Type 0) → Type 0
HasNoAnswer Answered = (told : Result Answer _) (effect : Effect) → ¬ (Answered told effect)

-- the call looks at a spreadsheet, or empties the cells of ranges
abbrev pub looks_or_clears : Call → Bool
looks_or_clears (call.Get id grids) = true
looks_or_clears (call.Read id range dimension render) = true
looks_or_clears (call.Clear id range) = true
looks_or_clears (call.ReadMany id ranges dimension render) = true
looks_or_clears (call.ClearMany id ranges) = true
looks_or_clears (call.ReadFiltered id filters dimension render) = true
looks_or_clears (call.Item id item) = true
looks_or_clears (call.Search id filters) = true
looks_or_clears _ = false

-- such a call of its caller has an answer and an effect on spreadsheets that are sound
pub record LooksAnswered : Type 0 where
  pub answered : (caller : Caller) (called : Call) (books : List PlaceBook) → All IsSound books
      → IsTrue (looks_or_clears called) → HasItsBook called books → ¬ (HasNoAnswer (IsAnswered caller called books))
