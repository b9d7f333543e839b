-- Laws of calls.
use Rattle.std.specs.Prelude.{◌≡◌, List, Result}
use Rattle.std.specs.List.{All}
use Rattle.world_model.specs.Book.{PlaceBook}
use Rattle.world_model.specs.Sound.{IsSound}
use Rattle.sheets_json.specs.declared.answer.Answer.{Answer}
use Rattle.sheets_json.specs.declared.call.Call.{Call}
use Rattle.batch_engine.specs.Effects.{Effect}
use Rattle.batch_engine.specs.Calls.{IsAnswered}
use Rattle.batch_engine.specs.declared.calls.Caller.{Caller}

-- one answer and one effect are possible
abbrev pub IsOnce : {Broken : Type 0} → (Result Answer Broken → Effect → Type 0) → Type 0
IsOnce Answered = (told told' : Result Answer _) (effect effect' : Effect) → Answered told effect
    → Answered told' effect' → (told ≡ told') × (effect ≡ effect')

-- a call of its caller has one answer and one effect on spreadsheets that are sound
pub record CallsAnsweredOnce : Type 0 where
  pub once : (caller : Caller) (called : Call) (books : List PlaceBook) → All IsSound books
      → IsOnce (IsAnswered caller called books)
