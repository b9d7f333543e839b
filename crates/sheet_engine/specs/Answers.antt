-- What an ask is answered on spreadsheets, and what it makes of them (Google Sheets API v4 reference; Google's API
-- errors).
use Rattle.std.specs.Prelude.{◌≡◌, ℕ, Bool, true, false, ◌++◌, List, Option, Result, Ok, Err, codes}
use Rattle.serde_json.specs.Written.{compact_text}
use Rattle.world_model.specs.Book.{PlaceBook}
use Rattle.dimension_ops.specs.Rules.{rule_text}
use Rattle.dimension_ops.specs.declared.rule.Rule.{Rule}
use Rattle.dimension_ops.specs.declared.rule.Rule.TheVariants as rule
use Rattle.sheets_json.specs.Answers.{answer_data}
use Rattle.sheets_json.specs.Faults.{place_text}
use Rattle.sheets_json.specs.Refusals.{refusal_data}
use Rattle.sheets_json.specs.declared.answer.Answer.{Answer}
use Rattle.sheets_json.specs.declared.call.Call.{Call}
use Rattle.sheets_json.specs.declared.call.Call.TheVariants as call
use Rattle.batch_engine.specs.Calls.{IsAnswered, Refusal}
use Rattle.batch_engine.specs.Effects.{Effect, IsNext}
use Rattle.batch_engine.specs.declared.calls.Caller.{Caller}
use Rattle.batch_engine.specs.declared.calls.Outcome as batch
use Rattle.batch_engine.specs.declared.calls.Outcome.TheVariants as called
use Rattle.desk.specs.Steps.{Outcome}
use Rattle.desk.specs.declared.entry.Ask.{Ask}
use Rattle.sheet_engine.specs.Asks.{IsAsked}
use Rattle.sheet_engine.specs.declared.fault.Fault.{Fault}
use Rattle.sheet_engine.specs.declared.fault.Fault.TheVariants as fault

-- ---- answers

-- a broken rule is a fault of the ask
abbrev pub as_fault : Result Answer Refusal → Result Answer Fault
as_fault (Ok answer) = Ok answer
as_fault (Err (at, broken)) = Err (fault.Broken at broken)

-- the caller's call is answered on the spreadsheets
pub record IsCalled (caller : Caller) (books : List PlaceBook) (call : Call) (told : Result Answer Fault)
    (effect : Effect) : Type 0 where
  pub answer : Result Answer Refusal
  pub answered : IsAnswered caller call books answer effect
  pub told_is : told ≡ as_fault answer

-- an ask that is no call makes nothing of them
abbrev pub Ends : List PlaceBook → Result (Caller × Call) Fault → Result Answer Fault → Effect → Type 0
Ends books (Ok (caller, call)) told effect = IsCalled caller books call told effect
Ends books (Err found) told effect = (told ≡ Err found) × (effect ≡ Effect.Nothing)

-- the ask is answered so, or has that fault, and makes that of the spreadsheets
pub record IsStep (books : List PlaceBook) (ask : Ask) (asked : Result (Caller × Call) Fault)
    (told : Result Answer Fault) (effect : Effect) : Type 0 where
  pub is_asked : IsAsked books ask asked
  pub ends : Ends books asked told effect

-- ---- outcomes

-- a call that writes, whatever it makes (spreadsheets.create and batchUpdate; values.update, append, clear,
-- batchUpdate and batchClear)
abbrev pub is_writing : Call → Bool
is_writing (call.Create spreadsheet) = true
is_writing (call.Batch id requests) = true
is_writing (call.Write id range mode values) = true
is_writing (call.Append id range mode option values) = true
is_writing (call.Clear id range) = true
is_writing (call.WriteMany id mode blocks) = true
is_writing (call.ClearMany id ranges) = true
is_writing _ = false

-- a writing call that is answered is accepted, and nothing else
abbrev pub is_accepted : Result (Caller × Call) Fault → Result Answer Fault → Bool
is_accepted (Ok (caller, call)) (Ok answer) = is_writing call
is_accepted _ _ = false

-- the status of a fault: that of who asks, of what the ask names, of its user's rights, or of itself
abbrev pub status_of_rule : Rule → ℕ
status_of_rule (rule.Protected id) = 403
status_of_rule rule.NotEditor = 403
status_of_rule _ = 400

abbrev pub status_of_fault : Fault → ℕ
status_of_fault fault.NoUser = 401
status_of_fault fault.NoRoute = 404
status_of_fault fault.NoBook = 404
status_of_fault fault.BadQuery = 400
status_of_fault fault.BadBody = 400
status_of_fault fault.EmptyBatch = 400
status_of_fault (fault.Broken at broken) = status_of_rule broken

abbrev pub message_of : Fault → List ℕ
message_of fault.NoUser = codes "NoUser"
message_of fault.NoRoute = codes "NoRoute"
message_of fault.NoBook = codes "NoBook"
message_of fault.BadQuery = codes "BadQuery"
message_of fault.BadBody = codes "BadBody"
message_of fault.EmptyBatch = codes "EmptyBatch"
message_of (fault.Broken at broken) = place_text at ++ rule_text broken

abbrev pub status_of : Result Answer Fault → ℕ
status_of (Ok answer) = 200
status_of (Err found) = status_of_fault found

abbrev pub body_of : Result Answer Fault → List ℕ
body_of (Ok answer) = compact_text (answer_data answer)
body_of (Err found) = compact_text (refusal_data (status_of_fault found) (message_of found))

-- the outcome of an ask that is answered so
abbrev pub outcome_of : Result (Caller × Call) Fault → Result Answer Fault → Outcome
outcome_of asked told = record { status = status_of told; body = body_of told; accepts = is_accepted asked told }

-- ---- what the private functions hand to one another

-- the spreadsheets after it are told where it makes something of them
pub record Makes (books : List PlaceBook) (ask : Ask) (told : Result Answer Fault)
    (next : Option (List PlaceBook)) : Type 0 where
  pub asked : Result (Caller × Call) Fault
  pub effect : Effect
  pub is_step : IsStep books ask asked told effect
  pub is_next : IsNext books effect next

-- what is told of a call, as of its ask
abbrev pub told_by : batch.Outcome → Result Answer Fault
told_by (called.Answered answer) = Ok answer
told_by (called.Refused at broken) = Err (fault.Broken at broken)

-- a call, likewise
pub record Performs (caller : Caller) (books : List PlaceBook) (call : Call) (told : Result Answer Fault)
    (next : Option (List PlaceBook)) : Type 0 where
  pub effect : Effect
  pub is_called : IsCalled caller books call told effect
  pub is_next : IsNext books effect next
