-- One connection at a desk that nobody else has: each request is answered by one thread, behind the calls that it
-- accepted before.
use Rattle.std.specs.Prelude.{◌≡◌, ℕ, List, [], ◌∷◌, ◌++◌, if◌then◌else◌}
use Rattle.sheets_http.specs.declared.request.Wire.{Wire}
use Rattle.sheets_http.specs.Responses.{text_of_response}
use Rattle.desk.specs.declared.entry.Ask.{Ask}
use Rattle.desk.specs.declared.entry.Entry.{Entry}
use Rattle.desk.specs.declared.state.TheConstants.{LONGEST_JOURNAL}
use Rattle.desk.specs.Steps.{Outcome, StepsTo, entry_of}
use Rattle.conversation.specs.Responses.{no_memory_text}
use Rattle.connections.specs.Calls.{UserTable, ask_of}

-- What one thread answers a request behind a history, and the history after it: the call that the request asks for is
-- added exactly where it is accepted, under the number of the only caller.
pub record IsReply (plain : List Entry → Ask → Outcome → Type 0) (users : UserTable) (history : List Entry)
    (request : Wire) (history' : List Entry) (response : List ℕ) : Type 0 where
  pub outcome : Outcome
  pub steps : StepsTo plain LONGEST_JOURNAL history (ask_of users request) outcome
  pub history_is : history' ≡ (if outcome.accepts then history ++ entry_of 0 (ask_of users request) ∷ [] else history)
  pub response_is : response ≡ text_of_response outcome.status request.close outcome.body

-- a request is answered by its reply; or memory ran out before anything was done, and the constant response says so
pub data IsResponse {State : Type 0} (IsReply : State → Wire → State → List ℕ → Type 0) (state : State)
    (request : Wire) (state' : State) (response : List ℕ) : Type 0 where
  replied : IsReply state request state' response → IsResponse IsReply state request state' response
  refused_for_memory : state' ≡ state → response ≡ no_memory_text request.close
      → IsResponse IsReply state request state' response

-- a request has one reply behind a given history, and leaves one history
abbrev pub HasOneReply : (List Entry → Ask → Outcome → Type 0) → Type 0
HasOneReply plain =
    (users : UserTable) (history one other : List Entry) (request : Wire) (response another : List ℕ)
    → IsReply plain users history request one response → IsReply plain users history request other another
    → (one ≡ other) × (response ≡ another)
