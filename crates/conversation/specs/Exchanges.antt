-- What the private functions of a conversation hand to one another: what is sent for one request or
-- refused head, and how a conversation goes on or ends behind it.
use Rattle.std.specs.Prelude.{◌≡◌, ℕ, ◌≤◌, Bool, if◌then◌else◌, List, Option, None, Some, Result, Ok, Err, MatchOption}
use Rattle.std.specs.Prelude.{MatchResult}
use Rattle.sheets_http.specs.declared.request.Wire.{Wire}
use Rattle.sheets_http.specs.declared.request.HeadFault.{HeadFault}
use Rattle.sheets_http.specs.declared.request.Next.{Next}
use Rattle.sheets_http.specs.declared.request.Next.TheVariants as next
use Rattle.sheets_http.specs.declared.outside.SinkFault.{SinkFault}
use Rattle.sheets_http.specs.declared.outside.SinkFault.TheVariants as fault
use Rattle.cell_value.specs.FaultCount.{Rose}
use Rattle.sheets_http.specs.Outside.{TakesAll, TakesSome}
use Rattle.conversation.specs.declared.ended.Ended.{Ended}
use Rattle.conversation.specs.declared.ended.Ended.TheVariants as how
use Rattle.conversation.specs.Conversation.{IsClosing, Moment, HasAnswered, IsConversation}

-- what sending bytes leaves: all of them were written, or after a fault a part of them
abbrev pub Sends : Option (List ℕ) → Option (List ℕ) → List ℕ → Result (Unit {0}) SinkFault → Type 0
Sends before after bytes sent =
    MatchResult sent (λ done. TakesAll before after bytes) (λ fault. TakesSome before after bytes)

-- want of memory in the sink raises its count of shortages, which never falls
pub record CountsShortages (shortages shortages' : ℕ) (sent : Result (Unit {0}) SinkFault) : Type 0 where
  pub later : shortages ≤ shortages'
  pub cause : sent ≡ Err fault.NoMemory → Rose shortages shortages'

-- how a conversation ends by a fault of its sink
abbrev pub ended_by : SinkFault → Ended
ended_by fault.Failed = how.WriteFault
ended_by fault.NoMemory = how.NoMemory

-- how a conversation ends behind a response that was sent, if it does: where the request asks for the
-- end, or by a fault
abbrev pub ended_behind : Bool → Result (Unit {0}) SinkFault → Option Ended
ended_behind closes (Ok done) = if closes then Some how.Asked else None
ended_behind closes (Err fault) = Some (ended_by fault)

-- how a conversation ends behind its closing response
abbrev pub ended_closed : HeadFault → Result (Unit {0}) SinkFault → Ended
ended_closed refused (Ok done) = how.Closed refused
ended_closed refused (Err fault) = ended_by fault

-- a response is sent, and the conversation goes on or ends so behind it
pub record SendsOne (response : List ℕ) (closes : Bool) (before after : Option (List ℕ)) (shortages shortages' : ℕ)
    (result : Option Ended) : Type 0 where
  pub sent : Result (Unit {0}) SinkFault
  pub sends : Sends before after response sent
  pub counts : CountsShortages shortages shortages' sent
  pub result_is : result ≡ ended_behind closes sent

-- a request was served: its response is sent; or there was no memory for it, and the conversation ends
pub data Answers {State : Type 0} (IsReply : State → Wire → State → List ℕ → Type 0) (request : Wire)
    (before after : Moment State) (result : Option Ended) : Type 0 where
  responds : (response : List ℕ) → IsReply before.state request after.state response
      → SendsOne response request.close before.written after.written before.shortages after.shortages result
      → Answers IsReply request before after result
  loses : (response : List ℕ) → IsReply before.state request after.state response → after.written ≡ before.written
      → result ≡ Some how.NoMemory → Answers IsReply request before after result

-- the closing response to a refused head is sent
pub record SendsClosing (refused : HeadFault) (before after : Option (List ℕ)) (shortages shortages' : ℕ)
    (sent : Result (Unit {0}) SinkFault) : Type 0 where
  pub response : List ℕ
  pub is_closing : IsClosing refused response
  pub sends : Sends before after response sent
  pub counts : CountsShortages shortages shortages' sent

-- a refused head was answered, and the conversation ends so
pub record Refuses (refused : HeadFault) (before after : Option (List ℕ)) (shortages shortages' : ℕ)
    (result : Ended) : Type 0 where
  pub sent : Result (Unit {0}) SinkFault
  pub closes : SendsClosing refused before after shortages shortages' sent
  pub result_is : result ≡ ended_closed refused sent

-- the conversation ends so, and nothing is done
pub record EndsIdle {State : Type 0} (end : Ended) (before after : Moment State) (result : Option Ended) : Type 0
  where
    pub state_is : after.state ≡ before.state
    pub written_is : after.written ≡ before.written
    pub result_is : result ≡ Some end

-- a refused head was answered, and the state stays
pub record EndsClosed {State : Type 0} (refused : HeadFault) (before after : Moment State) (result : Option Ended)
    : Type 0 where
  pub end : Ended
  pub state_is : after.state ≡ before.state
  pub refuses : Refuses refused before.written after.written before.shortages after.shortages end
  pub result_is : result ≡ Some end

-- what is done with what comes next in the stream
abbrev pub Acts : {State : Type 0} → (State → Wire → State → List ℕ → Type 0) → Next → Moment State → Moment State
    → Option Ended → Type 0
Acts IsReply (next.Request request) before after result = Answers IsReply request before after result
Acts IsReply next.End before after result = EndsIdle how.End before after result
Acts IsReply (next.Closed refused) before after result = EndsClosed refused before after result
Acts IsReply (next.Truncated count) before after result = EndsIdle (how.Truncated count) before after result
Acts IsReply next.LongTalk before after result = EndsIdle how.LongTalk before after result
Acts IsReply next.ReadFault before after result = EndsIdle how.ReadFault before after result
Acts IsReply next.NoMemory before after result = EndsIdle how.NoMemory before after result

-- an exchange of a request and its response, behind which a conversation goes on, or its end
abbrev pub IsExchange : {State : Type 0} → (State → Wire → State → List ℕ → Type 0) → ℕ → Option (List ℕ)
    → Moment State → ℕ → Option (List ℕ) → Moment State → Option Ended → Type 0
IsExchange IsReply room stream before room' stream' after result =
    MatchOption result (HasAnswered IsReply room stream before room' stream' after)
    (λ end. IsConversation IsReply room stream before after end)
