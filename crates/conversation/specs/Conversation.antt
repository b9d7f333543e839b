-- What a conversation does, on a state of any type: each request is answered in turn (RFC 9112, section
-- 9.3.2: responses in the order of requests), a refused head by the closing response, and what stands
-- there where it was cut off.
use Rattle.std.specs.Prelude.{◌≡◌, ℕ, ◌-◌, ◌≤◌, Bool, true, false, List, [], ◌∷◌, ◌++◌, length, Option, Some, None}
use Rattle.std.specs.Prelude.{IfSome, MatchOption}
use Rattle.sheets_http.specs.declared.request.Wire.{Wire}
use Rattle.sheets_http.specs.declared.request.HeadFault.{HeadFault}
use Rattle.sheets_http.specs.Framing.{request_and_rest, talk_end, IsNext, End, ended, asked, closed, truncated}
use Rattle.sheets_http.specs.Framing.{long_talk, Talk}
use Rattle.cell_value.specs.FaultCount.{Rose, StaysSteady}
use Rattle.sheets_http.specs.Outside.{TakesAll, TakesSome}
use Rattle.conversation.specs.declared.ended.Ended.{Ended}
use Rattle.conversation.specs.declared.ended.Ended.TheVariants as how
use Rattle.conversation.specs.Responses.{closing_text, no_memory_text}

-- ---- requests and responses

-- the requests are answered one after another, each on the state that those before it left
abbrev pub AreAnswered : {State : Type 0} → (State → Wire → State → List ℕ → Type 0) → State → List Wire → State
    → List ℕ → Type 0
AreAnswered IsReply state [] state' responses = (state' ≡ state) × (responses ≡ [])
AreAnswered {State} IsReply state (request ∷ requests) state' responses =
    (between : State) × (first : List ℕ) × (rest : List ℕ) × IsReply state request between first
    × AreAnswered IsReply between requests state' rest × (responses ≡ first ++ rest)

-- a refused head is answered by its closing response, or by the constant one where memory ran out
pub data IsClosing (refused : HeadFault) (response : List ℕ) : Type 0 where
  says_why : response ≡ closing_text refused → IsClosing refused response
  closed_for_memory : response ≡ no_memory_text true → IsClosing refused response

-- what stands behind the responses to the requests
abbrev pub IsLast : End → List ℕ → Type 0
IsLast ended bytes = bytes ≡ []
IsLast asked bytes = bytes ≡ []
IsLast (closed fault) bytes = IsClosing fault bytes
IsLast (truncated count) bytes = bytes ≡ []
IsLast long_talk bytes = bytes ≡ []

-- the stream begins with these requests, none of which asks for the end; behind them stands the rest,
-- of which so many bytes are served
abbrev pub StartsWithRequests : ℕ → List ℕ → List Wire → ℕ → List ℕ → Type 0
StartsWithRequests room bytes [] room' rest = (room' ≡ room) × (rest ≡ bytes)
StartsWithRequests room bytes (request ∷ requests) room' rest =
    (behind : List ℕ) × IsNext room bytes (request_and_rest request behind) × (request.close ≡ false)
    × StartsWithRequests (room - (length bytes - length behind)) behind requests room' rest

-- ---- a conversation

-- what stands at a moment of a conversation: the state, what was written, where the sink tells it, and
-- how often the sink found no memory
pub record Moment (State : Type 0) : Type 0 where
  pub state : State
  pub written : Option (List ℕ)
  pub shortages : ℕ

-- the moment with this state, this output and this count of shortages
abbrev pub at_moment : {State : Type 0} → State → Option (List ℕ) → ℕ → Moment State
at_moment state written shortages = record { state = state; written = written; shortages = shortages }

-- requests were answered, each by its whole response: the first ones of the stream, where the source
-- tells it, of which at most `room` bytes are served
pub record HasAnswered {State : Type 0} (IsReply : State → Wire → State → List ℕ → Type 0) (room : ℕ)
    (stream : Option (List ℕ)) (before : Moment State) (room' : ℕ) (stream' : Option (List ℕ))
    (after : Moment State) : Type 0 where
  pub requests : List Wire
  pub responses : List ℕ
  pub are_first : IfSome stream
      (λ bytes. (rest : List ℕ) × StartsWithRequests room bytes requests room' rest × (stream' ≡ Some rest))
  pub are_answered : AreAnswered IsReply before.state requests after.state responses
  pub are_written : TakesAll before.written after.written responses
  pub later : before.shortages ≤ after.shortages

-- all requests of the stream's talk, which has this end, were answered, and the last response stands
-- behind theirs
pub record IsWhole {State : Type 0} (IsReply : State → Wire → State → List ℕ → Type 0) (room : ℕ)
    (stream : Option (List ℕ)) (before after : Moment State) (end : End) : Type 0 where
  pub requests : List Wire
  pub responses : List ℕ
  pub last : List ℕ
  pub are_all : IfSome stream (λ bytes. Talk room bytes requests end)
  pub are_answered : AreAnswered IsReply before.state requests after.state responses
  pub is_last : IsLast end last
  pub are_written : TakesAll before.written after.written (responses ++ last)

-- the request is the next one of the stream
abbrev pub IsNextRequest : ℕ → Option (List ℕ) → Wire → Type 0
IsNextRequest room stream request = IfSome stream
    (λ bytes. (rest : List ℕ) × IsNext room bytes (request_and_rest request rest))

-- nothing was done
pub record IsIdle {State : Type 0} (before after : Moment State) : Type 0 where
  pub state_is : after.state ≡ before.state
  pub written_is : after.written ≡ before.written

-- one response was begun, of which the first bytes were written: that of the next request, which was
-- served, or the closing one
pub data HasBegun {State : Type 0} (IsReply : State → Wire → State → List ℕ → Type 0) (room : ℕ)
    (stream : Option (List ℕ)) (before after : Moment State) : Type 0 where
  a_response : (request : Wire) (response : List ℕ) → IsNextRequest room stream request
      → IsReply before.state request after.state response → TakesSome before.written after.written response
      → HasBegun IsReply room stream before after
  the_closing : (fault : HeadFault) (response : List ℕ)
      → IfSome stream (λ bytes. IsNext room bytes (talk_end (closed fault)))
      → IsClosing fault response → after.state ≡ before.state → TakesSome before.written after.written response
      → HasBegun IsReply room stream before after

-- memory ran out: before anything was done; or behind the next request's work, which was done, for its
-- response, of which nothing was written; or in the sink, whose count of shortages rose
pub data HasRunOut {State : Type 0} (IsReply : State → Wire → State → List ℕ → Type 0) (room : ℕ)
    (stream : Option (List ℕ)) (before after : Moment State) : Type 0 where
  idle : IsIdle before after → HasRunOut IsReply room stream before after
  unanswered : (request : Wire) (response : List ℕ) → IsNextRequest room stream request
      → IsReply before.state request after.state response → after.written ≡ before.written
      → HasRunOut IsReply room stream before after
  in_the_sink : Rose before.shortages after.shortages → HasBegun IsReply room stream before after
      → HasRunOut IsReply room stream before after

-- what was done last, behind whole responses, by a conversation that was cut off so
abbrev pub Stops : {State : Type 0} → (State → Wire → State → List ℕ → Type 0) → ℕ → Option (List ℕ) → Moment State
    → Moment State → Ended → Type 0
Stops IsReply room stream before after how.ReadFault = IsIdle before after
Stops IsReply room stream before after how.WriteFault = HasBegun IsReply room stream before after
Stops IsReply room stream before after how.NoMemory = HasRunOut IsReply room stream before after
Stops IsReply room stream before after how.End = ⊥
Stops IsReply room stream before after how.Asked = ⊥
Stops IsReply room stream before after (how.Closed fault) = ⊥
Stops IsReply room stream before after (how.Truncated count) = ⊥
Stops IsReply room stream before after how.LongTalk = ⊥

-- the conversation was cut off: the first requests of the stream were answered by whole responses, and
-- behind them at most one more was begun
pub record IsCutOff {State : Type 0} (IsReply : State → Wire → State → List ℕ → Type 0) (room : ℕ)
    (stream : Option (List ℕ)) (before after : Moment State) (end : Ended) : Type 0 where
  pub room' : ℕ
  pub rest : Option (List ℕ)
  pub between : Moment State
  pub answered : HasAnswered IsReply room stream before room' rest between
  pub stops : Stops IsReply room' rest between after end

-- the end of the stream's talk with which a conversation ended that wasn't cut off
abbrev pub end_of_talk : Ended → Option End
end_of_talk how.End = Some ended
end_of_talk how.Asked = Some asked
end_of_talk (how.Closed fault) = Some (closed fault)
end_of_talk (how.Truncated count) = Some (truncated count)
end_of_talk how.LongTalk = Some long_talk
end_of_talk how.ReadFault = None
end_of_talk how.WriteFault = None
end_of_talk how.NoMemory = None

-- a conversation over a stream, of which at most `room` bytes are served, ended so
abbrev pub IsConversation : {State : Type 0} → (State → Wire → State → List ℕ → Type 0) → ℕ → Option (List ℕ)
    → Moment State → Moment State → Ended → Type 0
IsConversation IsReply room stream before after end =
    MatchOption (end_of_talk end) (IsCutOff IsReply room stream before after end)
    (λ whole. IsWhole IsReply room stream before after whole)

-- the talk of a stream of which at most `room` bytes are served has that end
abbrev pub HasEnd : ℕ → List ℕ → End → Type 0
HasEnd room bytes end = (requests : List Wire) × Talk room bytes requests end

-- a conversation that wasn't cut off ended as the talk of the stream does
abbrev pub EndsAs : ℕ → List ℕ → Ended → Type 0
EndsAs room bytes end = IfSome (end_of_talk end) (λ whole. HasEnd room bytes whole)

-- a device's count of faults never falls, and doesn't rise where it is steady
pub record Counts (faults faults' : ℕ) (steady steady' : Bool) : Type 0 where
  pub later : faults ≤ faults'
  pub stays : StaysSteady steady steady' faults faults'

-- some first bytes of a stream that is told were taken, and the others are left
abbrev pub LosesFirst : Option (List ℕ) → Option (List ℕ) → Type 0
LosesFirst stream stream' =
    IfSome stream (λ bytes. (taken rest : List ℕ) × (stream' ≡ Some rest) × (bytes ≡ taken ++ rest))
