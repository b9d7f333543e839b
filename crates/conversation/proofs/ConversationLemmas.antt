-- Conversations: one part behind another.
use Rattle.std.proofs.Common.{◌≡◌, ℕ, ◌-◌, Bool, true, false, List, [], ◌∷◌, ◌++◌, length, Option, None, Some, IfSome}
use Rattle.std.specs.Prelude.{MatchBool}
use Rattle.std.proofs.Common.{MatchOption, refl, sym, ◌∙◌, ap, subst}
use Rattle.std.proofs.Common.{append_assoc, arith}
use Rattle.std.specs.Option.{option_map}
use Rattle.sheets_http.specs.declared.request.Wire.{Wire}
use Rattle.sheets_http.specs.Framing.{End, asked}
use Rattle.sheets_http.specs.Framing.{request_and_rest, talk_end, Talk}
use Rattle.sheets_http.specs.Laws.{HasOneNext}
use Rattle.conversation.specs.Laws.{BeginsTalk}
use Rattle.sheets_http.specs.Outside.{TakesAll}
use Rattle.conversation.specs.declared.ended.Ended.{Ended}
use Rattle.conversation.specs.Conversation.{AreAnswered, StartsWithRequests, Moment, HasAnswered}
use Rattle.conversation.specs.Conversation.{IsWhole, IsCutOff, end_of_talk, IsConversation, HasEnd, EndsAs}
use Rattle.conversation.specs.Written.{append_twice}

-- some requests are answered, and then others
pub AreAnswered-append : {State : Type 0} (IsReply : State → Wire → State → List ℕ → Type 0)
    (state between state' : State) (requests others : List Wire) (responses more : List ℕ)
    → AreAnswered IsReply state requests between responses → AreAnswered IsReply between others state' more
    → AreAnswered IsReply state (requests ++ others) state' (responses ++ more)
AreAnswered-append {State} IsReply state between state' [] others responses more first then =
    subst (λ (bytes : List ℕ). AreAnswered IsReply state others state' (bytes ++ more)) (sym first.1)
    (subst (λ (s : State). AreAnswered IsReply s others state' more) first.0 then)
AreAnswered-append IsReply state between state' (request ∷ requests) others responses more first then = (
  first.0,
  first.1,
  first.2 ++ more,
  first.3,
  AreAnswered-append IsReply first.0 between state' requests others first.2 more first.4 then,
  ap (λ (bytes : List ℕ). bytes ++ more) first.5 ∙ append_assoc first.1 first.2 more,
)

-- a stream begins with some requests, and what is left with others
pub StartsWithRequests-append : (room : ℕ) (bytes : List ℕ) (requests others : List Wire) (between : ℕ)
    (middle : List ℕ) (room' : ℕ) (rest : List ℕ)
    → StartsWithRequests room bytes requests between middle → StartsWithRequests between middle others room' rest
    → StartsWithRequests room bytes (requests ++ others) room' rest
StartsWithRequests-append room bytes [] others between middle room' rest first then =
    subst (λ (r : ℕ). StartsWithRequests r bytes others room' rest) first.0
    (subst (λ (b : List ℕ). StartsWithRequests between b others room' rest) first.1 then)
StartsWithRequests-append room bytes (request ∷ requests) others between middle room' rest first then = (
  first.0,
  first.1,
  first.2,
  StartsWithRequests-append (room - (length bytes - length first.0)) first.0 requests others between middle room' rest
      first.3 then,
)

-- the talk of what is left behind requests is the end of the whole talk
pub Talk-behind : (room : ℕ) (bytes : List ℕ) (requests others : List Wire) (room' : ℕ) (rest : List ℕ) (end : End)
    → StartsWithRequests room bytes requests room' rest → Talk room' rest others end
    → Talk room bytes (requests ++ others) end
Talk-behind room bytes [] others room' rest end first talk =
    subst (λ (r : ℕ). Talk r bytes others end) first.0 (subst (λ (b : List ℕ). Talk room' b others end) first.1 talk)
Talk-behind room bytes (request ∷ requests) others room' rest end first talk = (
  first.0,
  first.1,
  rw first.2 (Talk-behind (room - (length bytes - length first.0)) first.0 requests others room' rest end first.3 talk),
)

-- what goes on behind a request that doesn't ask for the end
behind_open : (close : Bool) (Last Others : Type 0) → close ≡ false → MatchBool close Last Others → Others
behind_open true Last Others e is = let wrong : true ≡ false = e in cc
behind_open false Last Others e is = is

-- requests with which a stream begins are the first of its talk
pub begins_talk : HasOneNext → BeginsTalk
begins_talk one room bytes [] room' rest wires end first talk = (
  wires,
  refl,
  subst (λ (r : ℕ). Talk r rest wires end) (sym first.0)
      (subst (λ (b : List ℕ). Talk room b wires end) (sym first.1) talk),
)
begins_talk one room bytes (request ∷ requests) room' rest [] end first talk =
    let wrong : talk_end end ≡ request_and_rest request first.0 =
    one room bytes (talk_end end) (request_and_rest request first.0) talk first.1 in
    cc
begins_talk one room bytes (request ∷ requests) room' rest (wire ∷ wires) end first talk =
    let same : request_and_rest wire talk.0 ≡ request_and_rest request first.0 =
    one room bytes (request_and_rest wire talk.0) (request_and_rest request first.0) talk.1 first.1 in
    let wire_is : wire ≡ request = cc in
    let behind_it : talk.0 ≡ first.0 = cc in
    let near = behind_open wire.close ((wires ≡ []) × (end ≡ asked))
    (Talk (room - (length bytes - length talk.0)) talk.0 wires end)
    (ap (λ (w : Wire). w.close) wire_is ∙ first.2) talk.2 in
    let on = subst (λ (r : List ℕ). Talk (room - (length bytes - length r)) r wires end) behind_it near in
    let later = begins_talk one (room - (length bytes - length first.0)) first.0 requests room' rest wires end first.3
    on in
    let others_are : wires ≡ requests ++ later.0 = later.1 in
    (later.0, cc, later.2)

-- ---- parts of a conversation

-- what holds of the rest of a stream, where the source tells it
behind : (stream' : Option (List ℕ)) (rest : List ℕ) (P : List ℕ → Type 0) → stream' ≡ Some rest → IfSome stream' P
    → P rest
behind stream' rest P is holds = subst (λ (s : Option (List ℕ)). IfSome s P) is holds

first_then : (room : ℕ) (stream : Option (List ℕ)) (requests : List Wire) (between : ℕ) (middle : Option (List ℕ))
    (others : List Wire) (room' : ℕ) (stream' : Option (List ℕ))
    → IfSome stream
    (λ bytes. (rest : List ℕ) × StartsWithRequests room bytes requests between rest × (middle ≡ Some rest))
    → IfSome middle
    (λ bytes. (rest : List ℕ) × StartsWithRequests between bytes others room' rest × (stream' ≡ Some rest))
    → IfSome stream
    (λ bytes. (rest : List ℕ) × StartsWithRequests room bytes (requests ++ others) room' rest
    × (stream' ≡ Some rest))
first_then room None requests between middle others room' stream' first then = tt
first_then room (Some bytes) requests between middle others room' stream' first then =
    let on = behind middle first.0
    (λ b. (rest : List ℕ) × StartsWithRequests between b others room' rest × (stream' ≡ Some rest)) first.2 then in
    (on.0, StartsWithRequests-append room bytes requests others between first.0 room' on.0 first.1 on.1, on.2)

talk_then : (room : ℕ) (stream : Option (List ℕ)) (requests : List Wire) (between : ℕ) (middle : Option (List ℕ))
    (others : List Wire) (end : End)
    → IfSome stream
    (λ bytes. (rest : List ℕ) × StartsWithRequests room bytes requests between rest × (middle ≡ Some rest))
    → IfSome middle (λ bytes. Talk between bytes others end)
    → IfSome stream (λ bytes. Talk room bytes (requests ++ others) end)
talk_then room None requests between middle others end first talk = tt
talk_then room (Some bytes) requests between middle others end first talk =
    Talk-behind room bytes requests others between first.0 end first.1
    (behind middle first.0 (λ b. Talk between b others end) first.2 talk)

-- some bytes were written, and then others
takes_twice : (before middle after : Option (List ℕ)) (a b : List ℕ) → TakesAll before middle a
    → TakesAll middle after b → TakesAll before after (a ++ b)
takes_twice before middle after a b first second = second ∙ ap (option_map (λ bytes. bytes ++ b)) first
    ∙ append_twice before a b

-- some requests were answered, and then others
pub HasAnswered-then : {State : Type 0} (IsReply : State → Wire → State → List ℕ → Type 0) (room between room' : ℕ)
    (stream middle stream' : Option (List ℕ)) (before now after : Moment State)
    → HasAnswered IsReply room stream before between middle now
    → HasAnswered IsReply between middle now room' stream' after
    → HasAnswered IsReply room stream before room' stream' after
HasAnswered-then IsReply room between room' stream middle stream' before now after first then = record {
  requests = first.requests ++ then.requests;
  responses = first.responses ++ then.responses;
  are_first = first_then room stream first.requests between middle then.requests room' stream' first.are_first
      then.are_first;
  are_answered = AreAnswered-append IsReply before.state now.state after.state first.requests then.requests
      first.responses then.responses first.are_answered then.are_answered;
  are_written = takes_twice before.written now.written after.written first.responses then.responses first.are_written
      then.are_written;
  later = omega (arith, first.later, then.later);
}

-- some requests were answered, and then the conversation ended: so ended the whole
pub IsConversation-behind : {State : Type 0} (IsReply : State → Wire → State → List ℕ → Type 0) (room between : ℕ)
    (stream middle : Option (List ℕ)) (before now after : Moment State) (end : Ended)
    → HasAnswered IsReply room stream before between middle now → IsConversation IsReply between middle now after end
    → IsConversation IsReply room stream before after end
IsConversation-behind {State} IsReply room between stream middle before now after end first then = go
    (end_of_talk end) then
  where
    go : (whole : Option End)
        → MatchOption whole (IsCutOff IsReply between middle now after end)
        (λ e. IsWhole IsReply between middle now after e)
        → MatchOption whole (IsCutOff IsReply room stream before after end)
        (λ e. IsWhole IsReply room stream before after e)
    go None cut = record {
      room' = cut.room';
      rest = cut.rest;
      between = cut.between;
      answered = HasAnswered-then IsReply room between cut.room' stream middle cut.rest before now cut.between first
          cut.answered;
      stops = cut.stops;
    }
    go (Some e) whole = record {
      requests = first.requests ++ whole.requests;
      responses = first.responses ++ whole.responses;
      last = whole.last;
      are_all = talk_then room stream first.requests between middle whole.requests e first.are_first whole.are_all;
      are_answered = AreAnswered-append IsReply before.state now.state after.state first.requests whole.requests
          first.responses whole.responses first.are_answered whole.are_answered;
      is_last = whole.is_last;
      are_written = rw (append_assoc first.responses whole.responses whole.last)
          (takes_twice before.written now.written after.written first.responses (whole.responses ++ whole.last)
          first.are_written whole.are_written);
    }

-- it ends as the talk does
pub ends_as : {State : Type 0} (IsReply : State → Wire → State → List ℕ → Type 0) (room : ℕ)
    (stream : Option (List ℕ)) (before after : Moment State) (end : Ended)
    → IsConversation IsReply room stream before after end → IfSome stream (λ bytes. EndsAs room bytes end)
ends_as {State} IsReply room stream before after end is = go stream (end_of_talk end) is
  where
    go : (stream : Option (List ℕ)) (whole : Option End)
        → MatchOption whole (IsCutOff IsReply room stream before after end)
        (λ e. IsWhole IsReply room stream before after e)
        → IfSome stream (λ bytes. IfSome whole (λ e. HasEnd room bytes e))
    go None whole is = tt
    go (Some bytes) None is = tt
    go (Some bytes) (Some e) is = (is.requests, is.are_all)
