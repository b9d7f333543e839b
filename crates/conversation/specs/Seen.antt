-- A law for the proofs of crates above: a conversation on states is one on what is seen of them.
use Rattle.std.specs.Prelude.{◌≡◌, ℕ, List, [], ◌∷◌, Option, None, Some, MatchOption}
use Rattle.std.proofs.Common.{refl, sym, subst}
use Rattle.sheets_http.specs.declared.request.Wire.{Wire}
use Rattle.sheets_http.specs.Framing.{End}
use Rattle.conversation.specs.declared.ended.Ended.{Ended}
use Rattle.conversation.specs.declared.ended.Ended.TheVariants as how
use Rattle.conversation.specs.Conversation.{AreAnswered, Moment, at_moment, HasAnswered, IsWhole, IsCutOff, Stops}
use Rattle.conversation.specs.Conversation.{HasBegun, a_response, the_closing, HasRunOut, idle, unanswered, in_the_sink}
use Rattle.conversation.specs.Conversation.{end_of_talk, IsConversation}

-- something is seen of the state, and of that this holds
abbrev pub HasSeen : {State Other : Type 0} → (State → Other → Type 0) → State → (Other → Type 0) → Type 0
HasSeen {State} {Other} Sees state Holds = (other : Other) × Sees state other × Holds other

-- the moment with another state in place of its own
abbrev pub moment_with : {State Other : Type 0} → Other → Moment State → Moment Other
moment_with other moment = at_moment other moment.written moment.shortages

-- each reply on a state is one on what is seen of it, and leaves what is seen of the state that it left
abbrev pub RepliesAsSeen : {State Other : Type 0} → (State → Other → Type 0)
    → (State → Wire → State → List ℕ → Type 0) → (Other → Wire → Other → List ℕ → Type 0) → Type 0
RepliesAsSeen {State} {Other} Sees IsReply IsReplySeen =
    (state : State) (other : Other) (request : Wire) (state' : State) (response : List ℕ)
    → Sees state other → IsReply state request state' response
    → HasSeen Sees state' (λ other'. IsReplySeen other request other' response)

module _ {State Other : Type 0} (Sees : State → Other → Type 0) (IsReply : State → Wire → State → List ℕ → Type 0)
    (IsReplySeen : Other → Wire → Other → List ℕ → Type 0) (seen_reply : RepliesAsSeen Sees IsReply IsReplySeen) where
  stays : (state state' : State) (other : Other) → state' ≡ state → Sees state other → Sees state' other
  stays state state' other same sees = subst (λ s. Sees s other) (sym same) sees

  answered : (state state' : State) (other : Other) (requests : List Wire) (responses : List ℕ) → Sees state other
      → AreAnswered IsReply state requests state' responses
      → HasSeen Sees state' (λ other'. AreAnswered IsReplySeen other requests other' responses)
  answered state state' other [] responses sees (same, nothing) =
      (other, stays state state' other same sees, (refl, nothing))
  answered state state' other (request ∷ requests) responses sees (between, first, rest, reply, more, parts) =
      let (middle, sees', reply') = seen_reply state other request between first sees reply in
      let (other', sees'', more') = answered between state' middle requests rest sees' more in
      (other', sees'', (middle, first, rest, reply', more', parts))

  module _ (room : ℕ) (stream : Option (List ℕ)) (before after : Moment State) (other : Other)
      (sees : Sees before.state other) where
    has_answered : (room' : ℕ) (stream' : Option (List ℕ)) → HasAnswered IsReply room stream before room' stream' after
        → HasSeen Sees after.state
        (λ other'. HasAnswered IsReplySeen room stream (moment_with other before) room' stream'
        (moment_with other' after))
    has_answered room' stream' has =
        let (other', sees', are) = answered before.state after.state other has.requests has.responses sees
        has.are_answered in (
          other',
          sees',
          record {
            requests = has.requests;
            responses = has.responses;
            are_first = has.are_first;
            are_answered = are;
            are_written = has.are_written;
            later = has.later;
          },
        )

    begun : HasBegun IsReply room stream before after
        → HasSeen Sees after.state (λ other'. HasBegun IsReplySeen room stream (moment_with other before)
        (moment_with other' after))
    begun (a_response request response next reply takes) =
        let (other', sees', reply') = seen_reply before.state other request after.state response sees reply in
        (other', sees', a_response request response next reply' takes)
    begun (the_closing fault response next closing same takes) =
        (other, stays before.state after.state other same sees, the_closing fault response next closing refl takes)

    run_out : HasRunOut IsReply room stream before after
        → HasSeen Sees after.state (λ other'. HasRunOut IsReplySeen room stream (moment_with other before)
        (moment_with other' after))
    run_out (idle nothing) = (
      other,
      stays before.state after.state other nothing.state_is sees,
      idle (record { state_is = refl; written_is = nothing.written_is }),
    )
    run_out (unanswered request response next reply same) =
        let (other', sees', reply') = seen_reply before.state other request after.state response sees reply in
        (other', sees', unanswered request response next reply' same)
    run_out (in_the_sink rose has) =
        let (other', sees', has') = begun has in (other', sees', in_the_sink rose has')

    stops : (end : Ended) → Stops IsReply room stream before after end
        → HasSeen Sees after.state (λ other'. Stops IsReplySeen room stream (moment_with other before)
        (moment_with other' after) end)
    stops how.ReadFault nothing = (
      other,
      stays before.state after.state other nothing.state_is sees,
      record { state_is = refl; written_is = nothing.written_is },
    )
    stops how.WriteFault has = begun has
    stops how.NoMemory has = run_out has
    stops how.End never = absurd never
    stops how.Asked never = absurd never
    stops (how.Closed fault) never = absurd never
    stops (how.Truncated count) never = absurd never
    stops how.LongTalk never = absurd never

    whole : (end : End) → IsWhole IsReply room stream before after end
        → HasSeen Sees after.state (λ other'. IsWhole IsReplySeen room stream (moment_with other before)
        (moment_with other' after) end)
    whole end is =
        let (other', sees', are) = answered before.state after.state other is.requests is.responses sees
        is.are_answered in (
          other',
          sees',
          record {
            requests = is.requests;
            responses = is.responses;
            last = is.last;
            are_all = is.are_all;
            are_answered = are;
            is_last = is.is_last;
            are_written = is.are_written;
          },
        )

  cut_off : (room : ℕ) (stream : Option (List ℕ)) (before after : Moment State) (other : Other) (end : Ended)
      → Sees before.state other → IsCutOff IsReply room stream before after end
      → HasSeen Sees after.state (λ other'. IsCutOff IsReplySeen room stream (moment_with other before)
      (moment_with other' after) end)
  cut_off room stream before after other end sees is =
      let (middle, sees', has) = has_answered room stream before is.between other sees is.room' is.rest is.answered in
      let (other', sees'', stop) = stops is.room' is.rest is.between after middle sees' end is.stops in (
        other',
        sees'',
        record {
          room' = is.room';
          rest = is.rest;
          between = moment_with middle is.between;
          answered = has;
          stops = stop;
        },
      )

  -- the conversation goes on from what is seen of the state before it to something that is seen of the state after it
  pub conversation_seen : (room : ℕ) (stream : Option (List ℕ)) (before after : Moment State) (other : Other)
      (end : Ended)
      → Sees before.state other → IsConversation IsReply room stream before after end
      → HasSeen Sees after.state (λ other'. IsConversation IsReplySeen room stream (moment_with other before)
      (moment_with other' after) end)
  conversation_seen room stream before after other end sees is = go (end_of_talk end) is
    where
      go : (talk : Option End)
          → MatchOption talk (IsCutOff IsReply room stream before after end)
          (λ e. IsWhole IsReply room stream before after e)
          → HasSeen Sees after.state (λ other'. MatchOption talk
          (IsCutOff IsReplySeen room stream (moment_with other before) (moment_with other' after) end)
          (λ e. IsWhole IsReplySeen room stream (moment_with other before) (moment_with other' after) e))
      go None is = cut_off room stream before after other end sees is
      go (Some e) is = whole room stream before after other sees e is

-- what is seen of a moment by a function of its state
abbrev pub moment_seen : {State Other : Type 0} → (State → Other) → Moment State → Moment Other
moment_seen seen moment = moment_with (seen moment.state) moment

-- where a function says what is seen, the conversation goes on to what it says of the state after it
pub conversation_of : {State Other : Type 0} (seen : State → Other) (IsReply : State → Wire → State → List ℕ → Type 0)
    (IsReplySeen : Other → Wire → Other → List ℕ → Type 0)
    → ((state : State) (request : Wire) (state' : State) (response : List ℕ) → IsReply state request state' response
    → IsReplySeen (seen state) request (seen state') response)
    → (room : ℕ) (stream : Option (List ℕ)) (before after : Moment State) (end : Ended)
    → IsConversation IsReply room stream before after end
    → IsConversation IsReplySeen room stream (moment_seen seen before) (moment_seen seen after) end
conversation_of {State} {Other} seen IsReply IsReplySeen reply_seen room stream before after end is =
    let (other, is_seen, holds) = conversation_seen (λ (state : State) (other : Other). other ≡ seen state) IsReply
    IsReplySeen reply_as_seen room stream before after (seen before.state) end refl is in
    subst (λ (o : Other). IsConversation IsReplySeen room stream (moment_seen seen before) (moment_with o after) end)
    is_seen holds
  where
    reply_as_seen : RepliesAsSeen (λ (state : State) (other : Other). other ≡ seen state) IsReply IsReplySeen
    reply_as_seen state other request state' response is_seen reply = (
      seen state',
      refl,
      subst (λ (o : Other). IsReplySeen o request (seen state') response) (sym is_seen)
          (reply_seen state request state' response reply),
    )
