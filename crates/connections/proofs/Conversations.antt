-- What each answer keeps, a conversation keeps.
use Rattle.std.proofs.Common.{◌≡◌, ℕ, List, [], ◌∷◌, sym, subst}
use Rattle.std.specs.Prelude.{Option}
use Rattle.sheets_http.specs.declared.request.Wire.{Wire}
use Rattle.conversation.specs.declared.ended.Ended.{Ended}
use Rattle.conversation.specs.declared.ended.Ended.TheVariants as how
use Rattle.conversation.specs.Conversation.{AreAnswered, Moment, HasBegun, HasRunOut, IsConversation, a_response, the_closing, idle, unanswered, in_the_sink}

module _ {State : Type 0} (IsReply : State → Wire → State → List ℕ → Type 0) (Goes : State → State → Type 0)
    (stays : (s : State) → Goes s s)
    (through : (s t u : State) → Goes s t → Goes t u → Goes s u)
    (step : (s : State) (wire : Wire) (t : State) (response : List ℕ) → IsReply s wire t response → Goes s t) where
  kept : (s t : State) → t ≡ s → Goes s t
  kept s t same = subst (λ (x : State). Goes s x) (sym same) (stays s)

  answered : (wires : List Wire) (s t : State) (responses : List ℕ) → AreAnswered IsReply s wires t responses
      → Goes s t
  answered [] s t responses h = kept s t h.0
  answered (wire ∷ wires) s t responses (between, first, rest, reply, more, is) =
      through s between t (step s wire between first reply) (answered wires between t rest more)

  begun : (room : ℕ) (stream : Option (List ℕ)) (before after : Moment State)
      → HasBegun IsReply room stream before after → Goes before.state after.state
  begun room stream before after h = elim h [
    | a_response wire response next reply some ↦ step before.state wire after.state response reply
    | the_closing fault response next closing same some ↦ kept before.state after.state same
  ]

  run_out : (room : ℕ) (stream : Option (List ℕ)) (before after : Moment State)
      → HasRunOut IsReply room stream before after → Goes before.state after.state
  run_out room stream before after h = elim h [
    | idle is ↦ kept before.state after.state is.state_is
    | unanswered wire response next reply same ↦ step before.state wire after.state response reply
    | in_the_sink rose h ↦ begun room stream before after h
  ]

  pub conversation_goes : (room : ℕ) (stream : Option (List ℕ)) (before after : Moment State) (end : Ended)
      → IsConversation IsReply room stream before after end → Goes before.state after.state
  conversation_goes room stream before after how.End h =
      answered h.requests before.state after.state h.responses h.are_answered
  conversation_goes room stream before after how.Asked h =
      answered h.requests before.state after.state h.responses h.are_answered
  conversation_goes room stream before after (how.Closed fault) h =
      answered h.requests before.state after.state h.responses h.are_answered
  conversation_goes room stream before after (how.Truncated count) h =
      answered h.requests before.state after.state h.responses h.are_answered
  conversation_goes room stream before after how.LongTalk h =
      answered h.requests before.state after.state h.responses h.are_answered
  conversation_goes room stream before after how.ReadFault h =
      through before.state h.between.state after.state
      (answered h.answered.requests before.state h.between.state h.answered.responses h.answered.are_answered)
      (kept h.between.state after.state h.stops.state_is)
  conversation_goes room stream before after how.WriteFault h =
      through before.state h.between.state after.state
      (answered h.answered.requests before.state h.between.state h.answered.responses h.answered.are_answered)
      (begun h.room' h.rest h.between after h.stops)
  conversation_goes room stream before after how.NoMemory h =
      through before.state h.between.state after.state
      (answered h.answered.requests before.state h.between.state h.answered.responses h.answered.are_answered)
      (run_out h.room' h.rest h.between after h.stops)
