-- Laws for the proofs of this crate and of those above it: a conversation in which nothing was done ends for want of
-- memory, and takes nothing of its stream.
use Rattle.std.specs.Prelude.{◌≡◌, ℕ, List, [], Option, Some, None, IfSome}
use Rattle.std.proofs.Common.{refl, arith}
use Rattle.sheets_http.specs.declared.request.Wire.{Wire}
use Rattle.conversation.specs.declared.ended.Ended.TheVariants as how
use Rattle.conversation.specs.Conversation.{StartsWithRequests, Moment, HasAnswered, idle, IsConversation, LosesFirst}
use Rattle.conversation.specs.Written.{nothing_more}

-- no request was answered
pub HasAnswered-none : {State : Type 0} (IsReply : State → Wire → State → List ℕ → Type 0) (room : ℕ)
    (stream : Option (List ℕ)) (at : Moment State)
    → HasAnswered IsReply room stream at room stream at
HasAnswered-none {State} IsReply room stream at = record {
  requests = [];
  responses = [];
  are_first = first stream;
  are_answered = (refl, refl);
  are_written = nothing_more at.written;
  later = omega arith;
}
  where
    first : (stream : Option (List ℕ))
        → IfSome stream (λ bytes. (rest : List ℕ) × StartsWithRequests room bytes [] room rest × (stream ≡ Some rest))
    first None = tt
    first (Some bytes) = (bytes, (refl, refl), refl)

-- where memory runs out at once, nothing is done
pub idle_at_once : {State : Type 0} (IsReply : State → Wire → State → List ℕ → Type 0) (room : ℕ)
    (stream : Option (List ℕ)) (now : Moment State) → IsConversation IsReply room stream now now how.NoMemory
idle_at_once IsReply room stream now = record {
  room' = room;
  rest = stream;
  between = now;
  answered = HasAnswered-none IsReply room stream now;
  stops = idle (record { state_is = refl; written_is = refl });
}

-- a stream that stays loses no bytes
pub left_alone : (stream : Option (List ℕ)) → LosesFirst stream stream
left_alone None = tt
left_alone (Some bytes) = ([], bytes, refl, refl)
