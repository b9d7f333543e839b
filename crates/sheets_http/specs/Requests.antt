-- What is answered for the next request of a conversation, of which some bytes were read already.
use Rattle.std.specs.Prelude.{◌≡◌, ◌≢◌, ℕ, ◌-◌, List, ◌++◌, length, take, Option, Some, ⊤}
use Rattle.std.specs.Option.{option_map}
use Rattle.sheets_http.specs.declared.request.Next.{Next}
use Rattle.sheets_http.specs.declared.request.Next.TheVariants as next
use Rattle.cell_value.specs.FaultCount.{Rose}
use Rattle.sheets_http.specs.Framing.{FirstMessage, incomplete_message, BeginsWith, StreamNext, request_and_rest, talk_end, ended, asked, closed, truncated, long_talk, IsNext}

-- the bytes that were read and not used yet, and how many were used
pub record Buffered : Type 0 where
  pub pending : List ℕ
  pub used : ℕ

-- how many bytes of the conversation's bound are left
abbrev pub room_of : ℕ → Buffered → ℕ
room_of most held = most - held.used

-- what is left of the stream where the source tells it: the bytes that are held, then those to be read
abbrev pub stream_of : Buffered → Option (List ℕ) → Option (List ℕ)
stream_of held left = option_map (λ rest. held.pending ++ rest) left

-- the bytes that are held tell what comes next: a whole request, or one that is refused
abbrev pub HoldsMessage : ℕ → Buffered → Type 0
HoldsMessage most held =
    (message : FirstMessage) × BeginsWith (take (room_of most held) held.pending) message
    × (message ≢ incomplete_message)

-- a whole request was answered
abbrev pub IsRequest : Next → Type 0
IsRequest (next.Request wire) = ⊤
IsRequest next.End = ⊥
IsRequest (next.Closed fault) = ⊥
IsRequest (next.Truncated count) = ⊥
IsRequest next.LongTalk = ⊥
IsRequest next.ReadFault = ⊥
IsRequest next.NoMemory = ⊥

-- what the answer says of a stream of which `room` bytes are looked at, and what it leaves of both:
-- a request is taken out of the stream, and a failure takes nothing
abbrev pub IsAnswer : ℕ → List ℕ → ℕ → Option (List ℕ) → Next → Type 0
IsAnswer room bytes room_after stream_after (next.Request wire) =
    (rest : List ℕ) × IsNext room bytes (request_and_rest wire rest)
    × (stream_after ≡ Some rest) × (room_after ≡ room - (length bytes - length rest))
IsAnswer room bytes room_after stream_after next.End = IsNext room bytes (talk_end ended)
IsAnswer room bytes room_after stream_after (next.Closed fault) = IsNext room bytes (talk_end (closed fault))
IsAnswer room bytes room_after stream_after (next.Truncated count) = IsNext room bytes (talk_end (truncated count))
IsAnswer room bytes room_after stream_after next.LongTalk = IsNext room bytes (talk_end long_talk)
IsAnswer room bytes room_after stream_after next.ReadFault = (stream_after ≡ Some bytes) × (room_after ≡ room)
IsAnswer room bytes room_after stream_after next.NoMemory = (stream_after ≡ Some bytes) × (room_after ≡ room)

-- the answer says what comes next; that the client asked for the end is told by its request
abbrev pub IsAnswerOf : StreamNext → Next → Type 0
IsAnswerOf (request_and_rest wire rest) answer = answer ≡ next.Request wire
IsAnswerOf (talk_end ended) answer = answer ≡ next.End
IsAnswerOf (talk_end asked) answer = ⊥
IsAnswerOf (talk_end (closed fault)) answer = answer ≡ next.Closed fault
IsAnswerOf (talk_end (truncated count)) answer = answer ≡ next.Truncated count
IsAnswerOf (talk_end long_talk) answer = answer ≡ next.LongTalk

-- where that comes next, the answer says so, or memory ran out, or the source failed and its count rose
pub data AnswersOrFails (coming : StreamNext) (faults faults_after : ℕ) (answer : Next) : Type 0 where
  answers : IsAnswerOf coming answer → AnswersOrFails coming faults faults_after answer
  no_memory : answer ≡ next.NoMemory → AnswersOrFails coming faults faults_after answer
  source_failed : Rose faults faults_after → AnswersOrFails coming faults faults_after answer

-- what comes next in the stream is answered, or the cause why not
abbrev pub IsExact : ℕ → List ℕ → ℕ → ℕ → Next → Type 0
IsExact room bytes faults faults_after answer =
    (coming : StreamNext) → IsNext room bytes coming → AnswersOrFails coming faults faults_after answer
