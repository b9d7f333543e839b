-- A conversation: the whole requests that a stream of bytes holds one after another, and how it ends
-- (RFC 9112, sections 2.2, 6.3 and 9.6).
use Rattle.std.specs.Prelude.{◌≡◌, ℕ, ◌-◌, List, [], ◌∷◌, ◌++◌, length, take, drop, if◌then◌else◌, nat_le, MatchBool, Result, Ok, Err}
use Rattle.httparse.specs.Grammar.{RequestHead, ReadsRequest}
use Rattle.sheets_http.specs.declared.request.Wire.{Wire}
use Rattle.sheets_http.specs.declared.request.HeadFault.{HeadFault}
use Rattle.sheets_http.specs.declared.request.HeadFault.TheVariants.{HeadLong, BadHead}
use Rattle.sheets_http.specs.declared.scan.HeadState.TheVariants.{Whole, TooLong}
use Rattle.sheets_http.specs.Heads.{skip_breaks, SettledAt, IsUnsettled, IsNoHead}
use Rattle.sheets_http.specs.Fields.{fields_of, asks_to_close, is_coded}
use Rattle.sheets_http.specs.BodyLengths.{body_length_of}
use Rattle.sheets_http.specs.Callers.{user_token, project}

-- ---- what a stream begins with

-- the first message of some bytes: a whole request, with the bytes behind it; a refused one; or one
-- that isn't whole yet (RFC 9112, section 8)
pub data FirstMessage : Type 0 where
  complete_message : Wire → List ℕ → FirstMessage
  refused_message : HeadFault → FirstMessage
  incomplete_message : FirstMessage

-- the request of a head and a body
abbrev pub wire_of : RequestHead → List ℕ → Wire
wire_of h body = record {
  method = h.method;
  target = h.target;
  user_token = user_token (fields_of h);
  project = project (fields_of h);
  coded = is_coded (fields_of h);
  close = asks_to_close h.minor (fields_of h);
  body = body;
}

-- a head with the bytes behind it, of which as many are its body as it says
abbrev pub with_body : Result ℕ HeadFault → RequestHead → List ℕ → FirstMessage
with_body (Ok size) h after =
    if nat_le size (length after) then complete_message (wire_of h (take size after)) (drop size after)
    else incomplete_message
with_body (Err fault) h after = refused_message fault

-- the message of a head's text and the bytes behind it: a text that isn't of the grammar is refused
pub data IsMessage (text after : List ℕ) (message : FirstMessage) : Type 0 where
  of_head : (h : RequestHead) → ReadsRequest text h [] → message ≡ with_body (body_length_of h) h after
      → IsMessage text after message
  of_no_head : IsNoHead text → message ≡ refused_message BadHead → IsMessage text after message

-- the first message of the bytes goes by how far the head at their front is
pub data BeginsWith (bytes : List ℕ) (message : FirstMessage) : Type 0 where
  growing : IsUnsettled bytes → message ≡ incomplete_message → BeginsWith bytes message
  too_long : (n : ℕ) → SettledAt bytes n TooLong → message ≡ refused_message HeadLong → BeginsWith bytes message
  whole_head : (n : ℕ) → SettledAt bytes n Whole
      → IsMessage (skip_breaks (take n bytes)) (drop n bytes) message → BeginsWith bytes message

-- ---- what comes next

-- how a conversation ends
pub data End : Type 0 where
  ended : End
  asked : End
  closed : HeadFault → End
  truncated : ℕ → End
  long_talk : End

-- what comes next in a stream: a request, with the stream behind it, or the end of the conversation
pub data StreamNext : Type 0 where
  request_and_rest : Wire → List ℕ → StreamNext
  talk_end : End → StreamNext

-- a stream that ends before a request, or inside one of which it has so many bytes
abbrev pub end_of : List ℕ → End
end_of [] = ended
end_of (b ∷ bytes) = truncated (length (b ∷ bytes))

-- what comes next in a stream of which the first `room` bytes are looked at, and begin with that
abbrev pub next_of : ℕ → List ℕ → FirstMessage → StreamNext
next_of room bytes (complete_message wire rest) = request_and_rest wire (rest ++ drop room bytes)
next_of room bytes (refused_message fault) = talk_end (closed fault)
next_of room bytes incomplete_message =
    talk_end (if nat_le room (length bytes) then long_talk else end_of (skip_breaks bytes))

-- what comes next in a stream of which the first `room` bytes are looked at
abbrev pub IsNext : ℕ → List ℕ → StreamNext → Type 0
IsNext room bytes next =
    (message : FirstMessage) × BeginsWith (take room bytes) message × (next ≡ next_of room bytes message)

-- ---- the whole conversation

-- the requests of a stream of which the first `room` bytes are looked at, and its end: a request that
-- closes the connection is the last
abbrev pub Talk : ℕ → List ℕ → List Wire → End → Type 0
Talk room bytes [] end = IsNext room bytes (talk_end end)
Talk room bytes (wire ∷ wires) end =
    (rest : List ℕ) × IsNext room bytes (request_and_rest wire rest)
    × MatchBool wire.close ((wires ≡ []) × (end ≡ asked))
    (Talk (room - (length bytes - length rest)) rest wires end)
