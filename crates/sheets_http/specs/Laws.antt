-- What holds of every conversation.
use Rattle.std.specs.Prelude.{◌≡◌, ℕ, ◌-◌, ◌<◌, List, [], ◌∷◌, ◌++◌, length, Ok}
use Rattle.httparse.specs.Grammar.{RequestHead, ReadsRequest}
use Rattle.sheets_http.specs.declared.request.Wire.{Wire}
use Rattle.sheets_http.specs.Heads.{skip_breaks}
use Rattle.sheets_http.specs.BodyLengths.{body_length_of}
use Rattle.sheets_http.specs.Framing.{wire_of, End, asked, StreamNext, request_and_rest, talk_end, IsNext, Talk}

-- one thing comes next in a stream
abbrev pub HasOneNext : Type 0
HasOneNext =
    (room : ℕ) (bytes : List ℕ) (next other : StreamNext)
    → IsNext room bytes next → IsNext room bytes other → next ≡ other

-- a stream has one list of requests and one end
abbrev pub HasOneTalk : Type 0
HasOneTalk =
    (room : ℕ) (bytes : List ℕ) (wires others : List Wire) (end other : End)
    → Talk room bytes wires end → Talk room bytes others other → (wires ≡ others) × (end ≡ other)

-- a longer stream keeps the requests of a shorter one, and may have more behind them
abbrev pub KeepsRequests : Type 0
KeepsRequests =
    (room : ℕ) (bytes more : List ℕ) (wires others : List Wire) (end other : End)
    → Talk room bytes wires end → Talk room (bytes ++ more) others other
    → (later : List Wire) × (others ≡ wires ++ later)

-- no stream is without a talk: it can't be that none is there (which one it is may be hard to tell,
-- since a head's grammar is a relation)
abbrev pub HasTalk : Type 0
HasTalk =
    (room : ℕ) (bytes : List ℕ) → ¬ ((wires : List Wire) → (end : End) → ¬ (Talk room bytes wires end))

-- the bytes of a request: line breaks that are passed over, the text of its head, and its body
pub record IsRequestText (wire : Wire) (text : List ℕ) : Type 0 where
  pub breaks : List ℕ
  pub head_text : List ℕ
  pub head : RequestHead
  pub only_breaks : skip_breaks breaks ≡ []
  pub reads : ReadsRequest head_text head []
  pub length_is : body_length_of head ≡ Ok (length wire.body)
  pub wire_is : wire ≡ wire_of head wire.body
  pub text_is : text ≡ breaks ++ (head_text ++ wire.body)

-- a request's bytes and the rest behind it are the stream
abbrev pub TakesBytes : Type 0
TakesBytes =
    (room : ℕ) (bytes rest : List ℕ) (wire : Wire) → IsNext room bytes (request_and_rest wire rest)
    → (text : List ℕ) × IsRequestText wire text × (0 < length text) × (bytes ≡ text ++ rest)

-- the bytes of requests, one behind the other
abbrev pub AreRequestTexts : List Wire → List ℕ → Type 0
AreRequestTexts [] text = text ≡ []
AreRequestTexts (wire ∷ wires) text =
    (first others : List ℕ) × IsRequestText wire first × AreRequestTexts wires others × (text ≡ first ++ others)

-- why a talk ends where `left` is left of its stream: by its last request, which closes the connection,
-- or as that goes on
pub data EndsTalk (room : ℕ) (left : List ℕ) (end : End) : Type 0 where
  by_request : end ≡ asked → EndsTalk room left end
  by_stream : IsNext room left (talk_end end) → EndsTalk room left end

-- the bytes of all requests and what is left behind them are the stream
abbrev pub HoldsRequests : Type 0
HoldsRequests =
    (room : ℕ) (bytes : List ℕ) (wires : List Wire) (end : End) → Talk room bytes wires end
    → (text left : List ℕ) × AreRequestTexts wires text × (bytes ≡ text ++ left)
    × EndsTalk (room - length text) left end
