-- Where the head of a request ends in a stream (RFC 9112, sections 2.2 and 5).
use Rattle.std.specs.Prelude.{◌≡◌, ℕ, ◌<◌, ◌≤◌, Bool, ◌||◌, List, [], ◌∷◌, length, take, count_by, if◌then◌else◌, ◌==◌, nat_eq, nat_le, codes}
use Rattle.std.specs.List.{ends_with}
use Rattle.httparse.specs.Grammar.{RequestHead, ReadsRequest}
use Rattle.sheets_http.specs.declared.scan.HeadState.{HeadState}
use Rattle.sheets_http.specs.declared.scan.HeadState.TheVariants.{Growing, Whole, TooLong}

-- the control characters CR and LF
abbrev pub carriage_return : ℕ
carriage_return = 13

abbrev pub line_feed : ℕ
line_feed = 10

-- CR or LF
abbrev pub is_break : ℕ → Bool
is_break b = b == carriage_return || b == line_feed

-- the bytes from the first that is no CR or LF: a server passes over empty lines before a request
abbrev pub skip_breaks : List ℕ → List ℕ
skip_breaks [] = []
skip_breaks (b ∷ bytes) = if is_break b then skip_breaks bytes else b ∷ bytes

-- an LF directly after an LF, or after an LF and a CR, are the last bytes
abbrev pub ends_with_empty_line : List ℕ → Bool
ends_with_empty_line bytes =
    ends_with nat_eq bytes (codes "\n\n") || ends_with nat_eq bytes (codes "\n\r\n")

-- how many LF there are
abbrev pub line_feeds : List ℕ → ℕ
line_feeds bytes = count_by (λ b. b == line_feed) bytes

-- a head ends within so many bytes, with the empty lines before it
abbrev pub head_limit : ℕ
head_limit = 16384

-- and within so many lines
abbrev pub line_limit : ℕ
line_limit = 66

-- a head that isn't whole by then is too long
unfoldable pub is_too_long : ℕ → ℕ → Bool
is_too_long read feeds = nat_le head_limit read || nat_le line_limit feeds

-- a head is whole at its first empty line
abbrev pub head_state_of : List ℕ → ℕ → HeadState
head_state_of text read =
    if ends_with_empty_line text then Whole
    else (if is_too_long read (line_feeds text) then TooLong else Growing)

-- how the head stands of which these are the first bytes
abbrev pub head_state : List ℕ → HeadState
head_state bytes = head_state_of (skip_breaks bytes) (length bytes)

-- the first n bytes settle how the head stands, and no fewer do
pub record SettledAt (bytes : List ℕ) (n : ℕ) (how : HeadState) : Type 0 where
  pub within : n ≤ length bytes
  pub before : (m : ℕ) → m < n → head_state (take m bytes) ≡ Growing
  pub here : head_state (take n bytes) ≡ how

-- no first part of the bytes settles how the head stands
abbrev pub IsUnsettled : List ℕ → Type 0
IsUnsettled bytes = (m : ℕ) → m ≤ length bytes → head_state (take m bytes) ≡ Growing

-- the text is no head of the grammar
abbrev pub IsNoHead : List ℕ → Type 0
IsNoHead text = (h : RequestHead) → ¬ (ReadsRequest text h [])
