-- What an engine answers whose calls append bytes, one behind the other.
use Rattle.std.specs.Prelude.{◌≡◌, ℕ, Bool, true, false, if◌then◌else◌, List, [], ◌∷◌, ◌++◌, length, Option, Some, None}
use Rattle.desk.specs.declared.entry.Entry.{Entry}
use Rattle.desk.specs.declared.entry.Ask.{Ask}
use Rattle.desk.specs.Steps.{Outcome}

-- the bodies of the entries, one behind the other
abbrev pub bodies : List Entry → List ℕ
bodies [] = []
bodies (entry ∷ entries) = entry.body ++ bodies entries

-- a refusal, without a word
abbrev pub refused : ℕ → Outcome
refused status = record { status = status; body = []; accepts = false }

-- there are bytes
abbrev pub has_bytes : List ℕ → Bool
has_bytes [] = false
has_bytes (byte ∷ bytes) = true

-- what was appended so far; the ask's own bytes are accepted, where it has any
abbrev pub shown : List Entry → Ask → Outcome
shown entries ask = record { status = 200; body = bodies entries; accepts = has_bytes ask.body }

-- nobody is 401, a coded body is 400
abbrev pub refusal_of : Option (List ℕ) → Bool → Option ℕ
refusal_of None coded = Some 401
refusal_of (Some user) coded = if coded then Some 400 else None

-- what is read of an ask is whether it is refused
abbrev pub Reads : Ask → Option ℕ → Type 0
Reads ask asked = asked ≡ refusal_of ask.user ask.coded

abbrev pub answered : Option ℕ → List Entry → Ask → Outcome
answered (Some status) entries ask = refused status
answered None entries ask = shown entries ask

abbrev pub Plain : List Entry → Ask → Outcome → Type 0
Plain entries ask outcome = outcome ≡ answered (refusal_of ask.user ask.coded) entries ask

-- the bytes are those that were appended
abbrev pub Stands : List ℕ → List Entry → Type 0
Stands bytes entries = bytes ≡ bodies entries

abbrev pub Cells : List Entry → ℕ → Type 0
Cells entries count = count ≡ length (bodies entries)

-- they are the text, too
abbrev pub Dumps : List Entry → List ℕ → Type 0
Dumps entries text = text ≡ bodies entries
