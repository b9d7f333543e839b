-- The text of a journal: eight bytes, then the entries of a history, one behind the other.
use Rattle.std.specs.Prelude.{◌≡◌, ◌≢◌, ℕ, ◌/◌, ◌%◌, ◌<◌, ◌^◌, List, [], ◌∷◌, ◌++◌, length, codes}
use Rattle.desk.specs.declared.entry.Entry.{Entry}

-- a number in four bytes, most significant first
abbrev pub four : ℕ → List ℕ
four n = n / 16777216 ∷ n / 65536 % 256 ∷ n / 256 % 256 ∷ n % 256 ∷ []

-- a field: its length, and its bytes
abbrev pub field_text : List ℕ → List ℕ
field_text bytes = four (length bytes) ++ bytes

-- an entry: its caller, and its four fields
abbrev pub entry_text : Entry → List ℕ
entry_text entry =
    four entry.caller ++ (field_text entry.user ++ (field_text entry.project
    ++ (field_text entry.target ++ field_text entry.body)))

-- each field has fewer than 2^32 bytes
pub record FieldsFit (entry : Entry) : Type 0 where
  pub user : length entry.user < 2 ^ 32
  pub project : length entry.project < 2 ^ 32
  pub target : length entry.target < 2 ^ 32
  pub body : length entry.body < 2 ^ 32

-- the entries, one behind the other
abbrev pub entries_text : List Entry → List ℕ
entries_text [] = []
entries_text (entry ∷ entries) = entry_text entry ++ entries_text entries

-- the eight bytes that a journal begins with
abbrev pub heading : List ℕ
heading = codes "SHEETJ01"

-- the journal of a history
abbrev pub journal_text : List Entry → List ℕ
journal_text entries = heading ++ entries_text entries

-- no whole entry stands at the beginning
abbrev pub IsTorn : List ℕ → Type 0
IsTorn rest = (entry : Entry) (behind : List ℕ) → rest ≢ entry_text entry ++ behind

-- the bytes are these whole entries, and a torn rest
pub record IsReading (bytes : List ℕ) (entries : List Entry) (rest : List ℕ) : Type 0 where
  pub parts : bytes ≡ entries_text entries ++ rest
  pub torn : IsTorn rest

-- The bytes are a journal of these entries, with a torn rest behind them. No bytes, or a beginning of the eight, are a
-- journal without entries.
pub data IsJournalOf (bytes : List ℕ) (entries : List Entry) (rest : List ℕ) : Type 0 where
  cut_short : (behind : List ℕ) → heading ≡ bytes ++ behind → entries ≡ [] → rest ≡ [] → IsJournalOf bytes entries rest
  whole : (body : List ℕ) → bytes ≡ heading ++ body → IsReading body entries rest → IsJournalOf bytes entries rest

-- a list of bytes has at most one reading
abbrev pub HasOneReading : Type 0
HasOneReading =
    (bytes : List ℕ) (entries others : List Entry) (rest other : List ℕ)
    → IsReading bytes entries rest → IsReading bytes others other → (entries ≡ others) × (rest ≡ other)
