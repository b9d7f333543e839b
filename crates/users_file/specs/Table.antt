-- A table of users: CSV (RFC 4180) with the header `token,user`, and behind it a row for each token with its user.
use Rattle.std.specs.Prelude.{◌≡◌, ◌≢◌, ◌+◌, ◌⊎◌, ℕ, List, [], ◌∷◌, All, IsUtf8, codes, map, take}
use Rattle.std.specs.List.{IsDistinct}
use Rattle.std.specs.Str.{bytes_eq}
use Rattle.csv.specs.Reading.{AreRecords, default_config, strip_bom}
use Rattle.csv.specs.declared.parser.State.TheVariants as state

-- The rows of a text are its records, as lists of their fields. A byte order mark at its start isn't part of the first,
-- an empty line is no record, and no field is trimmed.
abbrev pub AreRows : List ℕ → List (List (List ℕ)) → Type 0
AreRows bytes rows = AreRecords default_config state.StartRecord (strip_bom bytes) rows

-- the header, which is row 0
abbrev pub header : List (List ℕ)
header = codes "token" ∷ codes "user" ∷ []

-- the row of a token and its user
abbrev pub row_of : List ℕ × List ℕ → List (List ℕ)
row_of pair = pair.0 ∷ pair.1 ∷ []

-- the rows of a table with these tokens and users
abbrev pub table_rows : List (List ℕ × List ℕ) → List (List (List ℕ))
table_rows pairs = header ∷ map row_of pairs

-- A token and a user are texts that aren't empty.
abbrev pub IsName : List ℕ → Type 0
IsName field = (field ≢ []) × IsUtf8 field

abbrev pub ArePairOfNames : List ℕ × List ℕ → Type 0
ArePairOfNames pair = IsName pair.0 × IsName pair.1

-- the tokens
abbrev pub tokens_of : List (List ℕ × List ℕ) → List (List ℕ)
tokens_of pairs = map (λ pair. pair.0) pairs

-- The pairs are those of a table: each is a token and a user, and no token stands twice.
pub record AreUsers (pairs : List (List ℕ × List ℕ)) : Type 0 where
  pub names : All ArePairOfNames pairs
  pub once : IsDistinct bytes_eq (tokens_of pairs)

-- The text is the table of these tokens and users.
pub record IsTable (bytes : List ℕ) (pairs : List (List ℕ × List ℕ)) : Type 0 where
  pub rows : AreRows bytes (table_rows pairs)
  pub users : AreUsers pairs

-- the rows are those of a table
abbrev pub HaveForm : List (List (List ℕ)) → Type 0
HaveForm rows = (pairs : List (List ℕ × List ℕ)) × (rows ≡ table_rows pairs) × AreUsers pairs

-- Row n is the first that breaks the form of a table: those before it have the form, where it isn't the header's
-- place, and with it they haven't. Where there is no row at all, that is row 0.
pub record IsBadRow (rows : List (List (List ℕ))) (n : ℕ) : Type 0 where
  pub before : (n ≡ 0) ⊎ HaveForm (take n rows)
  pub broken : ¬ (HaveForm (take (n + 1) rows))

-- The text is no table of users: row n is the first that breaks the form.
abbrev pub IsBadTable : List ℕ → ℕ → Type 0
IsBadTable bytes n = (rows : List (List (List ℕ))) × AreRows bytes rows × IsBadRow rows n
