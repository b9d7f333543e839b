-- What a text tells of its table.
use Rattle.std.specs.Prelude.{◌≡◌, ℕ, List}
use Rattle.users_file.specs.Table.{IsBadTable, IsTable}

-- a text is the table of one list of tokens and users
abbrev pub HasOneTable : Type 0
HasOneTable = (bytes : List ℕ) (pairs others : List (List ℕ × List ℕ)) → IsTable bytes pairs → IsTable bytes others
    → pairs ≡ others

-- and of none where a row breaks the form
abbrev pub BadIsNone : Type 0
BadIsNone = (bytes : List ℕ) (pairs : List (List ℕ × List ℕ)) (row : ℕ) → IsTable bytes pairs → IsBadTable bytes row → ⊥

-- one row is the first that breaks it
abbrev pub HasOneBadRow : Type 0
HasOneBadRow = (bytes : List ℕ) (row other : ℕ) → IsBadTable bytes row → IsBadTable bytes other → row ≡ other
