-- The words of options of a query, and its members (Google Sheets API v4 reference, InsertDataOption).
use Rattle.std.specs.Prelude.{ℕ, Bool, true, false, List, [], ◌∷◌, codes, if◌then◌else◌, Option, None, Some, option_and_then}
use Rattle.std.specs.Str.{bytes_eq}
use Rattle.sheets_json.specs.declared.call.InsertData.{InsertData}
use Rattle.sheets_json.specs.declared.call.InsertData.TheVariants.{Overwrite, InsertRows}

abbrev pub insert_named : List ℕ → Option InsertData
insert_named name =
    if bytes_eq name (codes "OVERWRITE") then Some Overwrite
    else if bytes_eq name (codes "INSERT_ROWS") then Some InsertRows
    else None

abbrev pub truth_named : List ℕ → Option Bool
truth_named name =
    if bytes_eq name (codes "true") then Some true
    else if bytes_eq name (codes "false") then Some false
    else None

-- the value of the first member of that name
abbrev pub query_value : List ℕ → List (List ℕ × List ℕ) → Option (List ℕ)
query_value name [] = None
query_value name (member ∷ members) = if bytes_eq member.0 name then Some member.1 else query_value name members

-- the values of all members of that name, in order
abbrev pub query_values : List ℕ → List (List ℕ × List ℕ) → List (List ℕ)
query_values name [] = []
query_values name (member ∷ members) =
    if bytes_eq member.0 name then member.1 ∷ query_values name members else query_values name members

-- what the member of that name says by the table
abbrev pub query_word : {A : Type 0} → (List ℕ → Option A) → List ℕ → List (List ℕ × List ℕ) → Option A
query_word table name query = option_and_then table (query_value name query)
