-- Who may edit what a protected range covers: `editors` and `warningOnly` of the `ProtectedRange` of
-- the Google Sheets API v4. A user is the text of his name.
use Rattle.std.specs.Prelude.{ℕ, ◌≡◌, Bool, false, ◌||◌, List, [], ◌∷◌, ◌++◌, Option, IsSomeAnd, if◌then◌else◌}
use Rattle.std.specs.Str.{bytes_eq}
use Rattle.cell_value.specs.Texts.{is_among}
use Rattle.protection.specs.declared.range.Protection.{Protection}

-- a warning keeps nobody off; else the editors may edit, and the owner of the spreadsheet
abbrev pub may_edit : List ℕ → List ℕ → Protection → Bool
may_edit user owner protection =
    protection.warning_only || bytes_eq user owner || is_among user protection.editors

-- the editors with the user at their end, unless he is one of them or owns the spreadsheet
abbrev pub with_requester : List ℕ → List ℕ → List (List ℕ) → List (List ℕ)
with_requester user owner editors =
    if bytes_eq user owner || is_among user editors then editors else editors ++ user ∷ []

-- the protection is there and the user may not edit it
abbrev pub IsKeptOff : List ℕ → List ℕ → Option Protection → Type 0
IsKeptOff user owner protection = IsSomeAnd protection (λ one. may_edit user owner one ≡ false)
