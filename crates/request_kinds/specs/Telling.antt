-- What is told of what is done to a spreadsheet, and the changes that it makes; of a request its reply and these, or
-- the first rule that it breaks.
use Rattle.std.specs.Prelude.{◌≡◌, ℕ, List, [], ◌∷◌, Option, None, Some, Result, Ok, Err}
use Rattle.world_model.specs.Book.{PlaceBook}
use Rattle.world_model.specs.BookChange.{AreChanges, BookChange}
use Rattle.world_model.specs.Updating.{Updates}
use Rattle.dimension_ops.specs.declared.rule.Rule.{Rule}
use Rattle.sheets_json.specs.declared.spreadsheet.Reply.{Reply}

-- cells of a sheet are updated, and nothing else is changed
abbrev pub cells_updated : ℕ → Updates → List BookChange
cells_updated sheet updates = BookChange.CellsUpdated sheet updates ∷ []

-- something is done on the spreadsheet, which becomes the one after it by the changes that are told with it, unless a
-- rule is broken
abbrev pub IsDoneTo : {A : Type 0} → (Result (A × List BookChange) Rule → Type 0) → PlaceBook → PlaceBook
    → Result A Rule → Type 0
IsDoneTo Is before after (Ok one) =
    (changes : List BookChange) × Is (Ok (one, changes)) × AreChanges changes before after
IsDoneTo Is before after (Err broken) = Is (Err broken)

-- ---- requests

abbrev pub Tells : Type 1
Tells = Result (Reply × List BookChange) Rule → Type 0

-- what is done, unless that rule is broken
abbrev pub UnlessBroken : Option Rule → Tells → Tells
UnlessBroken None IsDone told = IsDone told
UnlessBroken (Some broken) IsDone told = told ≡ Err broken
