-- Calls on a list, whose members are judged one after another: the first that breaks a rule refuses the call, and is
-- named by its place.
use Rattle.std.specs.Prelude.{◌≡◌, ℕ, ◌+◌, ◌++◌, List, [], ◌∷◌, Result, Ok, Err, IfOk}
use Rattle.world_model.specs.Book.{PlaceBook}
use Rattle.world_model.specs.BookChange.{AreChanges, BookChange}
use Rattle.dimension_ops.specs.declared.rule.Rule.{Rule}

-- what is told of members: of each of them, or the place of the first that breaks a rule, and the rule
abbrev pub ToldOfAll : Type 0 → Type 0
ToldOfAll A = Result (List A) (ℕ × Rule)

abbrev pub with_first : {A : Type 0} → A → ToldOfAll A → ToldOfAll A
with_first first (Ok others) = Ok (first ∷ others)
with_first first (Err broken) = Err broken

-- behind a member that is answered those after it are judged
abbrev pub Then : {A : Type 0} → ℕ → Result A Rule → (ToldOfAll A → Type 0) → ToldOfAll A → Type 0
Then at (Ok first) IsRest told = (rest : ToldOfAll _) × IsRest rest × (told ≡ with_first first rest)
Then at (Err broken) IsRest told = told ≡ Err (at, broken)

-- the members from a place on, in order
abbrev pub InOrder : {M A : Type 0} → (M → Result A Rule → Type 0) → ℕ → List M → ToldOfAll A → Type 0
InOrder Is at [] told = told ≡ Ok []
InOrder Is at (member ∷ members) told =
    (one : Result _ Rule) × Is member one × Then at one (InOrder Is (at + 1) members) told

-- behind a member that changes the spreadsheet those after it are judged on what it leaves
abbrev pub ThenOn : {A : Type 0} → ℕ → Result (A × List BookChange) Rule
    → (PlaceBook → ToldOfAll A → List BookChange → Type 0) → PlaceBook → ToldOfAll A → List BookChange → Type 0
ThenOn at (Ok (first, made)) IsRest before told changes =
    (between : PlaceBook) × (rest : ToldOfAll _) × (others : List BookChange) × AreChanges made before between
    × IsRest between rest others × (told ≡ with_first first rest) × (changes ≡ made ++ others)
ThenOn at (Err broken) IsRest before told changes = (told ≡ Err (at, broken)) × (changes ≡ [])

-- such members from a place on, in order, and what they make of the spreadsheet
abbrev pub InTurn : {M A : Type 0} → (PlaceBook → M → Result (A × List BookChange) Rule → Type 0) → ℕ → List M
    → PlaceBook → ToldOfAll A → List BookChange → Type 0
InTurn Is at [] before told changes = (told ≡ Ok []) × (changes ≡ [])
InTurn Is at (member ∷ members) before told changes =
    (one : Result (_ × List BookChange) Rule) × Is before member one
    × ThenOn at one (InTurn Is (at + 1) members) before told changes

-- ---- what the private functions hand to one another

-- members are done, one after another, up to the first that breaks a rule
pub record AreDone {M A : Type 0} (Is : PlaceBook → M → Result (A × List BookChange) Rule → Type 0) (members : List M)
    (before after : PlaceBook) (told : ToldOfAll A) : Type 0 where
  pub changes : List BookChange
  pub each : InTurn Is 0 members before told changes
  pub becomes : IfOk told (λ all. AreChanges changes before after)
