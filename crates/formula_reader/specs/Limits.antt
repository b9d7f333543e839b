-- The limits of a formula, counted on its tokens (this project's profile).
use Rattle.std.specs.Prelude.{ℕ, ◌+◌, ◌-◌, max, Bool, true, false, nat_lt, List, [], ◌∷◌, length, Option, Some, None, if◌then◌else◌}
use Rattle.std.specs.List.{count_by}
use Rattle.formula_reader.specs.declared.fault.FormulaFault.{FormulaFault}
use Rattle.formula_reader.specs.declared.fault.FormulaFault.TheVariants.{Tokens, References, Depth}
use Rattle.formula_reader.specs.declared.limits.Counted.{Counted}
use Rattle.formula_reader.specs.declared.limits.Counted.TheVariants.{Cells, Opens, Closes, Other}
use Rattle.formula_reader.specs.declared.limits.TheConstants.{TOKENS, REFERENCES, DEPTH}
use Rattle.formula_reader.specs.declared.symbols.Symbol.{Symbol}
use Rattle.formula_reader.specs.declared.symbols.Symbol.TheVariants as symbol
use Rattle.formula_reader.specs.declared.tokens.token.Placed.{Placed}
use Rattle.formula_reader.specs.declared.tokens.token.Token.{Token}
use Rattle.formula_reader.specs.declared.tokens.token.Token.TheVariants as token

-- what the limits count of a token: references and words, and the brackets
abbrev pub counted_token : Token → Counted
counted_token (token.Reference written) = Cells
counted_token (token.TitledReference title written) = Cells
counted_token (token.Word word) = Cells
counted_token token.Open = Opens
counted_token token.Close = Closes
counted_token _ = Other

-- the same of a symbol
abbrev pub counted_symbol : Symbol → Counted
counted_symbol (symbol.Ref area) = Cells
counted_symbol (symbol.Word word) = Cells
counted_symbol symbol.Open = Opens
counted_symbol symbol.Close = Closes
counted_symbol _ = Other

abbrev pub names_cells : Counted → Bool
names_cells Cells = true
names_cells _ = false

-- how many brackets are open behind a token, where so many are before it
abbrev pub depth_behind : Counted → ℕ → ℕ
depth_behind Opens n = n + 1
depth_behind Closes n = n - 1
depth_behind _ n = n

-- how many brackets are open at once at most, from a place on where so many are; `behind` tells how
-- many are open behind an item
abbrev pub deepest : {X : Type 0} → (X → ℕ → ℕ) → ℕ → List X → ℕ
deepest behind n [] = n
deepest behind n (item ∷ later) = max n (deepest behind (behind item n) later)

-- the first limit that items pass: how many they are, how many name cells, how many brackets are open
abbrev pub first_passed : {X : Type 0} → (X → Counted) → List X → Option FormulaFault
first_passed counted items =
    if nat_lt TOKENS (length items) then Some Tokens
    else if nat_lt REFERENCES (count_by (λ item. names_cells (counted item)) items) then Some References
    else if nat_lt DEPTH (deepest (λ item. depth_behind (counted item)) 0 items) then Some Depth
    else None

-- the first limit that tokens pass
abbrev pub passed : List Placed → Option FormulaFault
passed tokens = first_passed (λ placed. counted_token placed.token) tokens

-- and the first that symbols pass; a formula has as many symbols as tokens
abbrev pub passed_by_symbols : List Symbol → Option FormulaFault
passed_by_symbols symbols = first_passed counted_symbol symbols
