-- The tokens of a printed formula are counted like its symbols.
use Rattle.std.proofs.Common.{rules, cond, ◌≡◌, ℕ, ◌+◌, Bool, true, List, [], ◌∷◌, length, map, max, refl, sym, ap, ◌∙◌}
use Rattle.std.specs.List.{count_by}
use Rattle.std.proofs.lemmas.List.{length-map}
use Rattle.std.proofs.lemmas.List.Sums.{sum_by-cons}
use Rattle.formula_reader.specs.declared.tokens.token.Placed.{Placed}
use Rattle.formula_reader.specs.declared.tokens.token.Token.{Token}
use Rattle.formula_reader.proofs.Lexemes.{Item, gap, lexeme, placed, tokens_in}
use Rattle.formula_reader.specs.declared.symbols.Symbol.{Symbol}
use Rattle.formula_reader.specs.Limits.{counted_token, counted_symbol, names_cells, depth_behind, deepest, first_passed, passed, passed_by_symbols}
use Rattle.formula_reader.specs.declared.limits.Counted.{Counted}
use Rattle.formula_reader.specs.declared.limits.Counted.TheVariants.{Cells, Opens, Closes, Other}
use Rattle.formula_reader.proofs.Neighbours.{Kind, operand, opening, closing, kind_of_token, kind_of_symbol}

-- what the limits count of a kind
abbrev pub counted_kind : Kind → Counted
counted_kind (operand true) = Cells
counted_kind opening = Opens
counted_kind closing = Closes
counted_kind _ = Other

abbrev pub kind_names_cells : Kind → Bool
kind_names_cells kind = names_cells (counted_kind kind)

abbrev pub depth_behind_kind : Kind → ℕ → ℕ
depth_behind_kind kind n = depth_behind (counted_kind kind) n

pub count-cons : {X : Type 0} (p : X → Bool) (x : X) (xs : List X)
    → count_by p (x ∷ xs) ≡ cond (p x) 1 0 + count_by p xs
count-cons p x xs = sum_by-cons (λ y. cond (p y) 1 0) x xs

-- items that count as their kinds pass what their kinds pass
module _ {X : Type 0} (counts_as : X → Counted) (kind : X → Kind)
    (is : (x : X) → counts_as x ≡ counted_kind (kind x)) where
  counted : (items : List X)
      → count_by (λ x. names_cells (counts_as x)) items ≡ count_by kind_names_cells (map kind items)
  counted [] = refl
  counted (x ∷ later) =
      count-cons (λ x. names_cells (counts_as x)) x later
      ∙ ap (λ own. cond (names_cells own) 1 0 + count_by (λ x. names_cells (counts_as x)) later) (is x)
      ∙ ap (λ n. cond (kind_names_cells (kind x)) 1 0 + n) (counted later)
      ∙ sym (count-cons kind_names_cells (kind x) (map kind later))

  deepened : (n : ℕ) (items : List X)
      → deepest (λ x. depth_behind (counts_as x)) n items ≡ deepest depth_behind_kind n (map kind items)
  deepened n [] = refl
  deepened n (x ∷ later) = rw (is x) (ap (max n) (deepened (depth_behind_kind (kind x) n) later))

  passed_by_kinds : (items : List X) → first_passed counts_as items ≡ first_passed counted_kind (map kind items)
  passed_by_kinds items = rw (length-map items kind, counted items, deepened 0 items) refl

token_counts : (t : Token) → counted_token t ≡ counted_kind (kind_of_token t)
token_counts t = search rules

symbol_counts : (s : Symbol) → counted_symbol s ≡ counted_kind (kind_of_symbol s)
symbol_counts s = search rules

kinds_placed : (at : ℕ) (items : List Item)
    → map (λ (p : Placed). kind_of_token p.token) (placed at items) ≡ map kind_of_token (tokens_in items)
kinds_placed at [] = refl
kinds_placed at (gap blanks ∷ later) = kinds_placed (at + length blanks) later
kinds_placed at (lexeme own t ∷ later) = ap (λ kinds. kind_of_token t ∷ kinds) (kinds_placed (at + length own) later)

-- so tokens and symbols pass what their kinds pass
pub passed_placed : (items : List Item)
    → passed (placed 0 items) ≡ first_passed counted_kind (map kind_of_token (tokens_in items))
passed_placed items =
    passed_by_kinds (λ (p : Placed). counted_token p.token) (λ (p : Placed). kind_of_token p.token)
    (λ p. token_counts p.token) (placed 0 items)
    ∙ ap (first_passed counted_kind) (kinds_placed 0 items)

pub passed_symbols : (symbols : List Symbol)
    → passed_by_symbols symbols ≡ first_passed counted_kind (map kind_of_symbol symbols)
passed_symbols symbols = passed_by_kinds counted_symbol kind_of_symbol symbol_counts symbols

-- and tokens of the kinds of symbols the limits that those pass
pub passed_alike : (items : List Item) (symbols : List Symbol)
    → map kind_of_token (tokens_in items) ≡ map kind_of_symbol symbols
    → passed (placed 0 items) ≡ passed_by_symbols symbols
passed_alike items symbols same =
    passed_placed items ∙ ap (first_passed counted_kind) same ∙ sym (passed_symbols symbols)
