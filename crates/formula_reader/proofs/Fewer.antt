-- What is read passes no limit that its tokens don't pass, though a reference that is lost names no cells.
use Rattle.std.proofs.Common.{◌≡◌, cond, ℕ, ◌≤◌, Bool, true, false, List, [], ◌∷◌, length, map, max, refl, sym, ap, ◌∙◌, arith, inl, inr, ltb-true, lt-ltb}
use Rattle.std.specs.Prelude.{⊤, ◌⊎◌, Some, None, nat_lt, if◌then◌else◌}
use Rattle.std.specs.List.{count_by}
use Rattle.std.proofs.lemmas.Bool.{false≢true}
use Rattle.std.proofs.lemmas.Option.{none-some}
use Rattle.formula_reader.proofs.Lexemes.{Item, placed, tokens_in}
use Rattle.formula_reader.specs.declared.symbols.Symbol.{Symbol}
use Rattle.formula_reader.specs.declared.fault.FormulaFault.TheVariants.{Tokens, References, Depth}
use Rattle.formula_reader.specs.Limits.{deepest, first_passed, passed, passed_by_symbols}
use Rattle.formula_reader.proofs.Neighbours.{Kind, operand, kind_of_token, kind_of_symbol}
use Rattle.formula_reader.proofs.Counted.{counted_kind, kind_names_cells, depth_behind_kind, count-cons, passed_placed, passed_symbols}

-- a token stands for a symbol of its kind, or names cells where the symbol is lost
abbrev pub StandsFor : Kind → Kind → Type 0
StandsFor own other = (own ≡ other) ⊎ ((own ≡ operand true) × (other ≡ operand false))

-- so do tokens, one by one
abbrev pub StandFor : List Kind → List Kind → Type 0
StandFor [] [] = ⊤
StandFor (own ∷ later) (other ∷ others) = StandsFor own other × StandFor later others
StandFor _ _ = ⊥

-- they are as many and as deep
as_many : (own other : List Kind) → StandFor own other → length own ≡ length other
as_many [] [] stand = refl
as_many (kind ∷ own) (kind' ∷ other) stand = omega (arith, as_many own other stand.1)
as_many own other stand = absurd stand

depth_alike : (own other : Kind) (n : ℕ) → StandsFor own other → depth_behind_kind own n ≡ depth_behind_kind other n
depth_alike own other n (inl same) = ap (λ kind. depth_behind_kind kind n) same
depth_alike own other n (inr lost) = rw (lost.0, lost.1) refl

as_deep : (n : ℕ) (own other : List Kind) → StandFor own other
    → deepest depth_behind_kind n own ≡ deepest depth_behind_kind n other
as_deep n [] [] stand = refl
as_deep n (kind ∷ own) (kind' ∷ other) stand =
    rw (depth_alike kind kind' n stand.0) (ap (max n) (as_deep (depth_behind_kind kind' n) own other stand.1))
as_deep n own other stand = absurd stand

-- and name no fewer cells
names_more : (own other : Kind) → StandsFor own other
    → cond (kind_names_cells other) 1 0 ≤ cond (kind_names_cells own) 1 0
names_more own other (inl same) = rw same (omega arith)
names_more own other (inr lost) = rw (lost.0, lost.1) (omega arith)

no_fewer : (own other : List Kind) → StandFor own other
    → count_by kind_names_cells other ≤ count_by kind_names_cells own
no_fewer [] [] stand = omega arith
no_fewer (kind ∷ own) (kind' ∷ other) stand =
    omega (
      arith,
      count-cons kind_names_cells kind own,
      count-cons kind_names_cells kind' other,
      names_more kind kind' stand.0,
      no_fewer own other stand.1,
    )
no_fewer own other stand = absurd stand

-- so symbols pass no limit that their tokens don't pass
none_passed : (many more fewer deep : Bool) → (fewer ≡ true → more ≡ true)
    → (if many then Some Tokens else if more then Some References else if deep then Some Depth else None) ≡ None
    → (if many then Some Tokens else if fewer then Some References else if deep then Some Depth else None) ≡ None
none_passed true more fewer deep less none = none
none_passed false true fewer deep less none = absurd (none-some References (sym none))
none_passed false false true deep less none = absurd (false≢true (less refl))
none_passed false false false deep less none = none

pub kinds_passed : (own other : List Kind) → StandFor own other → first_passed counted_kind own ≡ None
    → first_passed counted_kind other ≡ None
kinds_passed own other stand none =
    let fewer = no_fewer own other stand in
    none_passed (nat_lt 512 (length other)) (nat_lt 64 (count_by kind_names_cells own))
    (nat_lt 64 (count_by kind_names_cells other))
    (nat_lt 32 (deepest depth_behind_kind 0 other))
    (λ past. lt-ltb 64 (count_by kind_names_cells own) (omega (
      arith,
      ltb-true 64 (count_by kind_names_cells other) past,
      fewer,
    )))
    (rw (as_many own other stand, as_deep 0 own other stand) at none)

pub symbols_passed : (items : List Item) (symbols : List Symbol)
    → StandFor (map kind_of_token (tokens_in items)) (map kind_of_symbol symbols)
    → passed (placed 0 items) ≡ None → passed_by_symbols symbols ≡ None
symbols_passed items symbols stand none =
    passed_symbols symbols
    ∙ kinds_passed (map kind_of_token (tokens_in items)) (map kind_of_symbol symbols) stand
    (sym (passed_placed items) ∙ none)
