-- Symbols of which operands that name cells are exchanged for other operands.
use Rattle.std.proofs.Common.{◌≡◌, Bool, true, false, List, [], ◌∷◌, ◌++◌, map, refl, sym, ap, ◌∙◌, inl, inr}
use Rattle.std.specs.Prelude.{◌⊎◌, None}
use Rattle.std.specs.List.{AllZip}
use Rattle.std.proofs.lemmas.Bool.{false≢true}
use Rattle.formula_reader.specs.declared.symbols.Symbol.{Symbol}
use Rattle.formula_reader.specs.Limits.{passed_by_symbols}
use Rattle.formula_reader.proofs.Neighbours.{operand, kind_of_symbol}
use Rattle.formula_reader.proofs.Counted.{kind_names_cells, passed_symbols}
use Rattle.formula_reader.proofs.Fewer.{StandsFor, StandFor, kinds_passed}

-- a symbol stays, or is an operand that names cells and gives way to another operand
abbrev pub IsExchanged : Symbol → Symbol → Type 0
IsExchanged own other = (own ≡ other)
    ⊎ ((names : Bool) × (kind_of_symbol own ≡ operand true) × (kind_of_symbol other ≡ operand names))

abbrev pub AreExchanged : List Symbol → List Symbol → Type 0
AreExchanged one other = AllZip IsExchanged one other

-- symbols that stay
pub all_stay : (symbols : List Symbol) → AreExchanged symbols symbols
all_stay [] = tt
all_stay (own ∷ later) = (inl refl, all_stay later)

-- none becomes none
pub none_left : (all : List Symbol) → AreExchanged [] all → all ≡ []
none_left [] are = refl
none_left (other ∷ all) are = absurd are

-- one stretch behind another
pub both_exchanged : (one other one' other' : List Symbol) → AreExchanged one one' → AreExchanged other other'
    → AreExchanged (one ++ other) (one' ++ other')
both_exchanged [] other [] other' first second = second
both_exchanged [] other (own' ∷ one') other' first second = absurd first
both_exchanged (own ∷ one) other [] other' first second = absurd first
both_exchanged (own ∷ one) other (own' ∷ one') other' first second =
    (first.0, both_exchanged one other one' other' first.1 second)

-- a symbol that is no such operand
abbrev pub IsKept : Symbol → Type 0
IsKept own = kind_names_cells (kind_of_symbol own) ≡ false

-- it stays
kept_same : (own other : Symbol) → IsKept own → IsExchanged own other → other ≡ own
kept_same own other kept (inl same) = sym same
kept_same own other kept (inr is) = absurd (false≢true (sym kept ∙ ap kind_names_cells is.1))

-- before what the others become
pub first_kept : (own : Symbol) (later all : List Symbol) → IsKept own → AreExchanged (own ∷ later) all
    → (others : List Symbol) × (all ≡ own ∷ others) × AreExchanged later others
first_kept own later [] kept are = absurd are
first_kept own later (other ∷ others) kept are =
    (others, ap (λ first. first ∷ others) (kept_same own other kept are.0), are.1)

-- between them
pub record IsParted (s z : List Symbol) (own : Symbol) (all : List Symbol) : Type 0 where
  pub front : List Symbol
  pub back : List Symbol
  pub whole : all ≡ front ++ own ∷ back
  pub fronts : AreExchanged s front
  pub backs : AreExchanged z back

pub parted : (s z : List Symbol) (own : Symbol) (all : List Symbol) → IsKept own → AreExchanged (s ++ own ∷ z) all
    → IsParted s z own all
parted [] z own all kept are =
    let found = first_kept own z all kept are in
    record { front = []; back = found.0; whole = found.1; fronts = tt; backs = found.2 }
parted (first ∷ s) z own [] kept are = absurd are
parted (first ∷ s) z own (other ∷ all) kept are =
    let rest = parted s z own all kept are.1 in
    record {
      front = other ∷ rest.front;
      back = rest.back;
      whole = ap (λ later. other ∷ later) rest.whole;
      fronts = (are.0, rest.fronts);
      backs = rest.backs;
    }

-- and behind them
pub last_kept : (s : List Symbol) (own : Symbol) (all : List Symbol) → IsKept own → AreExchanged (s ++ own ∷ []) all
    → (front : List Symbol) × (all ≡ front ++ own ∷ []) × AreExchanged s front
last_kept s own all kept are =
    let found = parted s [] own all kept are in
    (found.front, found.whole ∙ ap (λ back. found.front ++ own ∷ back) (none_left found.back found.backs), found.fronts)

-- in kind they stand for what they become
kind_stands : (own other : Symbol) → IsExchanged own other → StandsFor (kind_of_symbol own) (kind_of_symbol other)
kind_stands own other (inl same) = inl (ap kind_of_symbol same)
kind_stands own other (inr (true, first, second)) = inl (first ∙ sym second)
kind_stands own other (inr (false, first, second)) = inr (first, second)

kinds_stand : (one other : List Symbol) → AreExchanged one other
    → StandFor (map kind_of_symbol one) (map kind_of_symbol other)
kinds_stand [] [] are = tt
kinds_stand [] (other ∷ others) are = absurd are
kinds_stand (own ∷ later) [] are = absurd are
kinds_stand (own ∷ later) (other ∷ others) are = (kind_stands own other are.0, kinds_stand later others are.1)

-- which so passes no limit that they don't pass
pub exchanged_passed : (one other : List Symbol) → AreExchanged one other → passed_by_symbols one ≡ None
    → passed_by_symbols other ≡ None
exchanged_passed one other are none =
    passed_symbols other
    ∙ kinds_passed (map kind_of_symbol one) (map kind_of_symbol other) (kinds_stand one other are)
    (sym (passed_symbols one) ∙ none)
