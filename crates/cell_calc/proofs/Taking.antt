-- What is gathered of lent arguments is what is gathered of what they stand for.
use Rattle.std.proofs.Common.{◌≡◌, ℕ, suc, Bool, true, false, cond, List, [], ◌∷◌, ◌++◌, map, refl, ap, sym, ◌∙◌}
use Rattle.std.specs.Prelude.{Some, None, Result, Err, filter, flat_map}
use Rattle.cell_value.specs.declared.cell.Kind.{Kind}
use Rattle.cell_value.specs.declared.cell.Value.{Value}
use Rattle.cell_value.specs.declared.cell.Value.TheVariants.{Blank, Number, Text, Truth, Error}
use Rattle.cell_calc.specs.declared.arguments.Argument.{Argument}
use Rattle.cell_calc.specs.declared.arguments.Argument.TheVariants.{Single, Area}
use Rattle.cell_calc.specs.declared.arguments.FilledCell.{FilledCell}
use Rattle.cell_calc.specs.declared.functions.gathering.Taking.{Taking}
use Rattle.cell_calc.specs.declared.functions.gathering.Taking.TheVariants.{Numbers, NumbersAndErrors, TruthsAndErrors, Filled}
use Rattle.cell_calc.specs.Arguments.{Given, error_given}
use Rattle.cell_calc.specs.GatheringFunctions.{values_taken, all_good, gathered}
use Rattle.cell_calc.specs.Outcome.{leftmost, error_or}
use Rattle.cell_calc.specs.Lent.{filled_from, place_and_value, StandsFor, StandFor, value_held}
use Rattle.cell_calc.specs.Taken.{is_taken, cell_taken, taken_of, all_taken, error_lent}

-- a test that blank doesn't pass leaves the same of cells and of those that hold something
filled_filter : (takes : Value → Bool) → takes Blank ≡ false → (place : ℕ) (values : List Value)
    → filter takes (map (λ p. p.1) (filled_from place values)) ≡ filter takes values
filled_filter takes fails place [] = refl
filled_filter takes fails place (Blank ∷ later) =
    filled_filter takes fails (suc place) later
    ∙ ap (λ b. cond b (Blank ∷ filter takes later) (filter takes later)) (sym fails)
filled_filter takes fails place (Number number ∷ later) =
    ap (λ l. cond (takes (Number number)) (Number number ∷ l) l) (filled_filter takes fails (suc place) later)
filled_filter takes fails place (Text text ∷ later) =
    ap (λ l. cond (takes (Text text)) (Text text ∷ l) l) (filled_filter takes fails (suc place) later)
filled_filter takes fails place (Truth truth ∷ later) =
    ap (λ l. cond (takes (Truth truth)) (Truth truth ∷ l) l) (filled_filter takes fails (suc place) later)
filled_filter takes fails place (Error fault ∷ later) =
    ap (λ l. cond (takes (Error fault)) (Error fault ∷ l) l) (filled_filter takes fails (suc place) later)

blank_is_not_taken : (taking : Taking) → is_taken taking Blank ≡ false
blank_is_not_taken Numbers = refl
blank_is_not_taken NumbersAndErrors = refl
blank_is_not_taken TruthsAndErrors = refl
blank_is_not_taken Filled = refl

-- what is taken of cells that hold something, one by one
cells_filter : (taking : Taking) (cells : List FilledCell)
    → flat_map (cell_taken taking) cells ≡ filter (is_taken taking) (map (λ p. p.1) (map place_and_value cells))
cells_filter taking [] = refl
cells_filter taking (cell ∷ cells) =
    elim (is_taken taking (value_held cell.value)) as (λ b. cond b (value_held cell.value ∷ []) []
    ++ flat_map (cell_taken taking) cells
    ≡ cond b (value_held cell.value ∷ filter (is_taken taking) (map (λ p. p.1) (map place_and_value cells)))
    (filter (is_taken taking) (map (λ p. p.1) (map place_and_value cells)))) [
      | true ↦ ap (λ l. value_held cell.value ∷ l) (cells_filter taking cells)
      | false ↦ cells_filter taking cells
    ]

taken_given : (taking : Taking) (argument : Argument) (given : Given) → StandsFor argument given
    → taken_of taking argument ≡ values_taken (is_taken taking) given
taken_given taking (Single value) given stands = ap (values_taken (is_taken taking)) (sym stands)
taken_given taking (Area lent) given (cells, stands, are) =
    cells_filter taking lent.filled.items
    ∙ ap (λ l. filter (is_taken taking) (map (λ p. p.1) l)) are.filled
    ∙ filled_filter (is_taken taking) (blank_is_not_taken taking) 0 cells.values
    ∙ ap (values_taken (is_taken taking)) (sym stands)

pub all_taken_given : (taking : Taking) (arguments : List Argument) (given : List Given)
    → StandFor arguments given → all_taken taking arguments ≡ flat_map (values_taken (is_taken taking)) given
all_taken_given taking [] [] stand = refl
all_taken_given taking [] (g ∷ gs) stand = absurd stand
all_taken_given taking (a ∷ more) [] stand = absurd stand
all_taken_given taking (a ∷ more) (g ∷ gs) stand =
    ap (λ l. l ++ all_taken taking more) (taken_given taking a g stand.0)
    ∙ ap (λ l. values_taken (is_taken taking) g ++ l) (all_taken_given taking more gs stand.1)

-- the errors of arguments are those of what they stand for
pub error_is : (argument : Argument) (given : Given) → StandsFor argument given → error_lent argument
    ≡ error_given given
error_is (Single value) given stands = ap error_given (sym stands)
error_is (Area lent) given (cells, stands, are) = ap error_given (sym stands)

pub errors_given : (arguments : List Argument) (given : List Given) → StandFor arguments given
    → map error_lent arguments ≡ map error_given given
errors_given [] [] stand = refl
errors_given [] (g ∷ gs) stand = absurd stand
errors_given (a ∷ more) [] stand = absurd stand
errors_given (a ∷ more) (g ∷ gs) stand =
    ap (λ e. e ∷ map error_lent more) (error_is a g stand.0)
    ∙ ap (λ l. error_given g ∷ l) (errors_given more gs stand.1)

-- what is gathered, where an argument is in error and where none is
module _ {A : Type 0} (convert : Value → Result A Kind) (taking : Taking) where
  pub gathered_fails : (arguments : List Argument) (given : List Given) (fault : Kind) → StandFor arguments given
      → leftmost (map error_lent arguments) ≡ Some fault → Err fault ≡ gathered convert (is_taken taking) given
  gathered_fails arguments given fault stand some =
      let rest = all_good (map convert (flat_map (values_taken (is_taken taking)) given)) in
      sym (ap (λ o. error_or o rest) (ap leftmost (sym (errors_given arguments given stand)) ∙ some))

  pub gathered_is : (arguments : List Argument) (given : List Given) → StandFor arguments given
      → leftmost (map error_lent arguments) ≡ None
      → all_good (map convert (all_taken taking arguments)) ≡ gathered convert (is_taken taking) given
  gathered_is arguments given stand none =
      let rest = all_good (map convert (flat_map (values_taken (is_taken taking)) given)) in
      ap (λ values. all_good (map convert values)) (all_taken_given taking arguments given stand)
      ∙ sym (ap (λ o. error_or o rest) (ap leftmost (sym (errors_given arguments given stand)) ∙ none))
