-- Lists of arguments of so many, and what stands for them.
use Rattle.std.proofs.Common.{◌≡◌, ℕ, zero, suc, ◌*◌, ◌<◌, ◌≤◌, ◌==◌, ◌&&◌, true, false, List, [], ◌∷◌, length, get_or, arith, refl, ap, sym, ◌∙◌}
use Rattle.std.proofs.lemmas.Bool.{and_parts, false≢true}
use Rattle.std.proofs.lemmas.Bool.Decides.{nat_tests}
use Rattle.std.proofs.lemmas.Nat.{mul-le}
use Rattle.cell_value.specs.declared.cell.Kind.TheVariants as kind
use Rattle.cell_value.specs.declared.cell.Value.{Value}
use Rattle.cell_value.specs.declared.cell.Value.TheVariants.{Blank, Error}
use Rattle.cell_calc.specs.declared.arguments.Argument.{Argument}
use Rattle.cell_calc.specs.Arguments.{Given, value_of_cells}
use Rattle.cell_calc.specs.Lent.{StandsFor, StandFor}
use Rattle.cell_calc.specs.FunctionValues.{of_some}

-- one argument or more
pub some_given : (make : List Given → Value) (arguments : List Argument) (given : List Given) → StandFor arguments given
    → 0 < length arguments → make given ≡ of_some make given
some_given make [] given stand some = absurd (omega (arith, some))
some_given make (a ∷ more) [] stand some = absurd stand
some_given make (a ∷ more) (g ∷ gs) stand some = refl

-- as many are given as arguments are lent
pub as_many : (arguments : List Argument) (given : List Given) → StandFor arguments given → length given
    ≡ length arguments
as_many [] [] stand = refl
as_many [] (g ∷ gs) stand = absurd stand
as_many (a ∷ more) [] stand = absurd stand
as_many (a ∷ more) (g ∷ gs) stand = ap suc (as_many more gs stand.1)

-- each stands for what is given in its place
pub stands_at : (arguments : List Argument) (given : List Given) → StandFor arguments given
    → (k : ℕ) (a : Argument) (g : Given)
    → k < length arguments → StandsFor (get_or arguments k a) (get_or given k g)
stands_at [] given stand k a g within = absurd (omega (arith, within))
stands_at (x ∷ more) [] stand k a g within = absurd stand
stands_at (x ∷ more) (y ∷ ys) stand zero a g within = stand.0
stands_at (x ∷ more) (y ∷ ys) stand (suc k) a g within = stands_at more ys stand.1 k a g (omega (arith, within))

-- a list of so many by its elements
module _ {X : Type 0} where
  pub of_one_element : (xs : List X) (d : X) → length xs ≡ 1 → xs ≡ get_or xs 0 d ∷ []
  of_one_element [] d is = absurd (omega (arith, is))
  of_one_element (x ∷ []) d is = refl
  of_one_element (x ∷ y ∷ more) d is = absurd (omega (arith, is))

  pub of_two_elements : (xs : List X) (d : X) → length xs ≡ 2 → xs ≡ get_or xs 0 d ∷ get_or xs 1 d ∷ []
  of_two_elements [] d is = absurd (omega (arith, is))
  of_two_elements (x ∷ []) d is = absurd (omega (arith, is))
  of_two_elements (x ∷ y ∷ []) d is = refl
  of_two_elements (x ∷ y ∷ z ∷ more) d is = absurd (omega (arith, is))

  pub of_three_elements : (xs : List X) (d : X) → length xs ≡ 3 → xs ≡ get_or xs 0 d ∷ get_or xs 1 d
      ∷ get_or xs 2 d ∷ []
  of_three_elements [] d is = absurd (omega (arith, is))
  of_three_elements (x ∷ []) d is = absurd (omega (arith, is))
  of_three_elements (x ∷ y ∷ []) d is = absurd (omega (arith, is))
  of_three_elements (x ∷ y ∷ z ∷ []) d is = refl
  of_three_elements (x ∷ y ∷ z ∷ w ∷ more) d is = absurd (omega (arith, is))

-- the value of a cell alone, and of more
pub value_of_one : (values : List Value) → length values ≡ 1 → get_or values 0 Blank ≡ value_of_cells values
value_of_one [] is = absurd (omega (arith, is))
value_of_one (v ∷ []) is = refl
value_of_one (v ∷ w ∷ more) is = absurd (omega (arith, is))

pub value_of_other : (values : List Value) → (length values ≡ 1 → ⊥) → Error kind.Value ≡ value_of_cells values
value_of_other [] is = refl
value_of_other (v ∷ []) is = absurd (is refl)
value_of_other (v ∷ w ∷ more) is = refl

-- a product that is 1
two_or_more : (one other : ℕ) → 2 ≤ one → 1 ≤ other → one * other ≡ 1 → ⊥
two_or_more one other many some is = omega (arith, mul-le 2 1 one other many some, is)

pub left_is_one : (one other : ℕ) → one * other ≡ 1 → one ≡ 1
left_is_one zero other is = absurd (omega (arith, is))
left_is_one (suc zero) other is = refl
left_is_one (suc (suc one)) zero is = absurd (grind (arith, is))
left_is_one (suc (suc one)) (suc other) is =
    absurd (two_or_more (suc (suc one)) (suc other) (omega arith) (omega arith) is)

-- whether an area is one cell
one_if : (values : List Value) (rows columns : ℕ) → length values ≡ rows * columns → (rows == 1 && columns == 1) ≡ true
    → length values ≡ 1
one_if values rows columns all is =
    let parts = and_parts (rows == 1) (columns == 1) is in
    let row : rows ≡ 1 = grind (arith, nat_tests, parts.0) in
    let column : columns ≡ 1 = grind (arith, nat_tests, parts.1) in
    all ∙ ap (λ n. n * columns) row ∙ ap (λ n. 1 * n) column

pub one_cell : (values : List Value) (rows columns : ℕ) → length values ≡ rows * columns
    → (rows == 1 && columns == 1) ≡ true
    → get_or values 0 Blank ≡ value_of_cells values
one_cell values rows columns all is = value_of_one values (one_if values rows columns all is)

both_one : (rows columns : ℕ) → rows ≡ 1 → rows * columns ≡ 1 → (rows == 1 && columns == 1) ≡ true
both_one rows columns row is =
    let column : columns ≡ 1 = sym (omega arith) ∙ ap (λ n. n * columns) (sym row) ∙ is in
    ap (λ n. n == 1 && columns == 1) row ∙ ap (λ n. n == 1) column

pub other_cells : (values : List Value) (rows columns : ℕ) → length values ≡ rows * columns
    → (rows == 1 && columns == 1) ≡ false → Error kind.Value ≡ value_of_cells values
other_cells values rows columns all is =
    value_of_other values (λ one.
    let product : rows * columns ≡ 1 = sym all ∙ one in
    false≢true (sym is ∙ both_one rows columns (left_is_one rows columns product) product))
