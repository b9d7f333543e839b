-- A function of few arguments is #N/A of many.
use Rattle.std.proofs.Common.{◌≡◌, ◌≤◌, false, List, [], ◌∷◌, length, arith, refl, sym}
use Rattle.std.proofs.lemmas.Bool.{false≢true}
use Rattle.cell_value.specs.declared.cell.Kind.TheVariants as kind
use Rattle.cell_value.specs.declared.cell.Value.TheVariants.{Error}
use Rattle.cell_calc.specs.declared.functions.table.Function.{Function}
use Rattle.cell_calc.specs.declared.functions.table.Function.TheVariants.{Sum, Min, Max, Count, CountA, If, And, Or, Not, Abs, Sign, Mod, Quotient, Len, Left, Right, Mid, Concatenate, Exact, Index, Match, CountIf, SumIf, Rows, Columns, IsBlank, IsNumber, IsText, IsError, IfError}
use Rattle.cell_calc.specs.Arguments.{Given}
use Rattle.cell_calc.specs.FunctionNames.{takes_any}
use Rattle.cell_calc.specs.FunctionValues.{function_value}

none_of_four : (function : Function) → takes_any function ≡ false → (a b c d : Given) (more : List Given)
    → Error kind.Na ≡ function_value function (a ∷ b ∷ c ∷ d ∷ more)
none_of_four Sum few a b c d more = absurd (false≢true (sym few))
none_of_four Min few a b c d more = absurd (false≢true (sym few))
none_of_four Max few a b c d more = absurd (false≢true (sym few))
none_of_four Count few a b c d more = absurd (false≢true (sym few))
none_of_four CountA few a b c d more = absurd (false≢true (sym few))
none_of_four If few a b c d more = refl
none_of_four And few a b c d more = absurd (false≢true (sym few))
none_of_four Or few a b c d more = absurd (false≢true (sym few))
none_of_four Not few a b c d more = refl
none_of_four Abs few a b c d more = refl
none_of_four Sign few a b c d more = refl
none_of_four Mod few a b c d more = refl
none_of_four Quotient few a b c d more = refl
none_of_four Len few a b c d more = refl
none_of_four Left few a b c d more = refl
none_of_four Right few a b c d more = refl
none_of_four Mid few a b c d more = refl
none_of_four Concatenate few a b c d more = absurd (false≢true (sym few))
none_of_four Exact few a b c d more = refl
none_of_four Index few a b c d more = refl
none_of_four Match few a b c d more = refl
none_of_four CountIf few a b c d more = refl
none_of_four SumIf few a b c d more = refl
none_of_four Rows few a b c d more = refl
none_of_four Columns few a b c d more = refl
none_of_four IsBlank few a b c d more = refl
none_of_four IsNumber few a b c d more = refl
none_of_four IsText few a b c d more = refl
none_of_four IsError few a b c d more = refl
none_of_four IfError few a b c d more = refl

pub none_of_many : (function : Function) → takes_any function ≡ false → (given : List Given) → 4 ≤ length given
    → Error kind.Na ≡ function_value function given
none_of_many function few [] many = absurd (omega (arith, many))
none_of_many function few (a ∷ []) many = absurd (omega (arith, many))
none_of_many function few (a ∷ b ∷ []) many = absurd (omega (arith, many))
none_of_many function few (a ∷ b ∷ c ∷ []) many = absurd (omega (arith, many))
none_of_many function few (a ∷ b ∷ c ∷ d ∷ more) many = none_of_four function few a b c d more
