use Rattle.std.proofs.Common.{◌≡◌, [], ◌∷◌, subst, sym}
use Rattle.std.specs.Prelude.{IfOk}
use Rattle.cell_calc.specs.LookUpFunctions.{matches_summed}
use Rattle.cell_calc.specs.FunctionValues.{function_value}
use Rattle.cell_calc.proofs.functions.values.of_two.Goals as goal

pub returns-in_ok-value_of-in-SumIf : goal.returns-in_ok-value_of-in-SumIf
returns-in_ok-value_of-in-SumIf c = λ x y sx sy.
    subst (λ f. IfOk c.matches_summed.result (λ value. value ≡ function_value f (x ∷ y ∷ []))) (sym c.in-SumIf.is)
    (subst (λ k. IfOk c.matches_summed.result (λ value. value ≡ matches_summed x k x))
    (c.in_ok-value_of-in-SumIf.ensures y sy) (c.matches_summed.ensures x x sx sx))
