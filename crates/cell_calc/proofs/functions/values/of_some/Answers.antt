use Rattle.std.proofs.Common.{◌≡◌, subst, sym}
use Rattle.std.specs.Prelude.{IfOk}
use Rattle.cell_calc.specs.GatheringFunctions.{sum_value, least_value, greatest_value, count_value, count_all_value, all_value, any_value, joined_value}
use Rattle.cell_calc.specs.FunctionValues.{function_value}
use Rattle.cell_calc.proofs.Listed.{some_given}
use Rattle.cell_calc.proofs.functions.values.of_some.Goals as goal

pub returns-in-Sum : goal.returns-in-Sum
returns-in-Sum c = λ given stand.
    subst (λ f. IfOk c.sum_value.result (λ value. value ≡ function_value f given)) (sym c.in-Sum.is)
    (subst (λ x. IfOk c.sum_value.result (λ value. value ≡ x))
    (some_given sum_value c.args.arguments.now given stand c.requires.some)
    (c.sum_value.ensures given stand))

pub returns-in-Min : goal.returns-in-Min
returns-in-Min c = λ given stand.
    subst (λ f. IfOk c.least_value.result (λ value. value ≡ function_value f given)) (sym c.in-Min.is)
    (subst (λ x. IfOk c.least_value.result (λ value. value ≡ x))
    (some_given least_value c.args.arguments.now given stand c.requires.some)
    (c.least_value.ensures given stand))

pub returns-in-Max : goal.returns-in-Max
returns-in-Max c = λ given stand.
    subst (λ f. IfOk c.greatest_value.result (λ value. value ≡ function_value f given)) (sym c.in-Max.is)
    (subst (λ x. IfOk c.greatest_value.result (λ value. value ≡ x))
    (some_given greatest_value c.args.arguments.now given stand c.requires.some)
    (c.greatest_value.ensures given stand))

pub returns-in-Count : goal.returns-in-Count
returns-in-Count c = λ given stand.
    subst (λ f. IfOk c.count_value.result (λ value. value ≡ function_value f given)) (sym c.in-Count.is)
    (subst (λ x. IfOk c.count_value.result (λ value. value ≡ x))
    (some_given count_value c.args.arguments.now given stand c.requires.some)
    (c.count_value.ensures given stand))

pub returns-in-CountA : goal.returns-in-CountA
returns-in-CountA c = λ given stand.
    subst (λ f. IfOk c.count_all_value.result (λ value. value ≡ function_value f given)) (sym c.in-CountA.is)
    (subst (λ x. IfOk c.count_all_value.result (λ value. value ≡ x))
    (some_given count_all_value c.args.arguments.now given stand c.requires.some)
    (c.count_all_value.ensures given stand))

pub returns-in-And : goal.returns-in-And
returns-in-And c = λ given stand.
    subst (λ f. IfOk c.all_value.result (λ value. value ≡ function_value f given)) (sym c.in-And.is)
    (subst (λ x. IfOk c.all_value.result (λ value. value ≡ x))
    (some_given all_value c.args.arguments.now given stand c.requires.some)
    (c.all_value.ensures given stand))

pub returns-in-Or : goal.returns-in-Or
returns-in-Or c = λ given stand.
    subst (λ f. IfOk c.any_value.result (λ value. value ≡ function_value f given)) (sym c.in-Or.is)
    (subst (λ x. IfOk c.any_value.result (λ value. value ≡ x))
    (some_given any_value c.args.arguments.now given stand c.requires.some)
    (c.any_value.ensures given stand))

pub returns-in-Concatenate : goal.returns-in-Concatenate
returns-in-Concatenate c = λ given stand.
    subst (λ f. IfOk c.joined_value.result (λ value. value ≡ function_value f given)) (sym c.in-Concatenate.is)
    (subst (λ x. IfOk c.joined_value.result (λ value. value ≡ x))
    (some_given joined_value c.args.arguments.now given stand c.requires.some)
    (c.joined_value.ensures given stand))
