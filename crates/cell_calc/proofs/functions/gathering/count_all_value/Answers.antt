use Rattle.std.proofs.Common.{ap, ◌∙◌, pos, length, List}
use Rattle.cell_value.specs.declared.cell.Value.{Value}
use Rattle.cell_calc.specs.declared.functions.gathering.Taking.TheVariants.{Filled}
use Rattle.cell_calc.specs.Outcome.{whole}
use Rattle.cell_calc.specs.Taken.{values_of}
use Rattle.cell_calc.proofs.Taking.{all_taken_given}
use Rattle.cell_calc.proofs.functions.gathering.count_all_value.Goals as goal

pub returns : goal.returns
returns c = λ given stand.
    c.values_counted.ensures
    ∙ ap (λ (values : List Value). whole (pos (length values)))
    (ap values_of c.as_slice.ensures.value ∙ c.in_ok-values.ensures
    ∙ all_taken_given Filled c.args.arguments.now given stand)
