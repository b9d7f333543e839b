use Rattle.std.proofs.Common.{ap, ◌∙◌, pos, List}
use Rattle.std.specs.Prelude.{count_by, is_ok}
use Rattle.cell_value.specs.declared.cell.Value.{Value}
use Rattle.cell_calc.specs.declared.functions.gathering.Taking.TheVariants.{Numbers}
use Rattle.cell_calc.specs.Conversion.{number_of}
use Rattle.cell_calc.specs.Outcome.{whole}
use Rattle.cell_calc.specs.Taken.{values_of}
use Rattle.cell_calc.proofs.Taking.{all_taken_given}
use Rattle.cell_calc.proofs.functions.gathering.count_value.Goals as goal

pub returns : goal.returns
returns c = λ given stand.
    c.numbers_counted.ensures
    ∙ ap (λ (values : List Value). whole (pos (count_by (λ value. is_ok (number_of value)) values)))
    (ap values_of c.as_slice.ensures.value ∙ c.in_ok-values.ensures
    ∙ all_taken_given Numbers c.args.arguments.now given stand)
