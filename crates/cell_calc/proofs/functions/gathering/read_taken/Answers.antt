use Rattle.std.proofs.Common.{◌≡◌, subst, map, ap, ◌∙◌}
use Rattle.std.specs.Prelude.{IfOk}
use Rattle.cell_calc.specs.GatheringFunctions.{all_good}
use Rattle.cell_calc.specs.Taken.{values_of}
use Rattle.cell_calc.proofs.functions.gathering.read_taken.Goals as goal

pub returns : goal.returns
returns g c =
    subst (λ values. IfOk c.all_read.result (λ all. all ≡ all_good (map g.T.Reading.reading values)))
    (ap values_of c.as_slice.ensures.value ∙ c.in_ok-values.ensures) c.all_read.ensures
