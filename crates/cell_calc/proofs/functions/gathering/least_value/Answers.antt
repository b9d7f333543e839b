use Rattle.std.proofs.Common.{ap, ◌∙◌}
use Rattle.std.specs.Int.{int_min}
use Rattle.cell_calc.specs.Outcome.{whole, value_by}
use Rattle.cell_calc.specs.GatheringFunctions.{best_of}
use Rattle.cell_calc.proofs.functions.gathering.least_value.Goals as goal

pub returns : goal.returns
returns c = λ given stand. c.least_of.ensures
    ∙ ap (value_by (λ numbers. whole (best_of int_min numbers))) (c.in_ok-gathered.ensures given stand)
