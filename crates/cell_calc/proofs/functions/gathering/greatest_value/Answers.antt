use Rattle.std.proofs.Common.{ap, ◌∙◌}
use Rattle.std.specs.Int.{int_max}
use Rattle.cell_calc.specs.Outcome.{whole, value_by}
use Rattle.cell_calc.specs.GatheringFunctions.{best_of}
use Rattle.cell_calc.proofs.functions.gathering.greatest_value.Goals as goal

pub returns : goal.returns
returns c = λ given stand. c.greatest_of.ensures
    ∙ ap (value_by (λ numbers. whole (best_of int_max numbers))) (c.in_ok-gathered.ensures given stand)
