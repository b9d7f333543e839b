use Rattle.std.proofs.Common.{ap, ◌∙◌}
use Rattle.std.specs.List.{list_any}
use Rattle.cell_calc.specs.Outcome.{value_by}
use Rattle.cell_calc.specs.GatheringFunctions.{truth_by}
use Rattle.cell_calc.proofs.functions.gathering.any_value.Goals as goal

pub returns : goal.returns
returns c = λ given stand. c.any_of.ensures
    ∙ ap (value_by (truth_by (list_any (λ truth. truth)))) (c.in_ok-gathered.ensures given stand)
