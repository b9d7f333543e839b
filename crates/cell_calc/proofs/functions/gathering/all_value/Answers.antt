use Rattle.std.proofs.Common.{ap, ◌∙◌}
use Rattle.std.specs.List.{list_all}
use Rattle.cell_calc.specs.Outcome.{value_by}
use Rattle.cell_calc.specs.GatheringFunctions.{truth_by}
use Rattle.cell_calc.proofs.functions.gathering.all_value.Goals as goal

pub returns : goal.returns
returns c = λ given stand. c.all_of.ensures
    ∙ ap (value_by (truth_by (list_all (λ truth. truth)))) (c.in_ok-gathered.ensures given stand)
