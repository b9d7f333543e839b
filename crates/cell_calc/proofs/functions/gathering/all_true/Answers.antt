use Rattle.std.specs.List.{list_all}
use Rattle.cell_calc.proofs.functions.gathering.all_true.Goals as goal

pub returns : goal.returns
returns c = c.truth_by.ensures (list_all (λ truth. truth)) c.are_all_true.ensures
