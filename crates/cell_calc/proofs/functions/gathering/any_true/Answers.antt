use Rattle.std.specs.List.{list_any}
use Rattle.cell_calc.proofs.functions.gathering.any_true.Goals as goal

pub returns : goal.returns
returns c = c.truth_by.ensures (list_any (λ truth. truth)) c.is_any_true.ensures
