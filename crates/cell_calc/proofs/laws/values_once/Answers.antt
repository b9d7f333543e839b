use Rattle.cell_calc.proofs.OneValue.{values_once}
use Rattle.cell_calc.proofs.laws.values_once.Goals as goal

pub returns : goal.returns
returns c = values_once c.has_one_tree.ensures.tree
