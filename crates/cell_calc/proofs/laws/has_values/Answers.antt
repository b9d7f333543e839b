use Rattle.cell_calc.proofs.EachValue.{has_values}
use Rattle.cell_calc.proofs.laws.has_values.Goals as goal

pub returns : goal.returns
returns c = has_values c.has_one_tree.ensures.tree
