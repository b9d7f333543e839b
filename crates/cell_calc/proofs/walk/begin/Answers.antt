use Rattle.cell_calc.proofs.Going.{tree_at}
use Rattle.cell_calc.proofs.walk.begin.Goals as goal

pub returns : goal.returns
returns g c = λ at none. c.begin_tree.ensures (tree_at _ _ _ _ at c.in_ok-tree.ensures) none
