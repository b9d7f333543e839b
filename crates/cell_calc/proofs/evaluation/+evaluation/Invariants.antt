use Rattle.std.proofs.Common.{map, take}
use Rattle.formula_reader.specs.Tree.{expression_of}
use Rattle.cell_calc.specs.Lent.{StandFor}
use Rattle.cell_calc.specs.FormulaValue.{given_by}
use Rattle.cell_calc.proofs.evaluation.+evaluation.Given as goal

-- the arguments so far stand for what the trees so far give
abbrev pub invariant-all_given-loop-tree : goal.invariant-all_given-loop-tree
invariant-all_given-loop-tree g l =
    StandFor l.arguments.items
    (map (λ tree. given_by (g.R.CellReader.book l.reader) (g.R.CellReader.read l.reader) (expression_of tree))
    (take l.tree-index l.trees))
