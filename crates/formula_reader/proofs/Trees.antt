-- The arguments of a tree, as the list that they are.
use Rattle.std.proofs.Common.{◌≡◌, map, refl, ap}
use Rattle.formula_reader.specs.declared.tree.Tree.{Row_of-Tree, end_of-Tree, more_of-Tree}
use Rattle.formula_reader.specs.declared.tree.Tree.TheBlock.{items-the_row-Tree}
use Rattle.formula_reader.specs.Tree.{expression_of, arguments_of, no_arguments, argument, arguments_before}

pub listed : (n : _) (trees : Row_of-Tree n)
    → arguments_of trees ≡ arguments_before (map expression_of (items-the_row-Tree n trees)) no_arguments
listed _ end_of-Tree = refl
listed _ (more_of-Tree tree trees) = ap (argument (expression_of tree)) (listed _ trees)
