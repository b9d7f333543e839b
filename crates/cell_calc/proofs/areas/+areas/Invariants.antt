use Rattle.std.proofs.Common.{◌≡◌, ◌++◌, take}
use Rattle.std.specs.Prelude.{flat_map}
use Rattle.formula_reader.specs.Tree.{expression_of}
use Rattle.cell_calc.specs.CellValue.{areas_of}
use Rattle.cell_calc.proofs.areas.+areas.Given as goal

-- the areas of the trees so far are behind the others
abbrev pub invariant-add_all_areas-loop-tree : goal.invariant-add_all_areas-loop-tree
invariant-add_all_areas-loop-tree g l =
    l.areas.items ≡ l.initial.areas.items
    ++ flat_map (λ tree. areas_of (g.C.CellsOf.contents l.cells).named (expression_of tree)) (take l.tree-index l.trees)
