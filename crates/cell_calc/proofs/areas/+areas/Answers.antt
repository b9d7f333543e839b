use Rattle.std.proofs.Common.{◌≡◌, ◌++◌, rules, ap, sym, ◌∙◌}
use Rattle.std.specs.Prelude.{flat_map}
use Rattle.std.proofs.lemmas.Result.{on_ok_weaker}
use Rattle.formula_reader.specs.declared.tree.Tree.{Tree}
use Rattle.formula_reader.specs.declared.tree.Tree.TheBlock.{items-the_row-Tree, hidden-the_row-Tree-0}
use Rattle.formula_reader.specs.declared.tree.Tree.TheViews.{the_lemmas}
use Rattle.formula_reader.specs.Tree.{expression_of}
use Rattle.cell_calc.specs.CellValue.{areas_of}
use Rattle.cell_calc.proofs.AreasListed.{each_area, one_more_areas}
use Rattle.cell_calc.proofs.areas.+areas.Goals as goal

pub add_all_areas-loop-tree-preserved : goal.add_all_areas-loop-tree-preserved
add_all_areas-loop-tree-preserved g t c =
    let named = (g.C.CellsOf.contents c.args.cells.now).named in
    one_more_areas (λ tree. areas_of named (expression_of tree)) c.args.trees.now c.loop-tree.tree-index
    c.tree-item.result
    _ _ _ c.loop-tree-test.true c.tree-item.is c.loop-tree.invariant c.in_ok-add_areas.ensures

pub add_areas-returns-in-Call : goal.add_areas-returns-in-Call
add_areas-returns-in-Call g t c =
    let named = (g.C.CellsOf.contents c.args.cells.now).named in
    let own = hidden-the_row-Tree-0 c.in-Call.trees in
    let areas = λ (tree : Tree). areas_of named (expression_of tree) in
    let same : items-the_row-Tree _ own ≡ c.in-Call.trees = search (rules, the_lemmas) in
    let each : flat_map areas c.as_slice.result.now ≡ areas c.args.tree.now =
    ap (flat_map areas) (c.as_slice.ensures ∙ sym same) ∙ sym (each_area named _ own) ∙ sym (ap areas c.in-Call.is) in
    on_ok_weaker c.add_all_areas.result (λ now. now ∙ ap (λ l. c.args.areas.now.items ++ l) each)
    c.add_all_areas.ensures
