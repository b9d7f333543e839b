use Rattle.std.proofs.Common.{◌≡◌, List, rules, map, ap, ◌∙◌}
use Rattle.formula_reader.specs.declared.tree.Tree.{Tree}
use Rattle.formula_reader.specs.declared.tree.Tree.TheBlock.{items-the_row-Tree, hidden-the_row-Tree-0}
use Rattle.formula_reader.specs.declared.tree.Tree.TheViews.{the_lemmas}
use Rattle.formula_reader.specs.Tree.{expression_of, call, no_arguments, arguments_before}
use Rattle.formula_reader.proofs.Trees.{listed}
use Rattle.formula_reader.proofs.tree.Tree.call.Goals as goal

pub returns : goal.returns
returns c =
    let same : items-the_row-Tree _ (hidden-the_row-Tree-0 c.of.result) ≡ c.of.result = search (rules, the_lemmas) in
    ap (call c.args.name)
    (listed _ (hidden-the_row-Tree-0 c.of.result)
    ∙ ap (λ (trees : List Tree). arguments_before (map expression_of trees) no_arguments) (same ∙ c.of.ensures))
