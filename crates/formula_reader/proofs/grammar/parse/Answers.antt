use Rattle.std.proofs.Common.{sym, ◌∙◌, ap, subst}
use Rattle.std.specs.Prelude.{Option, option_map}
use Rattle.std.specs.Bool.{then_some}
use Rattle.formula_reader.specs.declared.tree.Tree.{Tree}
use Rattle.formula_reader.specs.Grammar.{HasTree}
use Rattle.formula_reader.specs.Only.{IsOnly}
use Rattle.formula_reader.specs.Tree.{expression_of}
use Rattle.formula_reader.proofs.Whole.{whole_tree, whole_none}
use Rattle.formula_reader.proofs.grammar.parse.Goals as goal

pub returns-in-None : goal.returns-in-None
returns-in-None c = whole_none c.args.symbols.now (rw c.in-None.is at c.in_ok-tree.ensures)

pub returns-in-Some : goal.returns-in-Some
returns-in-Some c =
    subst (λ (answer : Option Tree). IsOnly (HasTree c.args.symbols.now) (option_map expression_of answer))
    (sym (c.then_some.ensures ∙ ap (λ b. then_some b c.in-Some.tree) c.is_empty.ensures))
    (whole_tree c.args.symbols.now c.in-Some.tree c.in-Some.rest.now (rw c.in-Some.is at c.in_ok-tree.ensures))
