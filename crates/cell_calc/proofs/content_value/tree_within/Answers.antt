use Rattle.std.proofs.Common.{option_map, refl, subst, sym}
use Rattle.std.proofs.lemmas.Result.{IfOk-weaker}
use Rattle.formula_reader.specs.Only.{IsOnly}
use Rattle.formula_reader.specs.Tree.{expression_of}
use Rattle.cell_calc.specs.Contents.{IsTreeWithin}
use Rattle.cell_calc.proofs.TreesWithin.{keeps, never_both, past, within}
use Rattle.cell_calc.proofs.content_value.tree_within.Goals as goal

pub returns-in-Ok : goal.returns-in-Ok
returns-in-Ok c =
    within c.args.text.now _
    (keeps c.args.text.now
    (λ symbols fault are passes. never_both _ _ _ (c.in-Ok.ensures.limits symbols fault are passes)))
    c.in-Ok.ensures.tree

pub returns-in-Err : goal.returns-in-Err
returns-in-Err c =
    IfOk-weaker c.past_limit.result _ _
    (λ tree none. subst (λ t. IsOnly (IsTreeWithin c.args.text.now) (option_map expression_of t)) (sym none.0)
    (past c.args.text.now c.in-Err.fault (c.in-Err.ensures.passed c.in-Err.fault refl) none.1))
    c.past_limit.ensures
