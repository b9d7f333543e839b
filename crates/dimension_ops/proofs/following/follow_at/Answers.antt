use Rattle.std.proofs.Common.{◌≡◌, ap, ◌∙◌, cond, arith}
use Rattle.std.specs.Prelude.{Some, is_ok}
use Rattle.world_model.specs.Counts.{formulas_at, formulas_in, is_formula}
use Rattle.dimension_ops.proofs.Formulas.{formula_stays}
use Rattle.dimension_ops.proofs.Marked.{keeps_at}
use Rattle.dimension_ops.proofs.following.follow_at.Goals as goal

pub returns-in-Ok-clause-formulas : goal.returns-in-Ok-clause-formulas
returns-in-Ok-clause-formulas c =
    let made = c.get_mut.follows.holds c.follow_content.new.content (ap is_ok c.in-Ok.is) in
    let written = c.formulas_counted.ensures.written c.args.cells.now.table c.args.row c.args.column
    (Some c.follow_content.new.content) in
    let was = ap formulas_at c.in-Ok.ensures.item in
    let alike = ap is_formula c.follow_content.ensures
    ∙ formula_stays c.args.by.now.sheet c.args.by.now.axis c.args.by.now.count c.args.by.now.change.now
    c.in-Ok.content.now in
    let still : formulas_at (Some c.follow_content.new.content) ≡ formulas_at (Some c.in-Ok.content.now) =
    ap (λ b. cond b 1 0) alike in
    keeps_at c.args.cells.now.table _ c.args.row c.args.column c.in-Ok.content.now
    c.follow_content.new.content made c.in-Ok.ensures.item alike
    (ap formulas_in made ∙ omega (arith, written, was, still))
