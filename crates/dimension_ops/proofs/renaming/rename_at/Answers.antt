use Rattle.std.proofs.Common.{◌≡◌, ap, ◌∙◌, cond, arith}
use Rattle.std.specs.Prelude.{Some, is_ok}
use Rattle.world_model.specs.Counts.{formulas_at, formulas_in}
use Rattle.dimension_ops.proofs.Marked.{keeps_at}
use Rattle.dimension_ops.proofs.RenamedWords.{still_formula}
use Rattle.dimension_ops.proofs.renaming.rename_at.Goals as goal

pub returns-in-Ok-clause-formulas : goal.returns-in-Ok-clause-formulas
returns-in-Ok-clause-formulas c =
    let made = c.get_mut.follows.holds c.rename_in.new.content (ap is_ok c.in-Ok.is) in
    let written = c.formulas_counted.ensures.written c.args.cells.now.table c.args.row c.args.column
    (Some c.rename_in.new.content) in
    let was = ap formulas_at c.in-Ok.ensures.item in
    let alike =
    still_formula c.args.old.now c.args.new.now c.rename_in.result c.in-Ok.content.now c.rename_in.new.content
    c.rename_in.ensures.renamed c.rename_in.ensures.unchanged in
    let still : formulas_at (Some c.rename_in.new.content) ≡ formulas_at (Some c.in-Ok.content.now) =
    ap (λ b. cond b 1 0) alike in
    keeps_at c.args.cells.now.table _ c.args.row c.args.column c.in-Ok.content.now
    c.rename_in.new.content made c.in-Ok.ensures.item alike (ap formulas_in made ∙ omega (arith, written, was, still))
