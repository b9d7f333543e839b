use Rattle.std.proofs.Common.{sym, subst, ◌∙◌}
use Rattle.cell_calc.specs.Contents.{IsStoredFormula}
use Rattle.cell_calc.specs.Marks.{marks_of}
use Rattle.cell_calc.proofs.Going.{settled_known}
use Rattle.cell_calc.proofs.OneCell.{one_settled}
use Rattle.cell_calc.proofs.walk.is_place_settled.Goals as goal

pub returns-in-Some : goal.returns-in-Some
returns-in-Some g c = λ is.
    one_settled (g.C.CellsOf.contents c.args.cells.now) c.args.sheet c.args.row c.args.column
    (marks_of c.args.table.now)
    (λ formed. settled_known _ c.in-Some.content.now (subst IsStoredFormula (sym c.in-Some.ensures) formed)
    (sym c.is_settled.ensures ∙ is))

pub returns-in-None : goal.returns-in-None
returns-in-None g c = λ is.
    one_settled (g.C.CellsOf.contents c.args.cells.now) c.args.sheet c.args.row c.args.column
    (marks_of c.args.table.now)
    (λ formed. absurd (subst IsStoredFormula (sym c.in-None.ensures) formed))
