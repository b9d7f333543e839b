use Rattle.std.proofs.Common.{sym, subst}
use Rattle.cell_calc.specs.Marks.{keyed_place, marks_of}
use Rattle.cell_calc.specs.Walk.{Meets}
use Rattle.cell_calc.proofs.Popped.{both_on_ok}
use Rattle.cell_calc.proofs.Closing.{found_new}
use Rattle.cell_calc.proofs.Going.{closed, settled}
use Rattle.cell_calc.proofs.walk.meet_formula.Goals as goal

pub returns-in-New : goal.returns-in-New
returns-in-New g c = λ at. c.begin.ensures at (found_new _ (sym c.in-New.ensures))

pub returns-in-Circular : goal.returns-in-Circular
returns-in-Circular g c = λ at.
    let contents = g.C.CellsOf.contents c.args.cells.now in
    both_on_ok c.close.result
    (λ closes none.
    subst (Meets contents (keyed_place c.args.place) (marks_of c.args.table.now) c.args.path.now.items
    (marks_of c.close.new.table))
    (sym none) (closed contents _ _ _ (sym c.in-Circular.ensures) _ closes))
    c.close.ensures.all c.close.ensures.none

pub returns-in-Settled : goal.returns-in-Settled
returns-in-Settled g c = λ at. settled _ _ _ _ (sym c.in-Settled.ensures)
