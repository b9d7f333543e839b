use Rattle.std.proofs.Common.{[], subst}
use Rattle.std.proofs.lemmas.Result.{on_ok_weaker}
use Rattle.cell_calc.specs.Marks.{keyed_place, marks_of}
use Rattle.cell_calc.specs.Walk.{Meets}
use Rattle.cell_calc.proofs.Going.{meets_on}
use Rattle.cell_calc.proofs.walk.settle.Goals as goal

pub returns : goal.returns
returns g c = λ at.
    let contents = g.C.CellsOf.contents c.args.cells.now in
    on_ok_weaker c.follow.result
    (λ goes.
    subst (λ l. Meets contents (keyed_place c.args.place) (marks_of c.args.table.now) l
    (marks_of c.follow.new.table) [])
    c.new-path.ensures.items (meets_on contents _ _ _ _ _ _ _ (c.in_ok-meet_formula.ensures at) goes))
    c.follow.ensures
