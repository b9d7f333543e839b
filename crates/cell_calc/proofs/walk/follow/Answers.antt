use Rattle.std.proofs.Common.{subst, arith}
use Rattle.cell_calc.specs.Marks.{marks_of}
use Rattle.cell_calc.specs.Walk.{Goes}
use Rattle.cell_calc.proofs.Popped.{popped, no_rest}
use Rattle.cell_calc.proofs.Going.{goes_nowhere, goes_on}
use Rattle.cell_calc.proofs.walk.follow.Goals as goal

pub loop-turn-init : goal.loop-turn-init
loop-turn-init g c = goes_nowhere _ _ _

pub loop-turn-preserved : goal.loop-turn-preserved
loop-turn-preserved g c =
    let contents = g.C.CellsOf.contents c.args.cells.now in
    let before = subst (Goes contents (marks_of c.args.table.now) c.args.path.items (marks_of c.loop-turn.table))
    (popped _ _ c.pop_front.result c.in-Some.frame c.pop_front.ensures.items c.in-Some.is) c.loop-turn.invariant in
    goes_on contents _ _ _ _ _ _ before c.in_ok-step-in-Some.ensures

pub returns-in-None : goal.returns-in-None
returns-in-None g c =
    subst (Goes (g.C.CellsOf.contents c.args.cells.now) (marks_of c.args.table.now) c.args.path.items
    (marks_of c.loop-turn.table))
    (no_rest c.loop-turn.path.items (omega (arith, c.loop-turn.path.ok, c.in-None.ensures.cases))) c.loop-turn.invariant
