use Rattle.cell_calc.specs.Marks.{marks_of}
use Rattle.cell_calc.specs.Walk.{Goes}
use Rattle.cell_calc.proofs.walk.follow.Given as goal

-- marks and path so far come of those at the start
abbrev pub invariant-loop-turn : goal.invariant-loop-turn
invariant-loop-turn g l =
    Goes (g.C.CellsOf.contents l.cells) (marks_of l.initial.table) l.initial.path.items (marks_of l.table) l.path.items
