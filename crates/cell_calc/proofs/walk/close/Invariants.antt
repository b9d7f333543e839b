use Rattle.std.proofs.Common.{length, Option}
use Rattle.cell_calc.specs.declared.mark.Mark.{Mark}
use Rattle.cell_calc.specs.Book.{Place}
use Rattle.cell_calc.specs.Marks.{marks_of}
use Rattle.cell_calc.specs.Walk.{Closes}
use Rattle.cell_calc.proofs.walk.close.Given as goal

-- what the rest of the path comes to is what the whole path comes to
abbrev pub invariant-loop-frame : goal.invariant-loop-frame
invariant-loop-frame l =
    (last : Place → Option Mark) → Closes (marks_of l.table) l.path.items last
    → Closes (marks_of l.initial.table) l.initial.path.items last

abbrev pub decreases-loop-frame : goal.decreases-loop-frame
decreases-loop-frame l = length l.path.items
