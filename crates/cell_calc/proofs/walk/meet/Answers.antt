use Rattle.std.proofs.Common.{sym}
use Rattle.cell_calc.proofs.Going.{passed_over}
use Rattle.cell_calc.proofs.walk.meet.Goals as goal

pub returns-in-Some : goal.returns-in-Some
returns-in-Some g c = c.meet_content.ensures (sym c.in-Some.ensures)

pub returns-in-None : goal.returns-in-None
returns-in-None g c = passed_over _ _ _ _
