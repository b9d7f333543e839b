use Rattle.std.proofs.Common.{ap, ◌∙◌, Some}
use Rattle.std.proofs.lemmas.Result.{on_ok_weaker}
use Rattle.cell_calc.proofs.Going.{passed, passed_over}
use Rattle.cell_calc.proofs.walk.meet_content.Goals as goal

pub returns-in-Formula : goal.returns-in-Formula
returns-in-Formula g c = λ at.
    on_ok_weaker c.meet_formula.result (passed _ _ _ _ _ _) (c.meet_formula.ensures (at ∙ ap Some c.in-Formula.is))

pub returns-in-Number : goal.returns-in-Number
returns-in-Number g c = λ at. passed_over _ _ _ _

pub returns-in-Number-2 : goal.returns-in-Number-2
returns-in-Number-2 g c = λ at. passed_over _ _ _ _

pub returns-in-Number-3 : goal.returns-in-Number-3
returns-in-Number-3 g c = λ at. passed_over _ _ _ _
