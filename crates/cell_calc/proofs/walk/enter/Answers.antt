use Rattle.std.proofs.Common.{◌++◌, ap, subst, ◌∙◌}
use Rattle.std.proofs.lemmas.Result.{on_ok_weaker}
use Rattle.formula_reader.specs.Tree.{expression_of}
use Rattle.cell_calc.specs.CellValue.{areas_of}
use Rattle.cell_calc.specs.Marks.{keyed_place, marks_of}
use Rattle.cell_calc.specs.Walk.{AreAreasSettled}
use Rattle.cell_calc.proofs.Going.{evaluated, entered_by}
use Rattle.cell_calc.proofs.walk.enter.Goals as goal

pub returns-in_ok-value : goal.returns-in_ok-value
returns-in_ok-value g c = λ at none.
    let contents = g.C.CellsOf.contents c.args.cells.now in
    let all = c.in_ok-add_areas.ensures
    ∙ ap (λ l. l ++ areas_of contents.named (expression_of c.args.tree)) c.new-rest.ensures.items in
    on_ok_weaker c.set.result
    (λ marked. evaluated contents (keyed_place c.args.place) (marks_of c.args.table.now) c.args.path.now.items
    (expression_of c.args.tree) c.add_areas.new.areas.items c.in_ok-value.value
    (subst (AreAreasSettled contents (marks_of c.args.table.now)) c.as_slice.ensures.value
    (c.in_ok-are_settled.ensures c.if-branch.true))
    all c.in_ok-value.ensures at (marks_of c.set.new.self) marked)
    c.set.ensures

pub returns-else-branch : goal.returns-else-branch
returns-else-branch g c = λ at none.
    let contents = g.C.CellsOf.contents c.args.cells.now in
    let all = c.in_ok-add_areas.ensures
    ∙ ap (λ l. l ++ areas_of contents.named (expression_of c.args.tree)) c.new-rest.ensures.items in
    on_ok_weaker c.put_on.result
    (entered_by contents (marks_of c.args.table.now) c.args.path.now.items c.args.place c.args.tree at none all _ _)
    c.put_on.ensures
