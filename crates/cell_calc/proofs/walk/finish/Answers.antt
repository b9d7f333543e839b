use Rattle.std.proofs.lemmas.Result.{on_ok_weaker}
use Rattle.cell_calc.specs.Marks.{marks_of}
use Rattle.cell_calc.proofs.Going.{finished_by}
use Rattle.cell_calc.proofs.walk.finish.Goals as goal

pub returns : goal.returns
returns g c = λ frame below place tree rest.
    on_ok_weaker c.set.result
    (λ marked. finished_by (g.C.CellsOf.contents c.args.cells.now) (marks_of c.args.table.now) frame below c.args.place
    c.args.tree.now place tree rest c.in_ok-value.value c.in_ok-value.ensures (marks_of c.set.new.self) marked)
    c.set.ensures
