use Rattle.std.proofs.Common.{sym, ◌∙◌, ap}
use Rattle.std.specs.List.{list_all}
use Rattle.cell_calc.specs.Marks.{marks_of}
use Rattle.cell_calc.specs.Walk.{is_settled}
use Rattle.cell_calc.proofs.Going.{all_known}
use Rattle.cell_calc.proofs.Noting.{settled_each}
use Rattle.cell_calc.proofs.walk.are_cells_settled.Goals as goal

pub returns : goal.returns
returns g c = λ is.
    let contents = g.C.CellsOf.contents c.args.cells.now in
    let marks = marks_of c.args.table.now in
    let sheet = c.args.area.now.sheet in
    let stored = c.in_ok-stored.stored.items in
    all_known contents marks c.args.area.now stored c.in_ok-stored.ensures
    (settled_each marks sheet stored
    (ap (list_all (is_settled marks sheet)) (sym c.as_slice.ensures.value) ∙ sym c.all_settled.ensures ∙ is))
