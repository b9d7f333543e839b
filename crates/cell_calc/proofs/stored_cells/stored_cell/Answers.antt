use Rattle.std.proofs.Common.{refl, sym, subst}
use Rattle.std.proofs.lemmas.Result.{IfOk-weaker}
use Rattle.cell_calc.specs.Calculated.{one_cell}
use Rattle.cell_calc.specs.Contents.{AreStoredCells}
use Rattle.cell_calc.proofs.OneCell.{one_stored, nothing_stored}
use Rattle.cell_calc.proofs.stored_cells.stored_cell.Goals as goal

pub returns-in-Some : goal.returns-in-Some
returns-in-Some g c =
    let contents = g.C.CellsOf.contents c.args.cells.now in
    let area = one_cell c.args.sheet c.args.row c.args.column in
    IfOk-weaker c.alone.result _ _
    (λ cells is. subst (AreStoredCells contents area) (sym is)
    (one_stored contents c.args.sheet c.args.row c.args.column
    (record { row = c.args.row; column = c.args.column; content = c.in-Some.content }) refl refl
    (sym c.in-Some.ensures)))
    c.alone.ensures

pub returns-in-None : goal.returns-in-None
returns-in-None g c =
    let contents = g.C.CellsOf.contents c.args.cells.now in
    subst (AreStoredCells contents (one_cell c.args.sheet c.args.row c.args.column)) (sym c.new.ensures.items)
    (nothing_stored contents c.args.sheet c.args.row c.args.column (sym c.in-None.ensures))
