use Rattle.std.proofs.Common.{ap, sym, ◌∙◌}
use Rattle.std.proofs.lemmas.Result.{IfOk-weaker}
use Rattle.cell_calc.specs.Arguments.{value_of_cells}
use Rattle.cell_calc.specs.Book.{cells_of}
use Rattle.cell_calc.specs.Known.{book_read, value_read}
use Rattle.cell_calc.proofs.OneCell.{value_of_one}
use Rattle.cell_calc.proofs.known.KnownCellsCellReader.value_alone.Goals as goal

pub returns-in-Some : goal.returns-in-Some
returns-in-Some g c =
    let contents = g.C.CellsOf.contents c.args.self.now.cells.now in
    let known = g.V.ValuesOf.known c.args.self.now.values.now in
    let book = book_read contents known in
    let read = value_read contents known in
    IfOk-weaker c.value_at.result _ _
    (λ value is. is ∙ sym (value_of_one book read c.args.area.now.sheet c.in-Some.row c.in-Some.column)
    ∙ ap (λ area. value_of_cells (cells_of book read area).values) (sym c.in-Some.ensures))
    c.value_at.ensures

pub returns-in_ok-cells-in-None : goal.returns-in_ok-cells-in-None
returns-in_ok-cells-in-None g c = c.value_of_cells.ensures _ c.in_ok-cells-in-None.ensures
