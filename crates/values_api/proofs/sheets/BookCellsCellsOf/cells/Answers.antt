use Rattle.std.proofs.Common.{sym}
use Rattle.std.proofs.lemmas.Result.{IfOk-weaker}
use Rattle.values_api.proofs.LentCells.{cells_of_sheet, cells_of_none}
use Rattle.values_api.proofs.sheets.BookCellsCellsOf.cells.Goals as goal

pub returns-in-Some : goal.returns-in-Some
returns-in-Some c =
    IfOk-weaker c.cells_on.result _ _
    (λ cells are. cells_of_sheet c.args.self.now.book.now c.args.area.now c.in-Some.sheet.now (sym c.in-Some.ensures)
    cells.items are)
    c.cells_on.ensures

pub returns-in-None : goal.returns-in-None
returns-in-None c =
    cells_of_none c.args.self.now.book.now c.args.area.now (sym c.in-None.ensures) _ c.new.ensures.items
