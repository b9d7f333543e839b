use Rattle.std.proofs.Common.{◌≡◌}
use Rattle.std.proofs.lemmas.Result.{IfOk-weaker}
use Rattle.batch_engine.specs.Looks.{IsSpreadsheetShown, with_sheets}
use Rattle.batch_engine.proofs.Looking.{sheets_shown}
use Rattle.batch_engine.proofs.looks.spreadsheet_of.Goals as goal

pub returns : goal.returns
returns c =
    let user = c.args.user.now in
    let book = c.args.book.now in
    let sheets = c.in_ok-sheets.sheets in
    IfOk-weaker c.with_sheets.result (λ shown. shown ≡ with_sheets book sheets)
    (IsSpreadsheetShown user c.args.wanted book)
    (λ shown is. sheets_shown user book c.args.wanted sheets shown c.in_ok-sheets.ensures is) c.with_sheets.ensures
