use Rattle.std.proofs.Common.{◌≡◌, false}
use Rattle.std.proofs.lemmas.Result.{IfOk-weaker}
use Rattle.batch_engine.specs.Looks.{IsSpreadsheetShown, spreadsheet_alone}
use Rattle.batch_engine.proofs.Looking.{shown_alone}
use Rattle.batch_engine.proofs.looks.spreadsheet_alone.Goals as goal

pub returns : goal.returns
returns c =
    IfOk-weaker c.spreadsheet_of.result (IsSpreadsheetShown c.args.user.now false c.args.book.now)
    (λ shown. shown ≡ spreadsheet_alone c.args.user.now c.args.book.now)
    (λ shown is. shown_alone c.args.user.now c.args.book.now shown is) c.spreadsheet_of.ensures
