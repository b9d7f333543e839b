use Rattle.std.proofs.Common.{Err, Ok, subst}
use Rattle.std.proofs.lemmas.Result.{err_from_is_err_and}
use Rattle.dimension_ops.specs.Rules.{IsUnlessNoMemory}
use Rattle.sheets_json.specs.declared.answer.Answer.TheVariants as answer
use Rattle.request_kinds.specs.Telling.{IsDoneTo}
use Rattle.batch_engine.specs.Values.{IsAppended, inserts}
use Rattle.batch_engine.proofs.Ranged.{made_alone, refused_alone}
use Rattle.batch_engine.proofs.appends.append.Goals as goal

pub returns-in_err-table_range : goal.returns-in_err-table_range
returns-in_err-table_range c =
    let p = err_from_is_err_and c.from_residual-in_err-table_range.result
    c.from_residual-in_err-table_range.ensures.1 in
    rw (p.1, p.2)
    (refused_alone
    (IsAppended c.args.user.now c.args.range.now (inserts c.args.option) c.args.book.now c.args.values.now)
    (λ made. answer.Append c.args.book.now.id made.0 made.1) c.args.book.now c.appended.new.book
    c.in_err-table_range.field-0.0
    (subst (λ insert. IsUnlessNoMemory
    (IsDoneTo (IsAppended c.args.user.now c.args.range.now insert c.args.book.now c.args.values.now)
    c.args.book.now c.appended.new.book) (Err c.in_err-table_range.field-0.0)) c.inserts-insert.ensures
    (subst (λ book. IsUnlessNoMemory (IsDoneTo (IsAppended c.args.user.now c.args.range.now c.inserts-insert.result book
    c.args.values.now) book c.appended.new.book) (Err c.in_err-table_range.field-0.0)) c.in_ok-after.ensures
    c.in_err-table_range.ensures)))

pub returns : goal.returns
returns c =
    rw (c.in_ok-spreadsheet_id.ensures, c.id.ensures)
    (made_alone (IsAppended c.args.user.now c.args.range.now (inserts c.args.option) c.args.book.now c.args.values.now)
    (λ made. answer.Append c.args.book.now.id made.0 made.1) c.args.book.now c.appended.new.book
    (c.in_ok-table_range.table_range, c.in_ok-table_range.updates)
    (subst (λ insert. IsDoneTo (IsAppended c.args.user.now c.args.range.now insert c.args.book.now c.args.values.now)
    c.args.book.now c.appended.new.book (Ok (c.in_ok-table_range.table_range, c.in_ok-table_range.updates)))
    c.inserts-insert.ensures
    (subst (λ book. IsDoneTo
    (IsAppended c.args.user.now c.args.range.now c.inserts-insert.result book c.args.values.now) book
    c.appended.new.book (Ok (c.in_ok-table_range.table_range, c.in_ok-table_range.updates))) c.in_ok-after.ensures
    c.in_ok-table_range.ensures)))
