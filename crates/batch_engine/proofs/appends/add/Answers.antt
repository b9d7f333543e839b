use Rattle.std.proofs.lemmas.Result.{err_from_is_err_and}
use Rattle.batch_engine.proofs.Appended.{append_done, append_refused}
use Rattle.batch_engine.proofs.appends.add.Goals as goal

pub returns-in_err-table : goal.returns-in_err-table
returns-in_err-table c =
    let p = err_from_is_err_and c.from_residual.result c.from_residual.ensures.1 in
    rw (p.1, p.2)
    (append_refused c.args.user.now c.args.insert c.args.block.now c.args.area.now c.args.book.now
    c.append_values.new.book
    c.in_err-table.field-0.0 c.in_err-table.ensures.appended)

pub returns : goal.returns
returns c =
    append_done c.args.user.now c.args.insert c.args.block.now c.args.area.now c.args.book.now c.append_values.new.book
    c.in_ok-table.table c.in_ok-table.written c.in_ok-table_range.table_range c.in_ok-update_of.field-0
    c.in_ok-table.ensures.appended c.in_ok-table_range.ensures c.in_ok-update_of.ensures
