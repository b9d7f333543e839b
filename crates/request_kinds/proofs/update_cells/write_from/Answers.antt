use Rattle.std.proofs.Common.{[], true}
use Rattle.std.proofs.lemmas.Result.{err_from_is_err_and}
use Rattle.request_kinds.proofs.WritingRows.{rows_refused, rows_written}
use Rattle.request_kinds.proofs.update_cells.write_from.Goals as goal

pub returns-in_err-put_values : goal.returns-in_err-put_values
returns-in_err-put_values c =
    let p = err_from_is_err_and c.from_residual.result c.from_residual.ensures.1 in
    rw (p.1, p.2)
    (rows_refused [] c.args.rows.now true c.args.book.now c.args.book.now c.put_values.new.book c.args.area.now
    (c.changes_in_turn.ensures.none c.args.book.now) c.in_err-put_values.field-0.0 c.in_err-put_values.ensures.written)

pub returns : goal.returns
returns c =
    rows_written [] c.args.rows.now true c.args.book.now c.args.book.now c.put_values.new.book c.args.area.now
    (c.changes_in_turn.ensures.none c.args.book.now) c.changes_in_turn.ensures c.updates_are_changes.ensures
    c.in_ok-put_values.field-0 c.in_ok-put_values.ensures.written
