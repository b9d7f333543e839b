use Rattle.std.proofs.Common.{false}
use Rattle.std.proofs.lemmas.Result.{err_from_is_err_and}
use Rattle.values_api.specs.Rest.{rest_cleared}
use Rattle.request_kinds.specs.UpdateCells.{rest_emptied}
use Rattle.request_kinds.specs.TellingLaws.{update_made}
use Rattle.request_kinds.proofs.WritingRows.{rows_refused, rows_written}
use Rattle.request_kinds.proofs.update_cells.fill.Goals as goal

pub returns-in_err-put_values : goal.returns-in_err-put_values
returns-in_err-put_values c =
    let p = err_from_is_err_and c.from_residual-in_err-put_values.result c.from_residual-in_err-put_values.ensures.1 in
    rw (p.1, p.2)
    (rows_refused (rest_emptied c.args.area.now c.args.rows.now) c.args.rows.now false c.args.book.now
    c.empty_rest.new.book
    c.put_values.new.book c.args.area.now
    (update_made c.updates_are_changes.ensures c.args.area.now.sheet (rest_cleared c.args.area.now c.args.rows.now)
    c.args.book.now
    c.empty_rest.new.book c.in_ok-empty_rest.ensures.cleared)
    c.in_err-put_values.field-0.0 c.in_err-put_values.ensures.written)

pub returns : goal.returns
returns c =
    rows_written (rest_emptied c.args.area.now c.args.rows.now) c.args.rows.now false c.args.book.now
    c.empty_rest.new.book
    c.put_values.new.book c.args.area.now
    (update_made c.updates_are_changes.ensures c.args.area.now.sheet (rest_cleared c.args.area.now c.args.rows.now)
    c.args.book.now
    c.empty_rest.new.book c.in_ok-empty_rest.ensures.cleared)
    c.changes_in_turn.ensures c.updates_are_changes.ensures c.in_ok-put_values.field-0
    c.in_ok-put_values.ensures.written
