use Rattle.std.proofs.lemmas.Result.{err_from_is_err_and}
use Rattle.values_api.specs.Ranges.{Resolves}
use Rattle.batch_engine.specs.Values.{IsClear}
use Rattle.batch_engine.proofs.Ranged.{change_refused, emptied_done, emptied_refused}
use Rattle.batch_engine.proofs.answers.emptied.Goals as goal

pub returns-in_err-area : goal.returns-in_err-area
returns-in_err-area c =
    let p = err_from_is_err_and c.from_residual.result c.from_residual.ensures.1 in
    rw (p.1, p.2)
    (change_refused (Resolves c.args.range.now c.args.book.now) c.args.book.now.sheets
    (IsClear c.args.user.now c.args.book.now) c.args.book.now
    c.args.book.now c.in_err-area.field-0.0 c.in_err-area.ensures.resolved)

pub returns-in_err-clear_values : goal.returns-in_err-clear_values
returns-in_err-clear_values c =
    let p = err_from_is_err_and c.from_residual-in_err-clear_values.result
    c.from_residual-in_err-clear_values.ensures.1 in
    rw (p.1, p.2)
    (emptied_refused c.args.user.now c.args.range.now c.args.book.now c.clear_values.new.book
    (c.in_ok-area.area, c.in_ok-area.field-0-1) c.in_ok-text.text c.in_ok-area.ensures.resolved c.in_ok-text.ensures
    c.in_err-clear_values.field-0.0 c.in_err-clear_values.ensures.told)

pub returns : goal.returns
returns c =
    emptied_done c.args.user.now c.args.range.now c.args.book.now c.clear_values.new.book
    (c.in_ok-area.area, c.in_ok-area.field-0-1) c.in_ok-text.text c.in_ok-area.ensures.resolved c.in_ok-text.ensures
    c.updates_are_changes.ensures c.in_ok-clear_values.ensures.told c.in_ok-clear_values.ensures.cleared
