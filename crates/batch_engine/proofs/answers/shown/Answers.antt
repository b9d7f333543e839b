use Rattle.std.proofs.lemmas.Result.{err_from_is_err_and}
use Rattle.values_api.specs.Ranges.{Resolves}
use Rattle.batch_engine.specs.Values.{IsRead}
use Rattle.batch_engine.proofs.Ranged.{range_refused, read_done}
use Rattle.batch_engine.proofs.answers.shown.Goals as goal

pub returns-in_err-area-clause-shown : goal.returns-in_err-area-clause-shown
returns-in_err-area-clause-shown c =
    let p = err_from_is_err_and c.from_residual.result c.from_residual.ensures.1 in
    rw (p.1, p.2)
    (range_refused (Resolves c.args.range.now c.args.book.now) c.args.book.now.sheets
    (IsRead c.args.book.now c.args.dimension c.args.render) c.in_err-area.field-0.0 c.in_err-area.ensures.resolved)

pub returns-clause-shown : goal.returns-clause-shown
returns-clause-shown c =
    read_done c.args.dimension c.args.render c.args.book.now c.args.range.now
    (c.in_ok-area.area, c.in_ok-area.field-0-1) c.in_ok-shown_area.field-0 c.in_ok-area.ensures.resolved
    c.in_ok-shown_area.ensures.shown
