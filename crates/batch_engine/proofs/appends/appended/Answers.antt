use Rattle.std.proofs.Common.{subst, sym, Err}
use Rattle.std.proofs.lemmas.Result.{err_from_is_err_and}
use Rattle.dimension_ops.specs.Rules.{IsUnlessNoMemory}
use Rattle.request_kinds.specs.Telling.{IsDoneTo}
use Rattle.batch_engine.specs.Ranges.{IsTarget}
use Rattle.batch_engine.specs.Values.{IsAppendOn, IsAppended}
use Rattle.batch_engine.proofs.Ranged.{change_refused, done_there}
use Rattle.batch_engine.proofs.appends.appended.Goals as goal

pub returns-in_err-area-in-Ok : goal.returns-in_err-area-in-Ok
returns-in_err-area-in-Ok c =
    let p = err_from_is_err_and c.from_residual.result c.from_residual.ensures.1 in
    rw (p.1, p.2)
    (subst (λ values. IsUnlessNoMemory
    (IsDoneTo (IsAppended c.args.user.now c.args.range.now c.args.insert c.args.book.now values) c.args.book.now
    c.args.book.now) (Err c.in_err-area-in-Ok.field-0.0)) (sym c.in-Ok.is)
    (change_refused (IsTarget c.args.range.now c.in-Ok.values.range c.args.book.now) c.args.book.now.sheets
    (λ found. IsAppendOn c.args.user.now c.args.book.now c.args.insert c.in-Ok.values.block found.0) c.args.book.now
    c.args.book.now c.in_err-area-in-Ok.field-0.0
    (subst (λ body. IsUnlessNoMemory (IsTarget c.args.range.now body c.args.book.now)
    (Err c.in_err-area-in-Ok.field-0.0)) c.as_ref.ensures.value c.in_err-area-in-Ok.ensures.found)))

pub returns-in_ok-area-in-Ok : goal.returns-in_ok-area-in-Ok
returns-in_ok-area-in-Ok c =
    subst (λ values. IsUnlessNoMemory
    (IsDoneTo (IsAppended c.args.user.now c.args.range.now c.args.insert c.args.book.now values) c.args.book.now
    c.add.new.book) c.add.result) (sym c.in-Ok.is)
    (done_there (IsTarget c.args.range.now c.in-Ok.values.range c.args.book.now) c.args.book.now.sheets
    (λ found. IsAppendOn c.args.user.now c.args.book.now c.args.insert c.in-Ok.values.block found.0) c.args.book.now
    c.add.new.book
    (c.in_ok-area-in-Ok.area, c.in_ok-area-in-Ok.field-0-1)
    (rw c.as_ref.ensures.value at c.in_ok-area-in-Ok.ensures.found)
    c.add.result c.add.ensures)
