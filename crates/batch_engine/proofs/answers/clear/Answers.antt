use Rattle.std.proofs.Common.{Ok, Err, subst}
use Rattle.std.proofs.lemmas.Result.{err_from_is_err_and}
use Rattle.dimension_ops.specs.Rules.{IsUnlessNoMemory}
use Rattle.sheets_json.specs.declared.answer.Answer.TheVariants as answer
use Rattle.request_kinds.specs.Telling.{IsDoneTo}
use Rattle.batch_engine.specs.Values.{IsCleared}
use Rattle.batch_engine.proofs.Ranged.{made_alone, refused_alone}
use Rattle.batch_engine.proofs.answers.clear.Goals as goal

pub returns-in_err-cleared_range : goal.returns-in_err-cleared_range
returns-in_err-cleared_range c =
    let p = err_from_is_err_and c.from_residual-in_err-cleared_range.result
    c.from_residual-in_err-cleared_range.ensures.1 in
    rw (p.1, p.2)
    (refused_alone (IsCleared c.args.user.now c.args.book.now (Ok c.args.range.now))
    (λ text. answer.Clear text c.args.book.now.id)
    c.args.book.now c.emptied.new.book c.in_err-cleared_range.field-0.0
    (subst (λ book. IsUnlessNoMemory
    (IsDoneTo (IsCleared c.args.user.now book (Ok c.args.range.now)) book c.emptied.new.book)
    (Err c.in_err-cleared_range.field-0.0)) c.in_ok-after.ensures c.in_err-cleared_range.ensures))

pub returns : goal.returns
returns c =
    rw (c.in_ok-spreadsheet_id.ensures, c.id.ensures)
    (made_alone (IsCleared c.args.user.now c.args.book.now (Ok c.args.range.now))
    (λ text. answer.Clear text c.args.book.now.id)
    c.args.book.now c.emptied.new.book c.in_ok-cleared_range.cleared_range
    (rw c.in_ok-after.ensures at c.in_ok-cleared_range.ensures))
