use Rattle.std.proofs.lemmas.Result.{err_from_is_err_and}
use Rattle.batch_engine.proofs.Ranged.{seen_so}
use Rattle.batch_engine.proofs.answers.read.Goals as goal

pub returns-in_err-shown : goal.returns-in_err-shown
returns-in_err-shown c =
    let p = err_from_is_err_and c.from_residual.result c.from_residual.ensures.1 in
    rw (p.1, p.2)
    (seen_so c.args.range.now c.args.dimension c.args.render c.args.book.now c.in_err-shown.field-0.0
    c.in_err-shown.ensures.shown)
