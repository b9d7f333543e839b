use Rattle.std.proofs.lemmas.Result.{err_from_is_err_and}
use Rattle.request_kinds.specs.Requests.{IsDoneByKind}
use Rattle.request_kinds.specs.Touching.{TouchedCells}
use Rattle.request_kinds.proofs.Touched.{done_allowed, done_denied, done_refused}
use Rattle.request_kinds.proofs.requests.done.Goals as goal

pub returns-in_err-reply : goal.returns-in_err-reply
returns-in_err-reply c =
    let p = err_from_is_err_and c.from_residual-in_err-reply.result c.from_residual-in_err-reply.ensures.1 in
    rw (p.1, p.2)
    (done_refused c.args.user.now c.args.book.now (TouchedCells c.args.book.now.sheets c.args.request.now)
    (IsDoneByKind c.args.user.now c.args.project.now c.args.book.now c.args.request.now) c.args.book.now
    c.done_by_kind.new.book
    c.in_ok-denied.denied c.in_ok-denied.ensures c.in_err-reply.field-0.0 c.in_err-reply.ensures)

pub returns-in-None : goal.returns-in-None
returns-in-None c =
    done_allowed c.args.user.now c.args.book.now (TouchedCells c.args.book.now.sheets c.args.request.now)
    (IsDoneByKind c.args.user.now c.args.project.now c.args.book.now c.args.request.now) c.args.book.now
    c.done_by_kind.new.book
    c.in_ok-denied.denied c.in_ok-denied.ensures c.in-None.is c.in_ok-reply.reply c.in_ok-reply.ensures

pub returns-in-Some : goal.returns-in-Some
returns-in-Some c =
    done_denied c.args.user.now c.args.book.now (TouchedCells c.args.book.now.sheets c.args.request.now)
    (IsDoneByKind c.args.user.now c.args.project.now c.args.book.now c.args.request.now) c.args.book.now
    c.done_by_kind.new.book
    c.in_ok-denied.denied c.in_ok-denied.ensures c.in-Some.id c.in-Some.is c.in_ok-reply.reply c.in_ok-reply.ensures
