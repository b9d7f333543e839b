use Rattle.std.proofs.Common.{◌+◌, subst, sym, get_or, Ok}
use Rattle.std.proofs.lemmas.List.{get_or_read}
use Rattle.json_shapes.specs.declared.fault.ShapeFault.TheVariants.{BadShape}
use Rattle.json_requests.specs.declared.request.Step.TheVariants.{Shape}
use Rattle.request_kinds.specs.Telling.{IsDoneTo}
use Rattle.batch_engine.specs.Members.{AreDone}
use Rattle.batch_engine.specs.Calls.{IsRequested}
use Rattle.batch_engine.proofs.InTurns.{DoneTo, all_done, broken_there, done_so, none_done, one_more}
use Rattle.batch_engine.proofs.batch.all_requested.Goals as goal

pub loop-at-init : goal.loop-at-init
loop-at-init c =
    subst (λ done. DoneTo (IsRequested c.args.user.now c.args.project.now) c.args.requests.now c.args.book.now 0 done
    c.args.book.now)
    (sym c.new-replies.ensures.items)
    (none_done c.changes_in_turn.ensures (IsRequested c.args.user.now c.args.project.now) c.args.requests.now
    c.args.book.now)

pub returns-in-Err : goal.returns-in-Err
returns-in-Err c =
    let members = c.args.requests.now in
    let at = c.loop-at.at in
    broken_there c.changes_in_turn.ensures (IsRequested c.args.user.now c.args.project.now) members c.args.book.now at
    c.loop-at.replies.items c.loop-at.book c.loop-at.invariant (Shape BadShape)
    c.in-Err.rule c.requested.new.book c.loop-at-test.true
    (subst (IsDoneTo
    (IsRequested c.args.user.now c.args.project.now c.loop-at.book (get_or members at (Shape BadShape))) c.loop-at.book
    c.requested.new.book) c.in-Err.is
    (done_so (IsRequested c.args.user.now c.args.project.now) (get_or members at (Shape BadShape))
    c.index-requests-at.result c.loop-at.book c.requested.new.book
    c.requested.result c.in_ok-reply.field-0
    (get_or_read members at c.index-requests-at.result c.loop-at-test.true c.index-requests-at.is (Shape BadShape))
    c.requested.ensures c.in_ok-reply.ensures))

pub loop-at-preserved : goal.loop-at-preserved
loop-at-preserved c =
    let members = c.args.requests.now in
    let at = c.loop-at.at in
    let (changes, holds, made) : IsDoneTo
    (IsRequested c.args.user.now c.args.project.now c.loop-at.book (get_or members at (Shape BadShape)))
    c.loop-at.book
    c.requested.new.book (Ok c.in-Ok.reply) =
    subst (IsDoneTo (IsRequested c.args.user.now c.args.project.now c.loop-at.book (get_or members at (Shape BadShape)))
    c.loop-at.book c.requested.new.book) c.in-Ok.is
    (done_so (IsRequested c.args.user.now c.args.project.now) (get_or members at (Shape BadShape))
    c.index-requests-at.result c.loop-at.book c.requested.new.book
    c.requested.result c.in_ok-reply.field-0
    (get_or_read members at c.index-requests-at.result c.loop-at-test.true c.index-requests-at.is (Shape BadShape))
    c.requested.ensures c.in_ok-reply.ensures) in
    subst (λ done. DoneTo (IsRequested c.args.user.now c.args.project.now) members c.args.book.now (at + 1) done
    c.requested.new.book)
    (sym c.in_ok-push-in-Ok.ensures.items)
    (one_more c.changes_in_turn.ensures (IsRequested c.args.user.now c.args.project.now) members c.args.book.now at
    c.loop-at.replies.items c.loop-at.book c.loop-at.invariant (Shape BadShape)
    c.in-Ok.reply changes c.requested.new.book c.loop-at-test.true holds made)

pub returns : goal.returns
returns c =
    subst (λ all. AreDone (IsRequested c.args.user.now c.args.project.now) c.args.requests.now c.args.book.now
    c.loop-at.book (Ok all)) (sym c.of.ensures)
    (all_done c.changes_in_turn.ensures (IsRequested c.args.user.now c.args.project.now)
    c.args.requests.now c.args.book.now c.loop-at.at c.loop-at.replies.items c.loop-at.book
    c.loop-at.invariant c.loop-at-test.false)
