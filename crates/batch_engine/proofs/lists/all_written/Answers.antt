use Rattle.std.proofs.Common.{◌+◌, subst, sym, get_or, Ok, Err}
use Rattle.std.proofs.lemmas.List.{get_or_read}
use Rattle.json_shapes.specs.declared.fault.ShapeFault.TheVariants.{BadShape}
use Rattle.request_kinds.specs.Telling.{IsDoneTo}
use Rattle.batch_engine.specs.Members.{AreDone}
use Rattle.batch_engine.specs.Values.{IsUpdated}
use Rattle.batch_engine.proofs.InTurns.{DoneTo, all_done, broken_there, done_so, one_more}
use Rattle.batch_engine.proofs.lists.all_written.Goals as goal

pub returns-in-Err : goal.returns-in-Err
returns-in-Err c =
    let members = c.args.blocks.now in
    let at = c.loop-at.at in
    broken_there c.changes_in_turn.ensures (IsUpdated c.args.user.now) members c.args.book.now at
    c.loop-at.writes.items c.loop-at.book c.loop-at.invariant (Err BadShape)
    c.in-Err.rule c.updated.new.book c.loop-at-test.true
    (subst (IsDoneTo (IsUpdated c.args.user.now c.loop-at.book (get_or members at (Err BadShape))) c.loop-at.book
    c.updated.new.book) c.in-Err.is
    (done_so (IsUpdated c.args.user.now) (get_or members at (Err BadShape)) c.index-blocks-at.result c.loop-at.book
    c.updated.new.book
    c.updated.result c.in_ok-write.field-0
    (get_or_read members at c.index-blocks-at.result c.loop-at-test.true c.index-blocks-at.is (Err BadShape))
    c.updated.ensures c.in_ok-write.ensures))

pub loop-at-preserved : goal.loop-at-preserved
loop-at-preserved c =
    let members = c.args.blocks.now in
    let at = c.loop-at.at in
    let (changes, holds, made) : IsDoneTo (IsUpdated c.args.user.now c.loop-at.book (get_or members at (Err BadShape)))
    c.loop-at.book
    c.updated.new.book (Ok c.in-Ok.write) =
    subst (IsDoneTo (IsUpdated c.args.user.now c.loop-at.book (get_or members at (Err BadShape))) c.loop-at.book
    c.updated.new.book) c.in-Ok.is
    (done_so (IsUpdated c.args.user.now) (get_or members at (Err BadShape)) c.index-blocks-at.result c.loop-at.book
    c.updated.new.book
    c.updated.result c.in_ok-write.field-0
    (get_or_read members at c.index-blocks-at.result c.loop-at-test.true c.index-blocks-at.is (Err BadShape))
    c.updated.ensures c.in_ok-write.ensures) in
    subst (λ done. DoneTo (IsUpdated c.args.user.now) members c.args.book.now (at + 1) done c.updated.new.book)
    (sym c.in_ok-push-in-Ok.ensures.items)
    (one_more c.changes_in_turn.ensures (IsUpdated c.args.user.now) members c.args.book.now at
    c.loop-at.writes.items c.loop-at.book c.loop-at.invariant (Err BadShape)
    c.in-Ok.write changes c.updated.new.book c.loop-at-test.true holds made)

pub returns : goal.returns
returns c =
    subst (λ all. AreDone (IsUpdated c.args.user.now) c.args.blocks.now c.args.book.now c.loop-at.book (Ok all))
    (sym c.of.ensures)
    (all_done c.changes_in_turn.ensures (IsUpdated c.args.user.now)
    c.args.blocks.now c.args.book.now c.loop-at.at c.loop-at.writes.items c.loop-at.book
    c.loop-at.invariant c.loop-at-test.false)
