use Rattle.std.proofs.Common.{[], ◌+◌, subst, sym, get_or, Ok}
use Rattle.std.proofs.lemmas.List.{get_or_read}
use Rattle.request_kinds.specs.Telling.{IsDoneTo}
use Rattle.batch_engine.specs.Members.{AreDone}
use Rattle.batch_engine.specs.Values.{IsCleared}
use Rattle.batch_engine.proofs.InTurns.{DoneTo, all_done, broken_there, done_so, one_more}
use Rattle.batch_engine.proofs.lists.all_cleared.Goals as goal

pub returns-in-Err : goal.returns-in-Err
returns-in-Err c =
    let members = c.args.ranges.now in
    let at = c.loop-at.at in
    broken_there c.changes_in_turn.ensures (IsCleared c.args.user.now) members c.args.book.now at
    c.loop-at.cleared.items c.loop-at.book c.loop-at.invariant (Ok [])
    c.in-Err.rule c.cleared_range.new.book c.loop-at-test.true
    (subst (IsDoneTo (IsCleared c.args.user.now c.loop-at.book (get_or members at (Ok []))) c.loop-at.book
    c.cleared_range.new.book) c.in-Err.is
    (done_so (IsCleared c.args.user.now) (get_or members at (Ok [])) c.index-ranges-at.result c.loop-at.book
    c.cleared_range.new.book
    c.cleared_range.result c.in_ok-range.field-0
    (get_or_read members at c.index-ranges-at.result c.loop-at-test.true c.index-ranges-at.is (Ok []))
    c.cleared_range.ensures c.in_ok-range.ensures))

pub loop-at-preserved : goal.loop-at-preserved
loop-at-preserved c =
    let members = c.args.ranges.now in
    let at = c.loop-at.at in
    let (changes, holds, made) : IsDoneTo (IsCleared c.args.user.now c.loop-at.book (get_or members at (Ok [])))
    c.loop-at.book
    c.cleared_range.new.book (Ok c.in-Ok.range) =
    subst (IsDoneTo (IsCleared c.args.user.now c.loop-at.book (get_or members at (Ok []))) c.loop-at.book
    c.cleared_range.new.book) c.in-Ok.is
    (done_so (IsCleared c.args.user.now) (get_or members at (Ok [])) c.index-ranges-at.result c.loop-at.book
    c.cleared_range.new.book
    c.cleared_range.result c.in_ok-range.field-0
    (get_or_read members at c.index-ranges-at.result c.loop-at-test.true c.index-ranges-at.is (Ok []))
    c.cleared_range.ensures c.in_ok-range.ensures) in
    subst (λ done. DoneTo (IsCleared c.args.user.now) members c.args.book.now (at + 1) done c.cleared_range.new.book)
    (sym c.in_ok-push-in-Ok.ensures.items)
    (one_more c.changes_in_turn.ensures (IsCleared c.args.user.now) members c.args.book.now at
    c.loop-at.cleared.items c.loop-at.book c.loop-at.invariant (Ok [])
    c.in-Ok.range changes c.cleared_range.new.book c.loop-at-test.true holds made)

pub returns : goal.returns
returns c =
    subst (λ all. AreDone (IsCleared c.args.user.now) c.args.ranges.now c.args.book.now c.loop-at.book (Ok all))
    (sym c.of.ensures)
    (all_done c.changes_in_turn.ensures (IsCleared c.args.user.now)
    c.args.ranges.now c.args.book.now c.loop-at.at c.loop-at.cleared.items c.loop-at.book
    c.loop-at.invariant c.loop-at-test.false)
