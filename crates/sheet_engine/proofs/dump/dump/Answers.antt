use Rattle.std.proofs.Common.{◌<◌, arith, length, subst}
use Rattle.sheet_engine.specs.Dump.{Grows, calls_on}
use Rattle.sheet_engine.proofs.Dumping.{next_book}
use Rattle.sheet_engine.proofs.dump.dump.Goals as goal

pub loop-at-preserved : goal.loop-at-preserved
loop-at-preserved c =
    let books = c.args.world.now in
    let at = c.loop-at.at in
    let d = c.book_at.result.now in
    let there : at < length books = omega (arith, c.loop-at-test.true, c.count-at-end.ensures.count) in
    next_book books books at d c.loop-at.text c.push_book.new.text there c.loop-at.invariant
    (subst (λ book. Grows books (calls_on book book.sheets) c.loop-at.text c.push_book.new.text)
    (c.book_at.ensures.book d)
    c.in_ok-push_book.ensures)
