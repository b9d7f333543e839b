use Rattle.std.proofs.Common.{ap, ◌∙◌, length, map, arith}
use Rattle.std.specs.Arc.{arc_value}
use Rattle.world_model.specs.Book.{PlaceBook}
use Rattle.world_model.specs.Counts.{filled_of, filled_in}
use Rattle.dimension_ops.proofs.Totals.{total_more, total_all}
use Rattle.dimension_ops.proofs.world.World.filled.Goals as goal

pub overflow_add-filled : goal.overflow_add-filled
overflow_add-filled c =
    let so_far = c.loop-book.invariant.1 in
    let step = c.filled-filled.ensures.within in
    let there = c.loop-book-test.true in
    let long = ap length c.deref-book-items.ensures.value in
    let few = c.self.invariant.1 in
    omega (arith, so_far, step, there, long, few)

pub loop-book-preserved : goal.loop-book-preserved
loop-book-preserved c = (
  total_more (λ (book : PlaceBook). filled_of book.sheets) arc_value c.deref-book-items.result.now
      c.loop-book.book-index c.loop-book.filled c.loop-book.invariant.0 c.book-item.result c.filled-filled.result
      c.loop-book-test.true c.book-item.is
      (c.filled-filled.ensures.filled ∙ ap (λ (book : PlaceBook). filled_of book.sheets) c.deref.ensures),
  let so_far = c.loop-book.invariant.1 in
      let step = c.filled-filled.ensures.within in
      omega (arith, so_far, step),
)

pub returns : goal.returns
returns c =
    total_all (λ (book : PlaceBook). filled_of book.sheets) arc_value c.deref-book-items.result.now
    c.loop-book.book-index c.loop-book.filled c.loop-book.invariant.0 c.loop-book-test.false
    ∙ ap (λ list. filled_in (map arc_value list)) c.deref-book-items.ensures.value
    ∙ ap filled_in c.self.view_is
