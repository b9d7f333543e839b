use Rattle.std.proofs.Common.{length, ap, arith}
use Rattle.std.proofs.lemmas.List.Sorted.{length_permutation}
use Rattle.protection.proofs.orders.Orders.refill.Goals as goal

pub refill_by_row-requires : goal.refill_by_row-requires
refill_by_row-requires c = omega (
  arith,
  ap length c.deref.ensures.value,
  ap length c.self.view_is,
  length_permutation c.self.inside.by_col.items c.self.inside.by_row.items c.self.invariant.1,
  length_permutation c.args.ranges.now c.refill_by_col.new.list.items c.refill_by_col.ensures.same,
)
