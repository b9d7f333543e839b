use Rattle.std.proofs.Common.{refl}
use Rattle.cell_calc.proofs.walk.put_on.Goals as goal

pub returns : goal.returns
returns c = (
  record { place = c.args.place; tree = c.args.tree; rest = c.args.rest; noted = c.new-noted.result },
  refl,
  refl,
  refl,
  c.new-noted.ensures.items,
  c.in_ok-set.ensures,
  c.in_ok-push_front.ensures.items,
)
