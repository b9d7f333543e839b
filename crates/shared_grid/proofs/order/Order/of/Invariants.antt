use Rattle.std.proofs.Common.{◌≡◌, ◌<◌, ℕ, length, get_or}
use Rattle.shared_grid.proofs.order.Order.of.Given as goal

-- the places of the numbers so far are noted
abbrev pub invariant-loop-index : goal.invariant-loop-index
invariant-loop-index l = record {
  long : length l.places.items ≡ length l.numbers.items;
  noted : (line : ℕ) → line < l.index → get_or l.places.items (get_or l.numbers.items line 0) 0 ≡ line;
}
