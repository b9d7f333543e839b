use Rattle.std.proofs.Common.{◌≡◌, ◌≤◌, ◌<◌, ℕ, length, get_or}
use Rattle.std.specs.Prelude.{max}
use Rattle.shared_grid.specs.Orders.{number_of}
use Rattle.shared_grid.proofs.order.Order.numbers_for.Given as goal

-- the numbers, and behind them each index, as far as they are there
abbrev pub invariant-loop-number : goal.invariant-loop-number
invariant-loop-number l = record {
  long : length l.numbers.items ≡ l.number;
  first : (index : ℕ) → index < length l.self.numbers → index < l.number
      → get_or l.numbers.items index 0 ≡ number_of l.self index;
  behind : (index : ℕ) → length l.self.numbers ≤ index → index < l.number → get_or l.numbers.items index 0 ≡ index;
  most : l.number ≤ max (length l.self.numbers) l.count;
}
