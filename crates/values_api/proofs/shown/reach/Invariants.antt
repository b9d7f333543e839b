use Rattle.std.proofs.Common.{◌≡◌, ◌≤◌, ◌+◌, ℕ, length, get_or, max}
use Rattle.values_api.proofs.shown.reach.Given as goal

-- lines that come in end before their first place
abbrev pub invariant-loop : goal.invariant-loop
invariant-loop l =
    (length l.ends.items ≡ l.counter) × (l.counter ≤ max (length l.fn.ends.items) (l.line + 1))
    × ((other : ℕ) → get_or l.ends.items other 0 ≡ get_or l.fn.ends.items other 0)
