use Rattle.std.proofs.Common.{◌≡◌, ℕ, ◌<◌, ◌≤◌, true}
use Rattle.named_ranges.specs.Listed.{has_id, numbered_id}
use Rattle.named_ranges.proofs.list.Names.unused_id.Given as goal

-- so far all ids are those of ranges
abbrev pub invariant-loop-number : goal.invariant-loop-number
invariant-loop-number l =
    (lesser : ℕ) → 1 ≤ lesser → lesser < l.number-counter → has_id l.self (numbered_id lesser) ≡ true
