use Rattle.std.proofs.Common.{◌≡◌, ◌≤◌, ◌<◌, ◌-◌, ℕ, false, length, slice_index_or, max}
use Rattle.std.specs.Prelude.{◌||◌, ◌&&◌, nat_le, nat_lt}
use Rattle.merge_ranges.proofs.lines.mark.Given as goal

-- the places from the merge's first one to the one before this are marked
abbrev pub invariant-loop-place : goal.invariant-loop-place
invariant-loop-place l = (l.place ≤ max l.end (l.start - l.first))
    × ((k : ℕ) → k < length l.initial.told
    → slice_index_or l.told k false
    ≡ (slice_index_or l.initial.told k false || (nat_le (l.start - l.first) k && nat_lt k l.place)))
