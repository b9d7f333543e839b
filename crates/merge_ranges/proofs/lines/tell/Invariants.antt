use Rattle.std.proofs.Common.{◌≡◌, ◌<◌, ◌+◌, ℕ, false, length, slice_index_or, take}
use Rattle.std.specs.List.{list_any}
use Rattle.merge_ranges.specs.Lines.{covers_on}
use Rattle.merge_ranges.proofs.lines.tell.Given as goal

-- the places tell what the merges so far cover
abbrev pub invariant-loop-merge : goal.invariant-loop-merge
invariant-loop-merge l = (length l.told ≡ length l.fn.told)
    × ((place : ℕ) → place < length l.fn.told
    → slice_index_or l.told place false
    ≡ list_any (λ merge. covers_on l.axis merge l.line (l.first + place)) (take l.merge-index l.merges))
