use Rattle.std.proofs.Common.{◌≡◌, take}
use Rattle.cell_value.proofs.sequence.ItemsDuplicate.duplicate.Given as goal

-- so far the copy has the items before this place
abbrev pub invariant-loop-item : goal.invariant-loop-item
invariant-loop-item g l = l.items.items ≡ take l.item-index l.item-items
