use Rattle.std.proofs.Common.{◌≡◌, take}
use Rattle.batch_engine.specs.Filtered.{areas_of_items}
use Rattle.batch_engine.proofs.filtered.areas_of_items.Given as goal

-- so far where the items before this one lie
abbrev pub invariant-loop-item : goal.invariant-loop-item
invariant-loop-item l = l.areas.items ≡ areas_of_items (take l.item-index l.items)
