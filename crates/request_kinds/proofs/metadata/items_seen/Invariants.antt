use Rattle.std.proofs.Common.{◌≡◌, take}
use Rattle.request_kinds.specs.Metadata.{items_seen}
use Rattle.request_kinds.proofs.metadata.items_seen.Given as goal

-- so far the items with the ids before this one
abbrev pub invariant-loop-id : goal.invariant-loop-id
invariant-loop-id l = l.items.items ≡ items_seen l.fn.project (take l.id-index l.ids) l.fn.metadata
