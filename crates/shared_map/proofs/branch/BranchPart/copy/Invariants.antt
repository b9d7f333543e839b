use Rattle.std.proofs.Common.{◌≡◌, take}
use Rattle.shared_map.proofs.branch.BranchPart.copy.Given as goal

-- the parts so far are shared
abbrev pub invariant-loop-part : goal.invariant-loop-part
invariant-loop-part g l = l.parts.items ≡ take l.part-index l.self.parts.items
