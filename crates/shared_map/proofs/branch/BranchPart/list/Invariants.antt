use Rattle.std.proofs.Common.{◌≡◌, ◌++◌, ◌+◌, ◌*◌}
use Rattle.std.specs.Prelude.{map, min}
use Rattle.shared_map.specs.Found.{keys_found}
use Rattle.shared_map.specs.Places.{in_parts}
use Rattle.shared_map.proofs.branch.BranchPart.list.Given as goal

-- the keys of the parts so far are listed
abbrev pub invariant-loop-index : goal.invariant-loop-index
invariant-loop-index g l =
    l.found.items ≡ l.fn.found.items
    ++ map g.K.Key.listed
    (keys_found (in_parts g.C.Part.at l.span l.self.parts.items) l.base l.first (min (l.last + 1) (l.index * l.span)))
