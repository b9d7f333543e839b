use Rattle.std.proofs.Common.{◌≡◌, take}
use Rattle.std.specs.Prelude.{map}
use Rattle.request_kinds.specs.Protections.{area_cut}
use Rattle.request_kinds.proofs.protections.areas_cut.Given as goal

-- so far the areas before this one are cut
abbrev pub invariant-loop-area : goal.invariant-loop-area
invariant-loop-area l = l.cut.items ≡ map (area_cut l.fn.book.sheets) (take l.area-index l.areas)
