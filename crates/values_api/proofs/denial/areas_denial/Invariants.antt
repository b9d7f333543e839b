use Rattle.std.proofs.Common.{take}
use Rattle.values_api.specs.Denials.{CellsOfAll, IsDenial}
use Rattle.values_api.proofs.denial.areas_denial.Given as goal

-- so far the cells of the areas before this one
abbrev pub invariant-loop-area : goal.invariant-loop-area
invariant-loop-area l = IsDenial l.user l.book (CellsOfAll l.book.sheets (take l.area-index l.areas)) l.least
