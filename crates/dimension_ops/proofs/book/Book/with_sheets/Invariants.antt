use Rattle.std.proofs.Common.{◌≡◌, map, take}
use Rattle.std.specs.Arc.{arc_value}
use Rattle.dimension_ops.proofs.book.Book.with_sheets.Given as goal

-- so far the ids of the sheets
abbrev pub invariant-loop-sheet : goal.invariant-loop-sheet
invariant-loop-sheet l = l.ids.items ≡ map (λ sheet. sheet.id) (map arc_value (take l.sheet-index l.sheet-items))
