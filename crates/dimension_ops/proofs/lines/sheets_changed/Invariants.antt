use Rattle.std.proofs.Common.{map}
use Rattle.std.specs.Arc.{arc_value}
use Rattle.std.specs.List.{AllZip}
use Rattle.world_model.specs.PlaceChange.{SheetChanged}
use Rattle.dimension_ops.proofs.lines.sheets_changed.Given as goal

-- the sheets so far are changed
abbrev pub invariant-loop-sheet : goal.invariant-loop-sheet
invariant-loop-sheet l =
    AllZip (SheetChanged l.by.sheet l.by.axis l.by.count l.by.change.now) (map arc_value l.yielded)
    (map arc_value l.changed.items)
