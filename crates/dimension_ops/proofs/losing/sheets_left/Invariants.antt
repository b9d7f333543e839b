use Rattle.std.proofs.Common.{map}
use Rattle.std.specs.Arc.{arc_value}
use Rattle.std.specs.List.{AllZip}
use Rattle.world_model.specs.SheetChange.{LosesReferences, other_sheets}
use Rattle.dimension_ops.proofs.losing.sheets_left.Given as goal

-- the others so far are without their references
abbrev pub invariant-loop-sheet : goal.invariant-loop-sheet
invariant-loop-sheet l =
    AllZip (LosesReferences l.deleted) (other_sheets l.deleted (map arc_value l.yielded)) (map arc_value l.left.items)
