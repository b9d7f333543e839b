use Rattle.std.proofs.Common.{map}
use Rattle.std.specs.Arc.{arc_value}
use Rattle.std.specs.List.{AllZip}
use Rattle.world_model.specs.RangeChange.{WordsRenamedIn}
use Rattle.dimension_ops.proofs.renaming.sheets_renamed.Given as goal

-- the words of the sheets so far are renamed
abbrev pub invariant-loop-sheet : goal.invariant-loop-sheet
invariant-loop-sheet l =
    AllZip (WordsRenamedIn l.old l.new) (map arc_value l.yielded) (map arc_value l.renamed.items)
