use Rattle.std.proofs.Common.{◌≡◌, map, take}
use Rattle.std.specs.Arc.{arc_value}
use Rattle.dimension_ops.specs.Creating.{sheets_made}
use Rattle.dimension_ops.proofs.creating.put_in.Given as goal

-- the sheets so far are put in
abbrev pub invariant-loop-one : goal.invariant-loop-one
invariant-loop-one l = map arc_value l.sheets.items ≡ sheets_made (take l.one-index l.placed)
