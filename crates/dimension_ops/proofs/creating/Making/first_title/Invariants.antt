use Rattle.dimension_ops.specs.Creating.{AreTitlesBelow, sheets_made}
use Rattle.dimension_ops.proofs.creating.Making.first_title.Given as goal

-- so far all titles are those of sheets
abbrev pub invariant-loop-number : goal.invariant-loop-number
invariant-loop-number l = AreTitlesBelow (sheets_made l.self) l.number-counter
