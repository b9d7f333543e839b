use Rattle.cell_value.proofs.InPlace.{Keeps}
use Rattle.cell_value.proofs.follow.follow_all.Given as goal

abbrev pub invariant-loop-at : goal.invariant-loop-at
invariant-loop-at g l =
    Keeps (g.T.Follow.becomes l.change) (g.T.Follow.has_followed l.change) l.fn.items.items l.items.items l.kept l.at
