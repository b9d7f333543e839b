use Rattle.cell_value.proofs.InTurn.{Turns}
use Rattle.cell_value.proofs.update.update_all.Given as goal

abbrev pub invariant-loop-item : goal.invariant-loop-item
invariant-loop-item g l =
    Turns (g.T.Update.becomes l.change) (g.T.Update.is_updated l.change) (g.T.Update.has_updated l.change)
    l.fn.items.items l.item-items l.item-index
