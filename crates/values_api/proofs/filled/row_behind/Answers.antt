use Rattle.values_api.proofs.FilledRows.{behind_last}
use Rattle.values_api.proofs.filled.row_behind.Goals as goal

pub returns-in-Some : goal.returns-in-Some
returns-in-Some c =
    behind_last c.args.sheet.now.table c.loop-row.row c.in-Some.last c.loop-row.invariant.behind
    (rw c.in-Some.is at c.in_ok-last.ensures.held)
