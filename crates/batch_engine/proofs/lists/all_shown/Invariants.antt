use Rattle.cell_calc.specs.Calculated.{IsTableOf}
use Rattle.values_api.specs.Sheets.{stored_in}
use Rattle.batch_engine.specs.Values.{IsShown}
use Rattle.batch_engine.proofs.Judging.{SoFar}
use Rattle.batch_engine.proofs.lists.all_shown.Given as goal

-- so far the ranges before this one are shown, by values of the spreadsheet
abbrev pub invariant-loop-at : goal.invariant-loop-at
invariant-loop-at l =
    SoFar (IsShown l.dimension l.render l.book) l.ranges l.at l.all.items
    × IsTableOf (stored_in l.book) l.table
