use Rattle.cell_calc.specs.Calculated.{IsTableOf}
use Rattle.values_api.specs.Sheets.{stored_in}
use Rattle.batch_engine.proofs.Filtering.{ShownTo}
use Rattle.batch_engine.proofs.filtered.all_filtered.Given as goal

-- so far what the filters before this one show, by values of the spreadsheet
abbrev pub invariant-loop-at : goal.invariant-loop-at
invariant-loop-at l =
    ShownTo l.project (record { dimension = l.dimension; render = l.render }) l.book l.filters l.at l.all.items
    × IsTableOf (stored_in l.book) l.table
