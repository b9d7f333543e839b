use Rattle.std.proofs.Common.{take}
use Rattle.std.specs.List.{AllZip}
use Rattle.cell_calc.specs.Calculated.{IsTableOf}
use Rattle.values_api.specs.Sheets.{stored_in}
use Rattle.batch_engine.specs.HiddenRows.{IsAskedValue}
use Rattle.batch_engine.proofs.hidden_rows.asked_values.Given as goal

-- so far the values that the criteria before this one ask for
abbrev pub invariant-loop-at : goal.invariant-loop-at
invariant-loop-at l =
    IsTableOf (stored_in l.book) l.table
    × AllZip (IsAskedValue l.book l.sheet l.row) (take l.at l.criteria) l.values.items
