use Rattle.std.proofs.Common.{◌≤◌, length, ◌+◌}
use Rattle.grid_range.specs.Band.{end_line, first_line}
use Rattle.cell_calc.specs.Calculated.{IsTableOf}
use Rattle.values_api.specs.Sheets.{stored_in}
use Rattle.batch_engine.specs.HiddenRows.{AreRowsToldBefore}
use Rattle.batch_engine.proofs.hidden_rows.rows_filtered.Given as goal

-- so far that is told of the rows before this one, and of none behind the range
abbrev pub invariant-loop-row : goal.invariant-loop-row
invariant-loop-row l =
    IsTableOf (stored_in l.book) l.table × AreRowsToldBefore l.book l.sheet l.filter l.row l.rows.items
    × (first_line l.filter.area.rows + 1 ≤ l.row)
    × (length l.rows.items ≤ end_line l.filter.area.rows l.sheet.table.rows)
