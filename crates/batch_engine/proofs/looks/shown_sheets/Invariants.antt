use Rattle.std.proofs.Common.{take}
use Rattle.cell_calc.specs.Calculated.{IsTableOf}
use Rattle.values_api.specs.Sheets.{stored_in}
use Rattle.batch_engine.specs.Looks.{AreSheetsShown}
use Rattle.batch_engine.proofs.looks.shown_sheets.Given as goal

-- so far the sheets before this one are shown
abbrev pub invariant-loop-at : goal.invariant-loop-at
invariant-loop-at l =
    IsTableOf (stored_in l.fn.book) l.table
    × AreSheetsShown l.fn.user l.fn.wanted l.fn.book (take l.at l.fn.book.sheets) l.sheets.items
