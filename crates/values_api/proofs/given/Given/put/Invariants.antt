use Rattle.std.proofs.Common.{take}
use Rattle.values_api.specs.Given.{value_by}
use Rattle.values_api.specs.Sheets.{formula_sheets}
use Rattle.values_api.proofs.Entering.{AreEntered}
use Rattle.values_api.proofs.Listed.{listed_of}
use Rattle.values_api.proofs.given.Given.put.Given as goal

-- so far the values of the cells before this one are entered
abbrev pub invariant-loop-cell : goal.invariant-loop-cell
invariant-loop-cell l =
    AreEntered (formula_sheets l.fn.book.sheets) l.self.area.now.sheet
    (listed_of (value_by l.self) (take l.cell-index l.cells)) l.fn.book l.book l.first
