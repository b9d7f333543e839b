use Rattle.std.proofs.Common.{take}
use Rattle.values_api.specs.Sheets.{AreCellsAt}
use Rattle.values_api.proofs.sheets.cells_at.Given as goal

abbrev pub invariant-loop-place : goal.invariant-loop-place
invariant-loop-place l = AreCellsAt l.sheet.table (take l.place-index l.places) l.cells.items
