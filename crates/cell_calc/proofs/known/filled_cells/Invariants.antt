use Rattle.std.proofs.Common.{◌≡◌, map, take}
use Rattle.std.specs.Prelude.{flat_map}
use Rattle.cell_calc.specs.Lent.{place_and_value}
use Rattle.cell_calc.specs.Known.{cell_read}
use Rattle.cell_calc.proofs.known.filled_cells.Given as goal

abbrev pub invariant-loop-cell : goal.invariant-loop-cell
invariant-loop-cell g l =
    map place_and_value l.filled.items
    ≡ flat_map (cell_read (g.V.ValuesOf.known l.values) l.area l.columns) (take l.cell-index l.cells)
