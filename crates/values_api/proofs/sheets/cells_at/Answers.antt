use Rattle.std.proofs.Common.{subst, get_or}
use Rattle.std.proofs.lemmas.List.{take_all}
use Rattle.std.proofs.lemmas.List.Elements.{Contains-get_or}
use Rattle.values_api.specs.Sheets.{AreCellsAt}
use Rattle.values_api.proofs.LentCells.{no_cells, one_more_cell}
use Rattle.values_api.proofs.sheets.cells_at.Goals as goal

pub loop-place-init : goal.loop-place-init
loop-place-init c = no_cells _ _ c.new-cells.ensures.items

pub loop-place-preserved : goal.loop-place-preserved
loop-place-preserved c =
    one_more_cell c.args.sheet.now.table c.args.places.now c.loop-place.place-index (0, 0) c.loop-place-test.true _ _
    c.loop-place.invariant
    (c.requires (get_or c.args.places.now c.loop-place.place-index (0, 0))
    (Contains-get_or c.args.places.now c.loop-place.place-index (0, 0) c.loop-place-test.true))
    c.in_ok-add_cell.ensures

pub returns : goal.returns
returns c =
    subst (λ places. AreCellsAt c.args.sheet.now.table places c.loop-place.cells.items)
    (take_all c.loop-place.place-index c.args.places.now c.loop-place-test.false) c.loop-place.invariant
