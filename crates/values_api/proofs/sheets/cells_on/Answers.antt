use Rattle.std.proofs.Common.{Contains, subst}
use Rattle.std.proofs.lemmas.Result.{IfOk-weaker}
use Rattle.values_api.specs.Sheets.{AreCellsAt}
use Rattle.values_api.proofs.sheets.cells_on.Goals as goal

pub cells_at-requires : goal.cells_at-requires
cells_at-requires c = λ place has.
    ((c.in_ok-places.ensures.exactly place.0 place.1).0 (subst (λ l. Contains l place) c.as_slice.ensures has)).1

pub returns : goal.returns
returns c =
    IfOk-weaker c.cells_at.result _ _
    (λ cells are. (
      c.in_ok-places.places,
      c.in_ok-places.ensures,
      subst (λ l. AreCellsAt c.args.sheet.now.table l cells.items) c.as_slice.ensures are,
    ))
    c.cells_at.ensures
