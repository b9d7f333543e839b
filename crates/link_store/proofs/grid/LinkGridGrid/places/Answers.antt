use Rattle.std.proofs.Common.{sym, subst}
use Rattle.std.specs.Option.{IsSome}
use Rattle.cell_store.specs.Places.{AreFilledPlaces}
use Rattle.link_store.proofs.Views.{item-table}
use Rattle.link_store.proofs.grid.LinkGridGrid.places.Goals as goal

pub returns : goal.returns
returns g c =
    let cells = c.self.inside.cells in
    let near = c.in_ok-places.ensures in
    let held = c.held_by_rows.ensures in
    let item = item-table c.tables_by_items.ensures cells in
    subst (λ sheet. AreFilledPlaces c.args.area.now sheet.table c.held_by_rows.result) c.self.view_is (record {
      in_order = held.in_order;
      exactly = λ row col. (
        (λ has. let is = (held.exactly row col).0
            has in (is.0, subst IsSome (item row col) ((near.exactly row col is.0).0 is.1))),
        (λ is. (held.exactly row col).1 (is.0, (near.exactly row col is.0).1 (subst IsSome (sym (item row col)) is.1))),
      );
    })
