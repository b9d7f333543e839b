use Rattle.std.proofs.Common.{ap, arith}
use Rattle.shared_grid.proofs.Listed.{are_column_places}
use Rattle.shared_grid.proofs.Views.{inside-view}
use Rattle.shared_grid.proofs.grid.SharedGrid.places_by_columns.Goals as goal

pub places_on_columns-requires : goal.places_on_columns-requires
places_on_columns-requires g c = (
  c.ends-first.ensures.order,
  omega (arith, c.ends-first.ensures.end, c.count.ensures, ap (λ s. s.table.cols) c.self.view_is),
)

pub held_by_rows-requires : goal.held_by_rows-requires
held_by_rows-requires g c = record { distinct = c.in_ok-places.ensures.distinct }

pub returns : goal.returns
returns g c =
    are_column_places c.args.area.now c.args.self.now.table c.count.result c.ends-first.result.0 c.ends-first.result.1
    c.in_ok-places.places.items c.held_by_rows.result
    (inside-view c.tables_by_items.ensures c.self.inside.rows c.self.inside.columns c.self.inside.cells c.self.invariant
    c.args.self.now c.self.view_is)
    (omega (arith, c.count.ensures, ap (λ s. s.table.cols) c.self.view_is))
    c.ends-first.ensures.first (omega (arith, c.ends-first.ensures.end))
    c.in_ok-places.ensures c.held_by_rows.ensures.in_order c.held_by_rows.ensures.exactly
