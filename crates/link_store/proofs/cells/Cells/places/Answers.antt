use Rattle.grid_range.specs.declared.axis.Axis.TheVariants.{Rows, Columns}
use Rattle.link_store.proofs.Gathered.{places_of_area}
use Rattle.link_store.proofs.Transferred.{if_ok_then}
use Rattle.link_store.proofs.cells.Cells.places.Goals as goal

pub returns-then-by_rows-by_columns : goal.returns-then-by_rows-by_columns
returns-then-by_rows-by_columns g c = if_ok_then c.places_on_rows.result _ _ c.places_on_rows.ensures (λ places on.
    places_of_area c.args.self.now c.requires c.args.area.now Rows c.lines_of-rows.result.0
    c.lines_of-rows.result.1 places.items c.lines_of-rows.ensures.lines on)

pub returns-else-by_rows-by_columns : goal.returns-else-by_rows-by_columns
returns-else-by_rows-by_columns g c = if_ok_then c.places_on_columns.result _ _ c.places_on_columns.ensures
    (λ places on.
    places_of_area c.args.self.now c.requires c.args.area.now Columns c.lines_of-columns.result.0
    c.lines_of-columns.result.1 places.items c.lines_of-columns.ensures.lines on)
