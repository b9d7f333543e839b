use Rattle.std.proofs.Common.{◌∙◌, ap}
use Rattle.cell_store.specs.Table.{filled_places}
use Rattle.link_store.proofs.Views.{filled-table}
use Rattle.link_store.proofs.grid.LinkGridGrid.filled.Goals as goal

pub returns : goal.returns
returns g c = c.from.ensures ∙ filled-table c.tables_by_items.ensures c.self.inside.cells c.self.invariant
    ∙ ap (λ sheet. filled_places sheet.table) c.self.view_is
