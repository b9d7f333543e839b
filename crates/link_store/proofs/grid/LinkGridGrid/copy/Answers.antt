use Rattle.std.proofs.Common.{◌∙◌, ap}
use Rattle.link_store.proofs.Views.{table_same}
use Rattle.link_store.proofs.grid.LinkGridGrid.copy.Goals as goal

pub returns : goal.returns
returns g c =
    table_same c.tables_by_items.ensures c.self.inside.cells c.in_ok-copy.field-0 c.in_ok-copy.ensures.size
    c.in_ok-copy.ensures.items
    ∙ ap (λ sheet. sheet.table) c.self.view_is
