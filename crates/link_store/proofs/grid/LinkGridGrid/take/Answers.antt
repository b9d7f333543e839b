use Rattle.std.proofs.Common.{◌∙◌, ap}
use Rattle.cell_store.specs.Table.{item_at, without_item}
use Rattle.link_store.proofs.Views.{item-table, table_taken}
use Rattle.link_store.proofs.grid.LinkGridGrid.take.Goals as goal

pub returns-clause-item : goal.returns-clause-item
returns-clause-item g c =
    c.take.ensures.item ∙ item-table c.tables_by_items.ensures c.self.inside.cells c.args.row c.args.column
    ∙ ap (λ sheet. item_at sheet.table c.args.row c.args.column) c.self.view_is

pub returns-clause-taken : goal.returns-clause-taken
returns-clause-taken g c =
    table_taken c.tables_by_items.ensures c.self.inside.cells c.take.new.self c.take.ensures.size c.args.row
    c.args.column c.take.ensures.taken
    ∙ ap (λ sheet. without_item sheet.table c.args.row c.args.column) c.self.view_is
