use Rattle.std.proofs.Common.{◌∙◌, sym, ap}
use Rattle.cell_store.specs.Table.{item_at, with_item}
use Rattle.link_store.proofs.Transferred.{ok_then, err_then, if_ok_then}
use Rattle.link_store.proofs.Views.{item-table, table_put, table_same}
use Rattle.link_store.proofs.grid.LinkGridGrid.put.Goals as goal

pub returns-clause-old : goal.returns-clause-old
returns-clause-old g c = if_ok_then c.put.result _ _ c.put.ensures.old (λ old is.
    is ∙ item-table c.tables_by_items.ensures c.self.inside.cells c.args.row c.args.column
    ∙ ap (λ sheet. item_at sheet.table c.args.row c.args.column) c.self.view_is)

pub returns-clause-put : goal.returns-clause-put
returns-clause-put g c = ok_then c.put.result _ _ c.put.ensures.put (λ changes.
    table_put c.tables_by_items.ensures c.self.inside.cells c.put.new.self c.put.ensures.size c.args.row
    c.args.column c.args.item changes
    ∙ ap (λ sheet. with_item sheet.table c.args.row c.args.column c.args.item) c.self.view_is)

pub returns-clause-unchanged : goal.returns-clause-unchanged
returns-clause-unchanged g c = err_then c.put.result _ _ c.put.ensures.unchanged (λ same.
    table_same c.tables_by_items.ensures c.self.inside.cells c.put.new.self c.put.ensures.size same
    ∙ ap (λ sheet. sheet.table) c.self.view_is)

pub returns-clause-was_empty : goal.returns-clause-was_empty
returns-clause-was_empty g c = err_then c.put.result _ _ c.put.ensures.was_empty (λ none.
    sym (item-table c.tables_by_items.ensures c.self.inside.cells c.args.row c.args.column
    ∙ ap (λ sheet. item_at sheet.table c.args.row c.args.column) c.self.view_is) ∙ none)
