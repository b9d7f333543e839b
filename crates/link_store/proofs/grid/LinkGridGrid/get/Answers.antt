use Rattle.std.proofs.Common.{◌∙◌, sym, ap, subst}
use Rattle.std.specs.Prelude.{Some}
use Rattle.cell_store.specs.Table.{HasItemsInside, item_at}
use Rattle.link_store.proofs.Sheets.{item_from}
use Rattle.link_store.proofs.Placed.{live_cell, none_at}
use Rattle.link_store.proofs.Views.{inside-table, item-table}
use Rattle.link_store.proofs.grid.LinkGridGrid.get.Goals as goal

pub item-requires : goal.item-requires
item-requires g c = let found = c.in-Some.ensures.found in live_cell c.self.inside.cells c.args.row c.args.column
    c.in-Some.node found.0 found.1

pub returns-in-Some-clause-item : goal.returns-in-Some-clause-item
returns-in-Some-clause-item g c =
    let found = c.in-Some.ensures.found in
    let cells = c.self.inside.cells in
    ap (λ one. Some one.item) (c.item.ensures found.0 (_, found.1.stands))
    ∙ sym (item_from cells c.self.invariant c.args.row c.args.column c.in-Some.node found.0 found.1)
    ∙ item-table c.tables_by_items.ensures cells c.args.row c.args.column
    ∙ ap (λ sheet. item_at sheet.table c.args.row c.args.column) c.self.view_is

pub returns-in-Some-clause-inside : goal.returns-in-Some-clause-inside
returns-in-Some-clause-inside g c =
    subst (λ sheet. HasItemsInside sheet.table) c.self.view_is
    (inside-table c.tables_by_items.ensures c.self.inside.cells c.self.invariant)

pub returns-in-None-clause-item : goal.returns-in-None-clause-item
returns-in-None-clause-item g c =
    let cells = c.self.inside.cells in
    sym (none_at cells c.args.row c.args.column c.self.invariant c.in-None.ensures.missed)
    ∙ item-table c.tables_by_items.ensures cells c.args.row c.args.column
    ∙ ap (λ sheet. item_at sheet.table c.args.row c.args.column) c.self.view_is

pub returns-in-None-clause-inside : goal.returns-in-None-clause-inside
returns-in-None-clause-inside g c =
    subst (λ sheet. HasItemsInside sheet.table) c.self.view_is
    (inside-table c.tables_by_items.ensures c.self.inside.cells c.self.invariant)
