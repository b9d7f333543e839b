use Rattle.std.proofs.Common.{refl, sym, ap, ◌∙◌}
use Rattle.std.specs.Prelude.{Some}
use Rattle.cell_store.specs.Table.{item_at, with_item}
use Rattle.link_store.specs.declared.cells.Cell.{Cell}
use Rattle.link_store.specs.Lists.{with_item_at}
use Rattle.link_store.specs.Lines.{list_of}
use Rattle.link_store.proofs.Sheets.{item_from}
use Rattle.link_store.proofs.Placed.{live_cell, none_at}
use Rattle.link_store.proofs.Rewritten.{changes_put, grid_put}
use Rattle.link_store.proofs.Views.{item-table, table_put}
use Rattle.link_store.proofs.grid.LinkGridGrid.get_mut.Goals as goal

pub item_mut-cell-requires : goal.item_mut-cell-requires
item_mut-cell-requires g c = let found = c.in-Some.ensures.found in live_cell c.self.inside.cells c.args.row
    c.args.column c.in-Some.node found.0 found.1

pub invariant_of-self-lent : goal.invariant_of-self-lent
invariant_of-self-lent g c = λ w.
    let cells = c.self.inside.cells in
    let found = c.in-Some.ensures.found in
    grid_put cells (with_item_at cells.rows.links c.in-Some.node (record c.item_mut-cell.result.now { item = w }))
    (list_of cells.rows c.args.row) c.in-Some.node found.0 w
    c.self.invariant found.1.stands c.item_mut-cell.ensures.once
    (ap (λ (one : Cell _). with_item_at cells.rows.links c.in-Some.node (record one { item = w }))
    (c.item_mut-cell.ensures.item found.0 (_, found.1.stands)))
    (c.item_mut-cell.ensures.count (record c.item_mut-cell.result.now { item = w }) ∙ c.self.invariant.filled)

pub returns-in-Some : goal.returns-in-Some
returns-in-Some g c =
    let cells = c.self.inside.cells in
    let found = c.in-Some.ensures.found in
    let view = ap (λ sheet. item_at sheet.table c.args.row c.args.column) c.self.view_is in (
      (
        refl,
        (λ w.
            let links = with_item_at cells.rows.links c.in-Some.node (record c.item_mut-cell.result.now { item = w }) in
            table_put c.tables_by_items.ensures cells (record cells { rows = record cells.rows { links = links } })
            (record { rows = refl; columns = refl }) c.args.row c.args.column w
            (changes_put cells links (list_of cells.rows c.args.row) c.in-Some.node found.0 w c.self.invariant
            found.1.stands c.item_mut-cell.ensures.once
            (ap (λ (one : Cell _). with_item_at cells.rows.links c.in-Some.node (record one { item = w }))
            (c.item_mut-cell.ensures.item found.0 (_, found.1.stands)))
            (c.item_mut-cell.ensures.count (record c.item_mut-cell.result.now { item = w }) ∙ c.self.invariant.filled)
            c.args.row c.args.column found.1)
            ∙ ap (λ sheet. with_item sheet.table c.args.row c.args.column w) c.self.view_is),
        refl,
      ),
      record {
        writes_back = tt;
        item = ap (λ one. Some one.item) (c.item_mut-cell.ensures.item found.0 (_, found.1.stands))
            ∙ sym (item_from cells c.self.invariant c.args.row c.args.column c.in-Some.node found.0 found.1)
            ∙ item-table c.tables_by_items.ensures cells c.args.row c.args.column ∙ view;
      },
    )

pub returns-in-None : goal.returns-in-None
returns-in-None g c =
    let cells = c.self.inside.cells in (
      (refl, (λ _. tt), ap (λ sheet. sheet.table) c.self.view_is),
      record {
        writes_back = tt;
        item = sym (none_at cells c.args.row c.args.column c.self.invariant c.in-None.ensures.missed)
            ∙ item-table c.tables_by_items.ensures cells c.args.row c.args.column
            ∙ ap (λ sheet. item_at sheet.table c.args.row c.args.column) c.self.view_is;
      },
    )
