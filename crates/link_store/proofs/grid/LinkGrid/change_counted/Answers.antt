use Rattle.std.proofs.Common.{◌+◌, ◌-◌, ◌*◌, ◌≤◌, ap, subst, ◌∙◌, arith}
use Rattle.cell_store.specs.Table.{filled_places}
use Rattle.cell_store.specs.Moved.{GoesWithLines, lines_on, size_after}
use Rattle.cell_store.specs.Kept.{ReusesLines}
use Rattle.link_store.specs.Crossings.{listed_table}
use Rattle.link_store.proofs.Transferred.{ok_then, err_both}
use Rattle.link_store.proofs.Views.{table_moved, table_same, filled-table, table_from}
use Rattle.link_store.proofs.grid.LinkGrid.change_counted.Goals as goal

pub returns-clause-moved : goal.returns-clause-moved
returns-clause-moved g c = ok_then c.change.result _ _ c.change.ensures.moved (λ goes.
    subst (λ sheet. GoesWithLines c.args.axis c.args.change.now sheet.table (table_from c.change.new.self))
    c.self.view_is
    (table_moved c.tables_by_items.ensures c.args.axis c.args.change.now c.self.inside.cells c.change.new.self goes))

pub returns-clause-unchanged : goal.returns-clause-unchanged
returns-clause-unchanged g c = err_both c.change.result _ _ _ c.change.ensures.size c.change.ensures.unchanged
    (λ size same. table_same c.tables_by_items.ensures c.self.inside.cells c.change.new.self size same
    ∙ ap (λ sheet. sheet.table) c.self.view_is)

pub returns-clause-filled : goal.returns-clause-filled
returns-clause-filled g c =
    let law = c.tables_by_items.ensures in
    let new = c.change.new.self in
    subst (λ sheet. filled_places (table_from new) ≤ filled_places sheet.table) c.self.view_is
    (omega (
      arith,
      c.change.ensures.few,
      filled-table law c.self.inside.cells c.self.invariant,
      filled-table law
          new c.change.ensures.grid,
    ))

pub returns-clause-lists : goal.returns-clause-lists
returns-clause-lists g c =
    let took = c.change.ensures.lists in
    subst (λ sheet. ReusesLines c.args.axis c.args.change.now sheet (listed_table c.change.new.self)) c.self.view_is
    (record { rows = took.rows; columns = took.columns })

pub returns-clause-steps : goal.returns-clause-steps
returns-clause-steps g c =
    let law = c.tables_by_items.ensures in
    let new = c.change.new.self in
    subst (λ sheet. c.change.new.steps ≤ c.args.steps.now + 2 * lines_on c.args.axis sheet.table.rows sheet.table.cols
    + 2 * lines_on c.args.axis (size_after c.args.axis c.args.change.now sheet.table.rows sheet.table.cols).0
    (size_after c.args.axis c.args.change.now sheet.table.rows sheet.table.cols).1
    + 2 * (filled_places sheet.table - filled_places (table_from new))) c.self.view_is
    (omega (
      arith,
      c.change.ensures.steps,
      filled-table law c.self.inside.cells c.self.invariant,
      filled-table law
          new c.change.ensures.grid,
    ))
