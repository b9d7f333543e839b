use Rattle.std.proofs.Common.{ap, ◌∙◌, arith}
use Rattle.std.specs.FinMap as map
use Rattle.shared_grid.specs.Cells.{key_of}
use Rattle.shared_grid.proofs.Views.{item-view, none-view, inside-view}
use Rattle.shared_grid.proofs.grid.SharedGridCellStore.get.Goals as goal

pub returns-then-row-count-clause-item : goal.returns-then-row-count-clause-item
returns-then-row-count-clause-item g c =
    none-view c.tables_by_items.ensures c.self.inside.rows c.self.inside.columns c.self.inside.cells
    c.self.invariant c.args.self.now c.self.view_is
    c.args.row c.args.column (λ there. let less = there.0 in omega (arith, c.count.ensures, c.if-row-count.true))

pub returns-then-row-count-clause-inside : goal.returns-then-row-count-clause-inside
returns-then-row-count-clause-inside g c =
    inside-view c.tables_by_items.ensures c.self.inside.rows c.self.inside.columns c.self.inside.cells
    c.self.invariant c.args.self.now c.self.view_is

pub returns-then-column-count-clause-item : goal.returns-then-column-count-clause-item
returns-then-column-count-clause-item g c =
    none-view c.tables_by_items.ensures c.self.inside.rows c.self.inside.columns c.self.inside.cells
    c.self.invariant c.args.self.now c.self.view_is
    c.args.row c.args.column (λ there. let less = there.1 in omega (arith, c.count-2.ensures, c.if-column-count.true))

pub returns-then-column-count-clause-inside : goal.returns-then-column-count-clause-inside
returns-then-column-count-clause-inside g c =
    inside-view c.tables_by_items.ensures c.self.inside.rows c.self.inside.columns c.self.inside.cells
    c.self.invariant c.args.self.now c.self.view_is

pub returns-clause-item : goal.returns-clause-item
returns-clause-item g c =
    c.get.ensures ∙ ap (map.get c.self.inside.cells)
    (λ i. key_of (c.number-row_number.ensures i) (c.number-column_number.ensures i))
    ∙ item-view c.tables_by_items.ensures c.self.inside.rows c.self.inside.columns c.self.inside.cells
    c.self.invariant c.args.self.now c.self.view_is
    c.args.row c.args.column
    (omega (arith, c.count.ensures, c.if-row-count.false)) (omega (arith, c.count-2.ensures, c.if-column-count.false))

pub returns-clause-inside : goal.returns-clause-inside
returns-clause-inside g c =
    inside-view c.tables_by_items.ensures c.self.inside.rows c.self.inside.columns c.self.inside.cells
    c.self.invariant c.args.self.now c.self.view_is
