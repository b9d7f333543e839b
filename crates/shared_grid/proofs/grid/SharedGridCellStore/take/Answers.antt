use Rattle.std.proofs.Common.{◌≡◌, sym, ap, subst, ◌∙◌, arith}
use Rattle.std.specs.FinMap as map
use Rattle.std.specs.Prelude.{IfOk, OnErr}
use Rattle.std.specs.Option.{IsSome}
use Rattle.shared_grid.specs.Cells.{key_of}
use Rattle.shared_grid.specs.Sheets.{sheet_of, IsSheet}
use Rattle.shared_grid.proofs.Marks.{either}
use Rattle.shared_grid.proofs.Views.{item-view, none-view, none_taken-view, taken-view, taken_is, on_ok}
use Rattle.shared_grid.proofs.grid.SharedGridCellStore.take.Goals as goal

pub returns-then-row-count-clause-item : goal.returns-then-row-count-clause-item
returns-then-row-count-clause-item g c =
    none-view c.tables_by_items.ensures c.self.inside.rows c.self.inside.columns c.self.inside.cells
    c.self.invariant c.args.self.now c.self.view_is
    c.args.row c.args.column (λ there. let less = there.0 in omega (arith, c.count.ensures, c.if-row-count.true))

pub returns-then-row-count-clause-taken : goal.returns-then-row-count-clause-taken
returns-then-row-count-clause-taken g c =
    none_taken-view c.tables_by_items.ensures c.self.inside.rows c.self.inside.columns c.self.inside.cells
    c.self.invariant c.args.self.now c.self.view_is
    c.args.row c.args.column (λ there. let less = there.0 in omega (arith, c.count.ensures, c.if-row-count.true))

pub returns-then-column-count-clause-item : goal.returns-then-column-count-clause-item
returns-then-column-count-clause-item g c =
    none-view c.tables_by_items.ensures c.self.inside.rows c.self.inside.columns c.self.inside.cells
    c.self.invariant c.args.self.now c.self.view_is
    c.args.row c.args.column (λ there. let less = there.1 in omega (arith, c.count-2.ensures, c.if-column-count.true))

pub returns-then-column-count-clause-taken : goal.returns-then-column-count-clause-taken
returns-then-column-count-clause-taken g c =
    none_taken-view c.tables_by_items.ensures c.self.inside.rows c.self.inside.columns c.self.inside.cells
    c.self.invariant c.args.self.now c.self.view_is
    c.args.row c.args.column (λ there. let less = there.1 in omega (arith, c.count-2.ensures, c.if-column-count.true))

pub invariant_of-self : goal.invariant_of-self
invariant_of-self g c =
    either (IsSheet c.self.inside.rows c.self.inside.columns) c.take.new.self
    (map.remove c.self.inside.cells (key_of c.number-row_number.result c.number-column_number.result))
    c.self.inside.cells c.take.result c.take.ensures.taken c.take.ensures.unchanged
    (subst (λ key. IsSheet c.self.inside.rows c.self.inside.columns (map.remove c.self.inside.cells key))
    (sym (λ i. key_of (c.number-row_number.ensures i) (c.number-column_number.ensures i)))
    (taken_is c.tables_by_items.ensures c.self.inside.rows c.self.inside.columns c.self.inside.cells
    c.self.invariant c.args.self.now c.self.view_is
    c.args.row c.args.column
    (omega (arith, c.count.ensures, c.if-row-count.false)) (omega (arith, c.count-2.ensures, c.if-column-count.false))))
    c.self.invariant

pub returns-clause-item : goal.returns-clause-item
returns-clause-item g c =
    subst (λ found. IfOk c.take.result (λ item. item ≡ found))
    (ap (map.get c.self.inside.cells) (λ i. key_of (c.number-row_number.ensures i) (c.number-column_number.ensures i))
    ∙ item-view c.tables_by_items.ensures c.self.inside.rows c.self.inside.columns c.self.inside.cells
    c.self.invariant c.args.self.now c.self.view_is
    c.args.row c.args.column
    (omega (arith, c.count.ensures, c.if-row-count.false)) (omega (arith, c.count-2.ensures, c.if-column-count.false)))
    c.take.ensures.item

pub returns-clause-taken : goal.returns-clause-taken
returns-clause-taken g c =
    on_ok (λ (is : c.take.new.self ≡ map.remove c.self.inside.cells
    (key_of c.number-row_number.result c.number-column_number.result)).
    ap (sheet_of c.self.inside.rows c.self.inside.columns)
    (is ∙ ap (map.remove c.self.inside.cells)
    (λ i. key_of (c.number-row_number.ensures i) (c.number-column_number.ensures i)))
    ∙ taken-view c.tables_by_items.ensures c.self.inside.rows c.self.inside.columns c.self.inside.cells
    c.self.invariant c.args.self.now c.self.view_is
    c.args.row c.args.column
    (omega (arith, c.count.ensures, c.if-row-count.false)) (omega (arith, c.count-2.ensures, c.if-column-count.false)))
    c.take.result c.take.ensures.taken

pub returns-clause-held : goal.returns-clause-held
returns-clause-held g c =
    subst (λ found. OnErr c.take.result (IsSome found))
    (ap (map.get c.self.inside.cells) (λ i. key_of (c.number-row_number.ensures i) (c.number-column_number.ensures i))
    ∙ item-view c.tables_by_items.ensures c.self.inside.rows c.self.inside.columns c.self.inside.cells
    c.self.invariant c.args.self.now c.self.view_is
    c.args.row c.args.column
    (omega (arith, c.count.ensures, c.if-row-count.false)) (omega (arith, c.count-2.ensures, c.if-column-count.false)))
    c.take.ensures.held
