use Rattle.std.proofs.Common.{◌≡◌, sym, ap, subst, ◌∙◌, arith}
use Rattle.std.specs.FinMap as map
use Rattle.std.specs.Prelude.{IfOk}
use Rattle.shared_grid.specs.Cells.{key_of}
use Rattle.shared_grid.specs.Sheets.{sheet_of, IsSheet}
use Rattle.shared_grid.proofs.Marks.{either}
use Rattle.shared_grid.proofs.Views.{item-view, put-view, put_is, on_ok}
use Rattle.shared_grid.proofs.grid.SharedGridCellStore.put.Goals as goal

pub number-row_number-requires : goal.number-row_number-requires
number-row_number-requires g c = record {
  order = c.self.invariant.rows_are;
  there = omega (arith, ap (λ s. s.table.rows) c.self.view_is, c.requires.inside.0);
}

pub number-column_number-requires : goal.number-column_number-requires
number-column_number-requires g c = record {
  order = c.self.invariant.columns_are;
  there = omega (arith, ap (λ s. s.table.cols) c.self.view_is, c.requires.inside.1);
}

pub invariant_of-self : goal.invariant_of-self
invariant_of-self g c =
    either (IsSheet c.self.inside.rows c.self.inside.columns) c.put.new.self
    (map.insert c.self.inside.cells (key_of c.number-row_number.result c.number-column_number.result) c.args.item)
    c.self.inside.cells c.put.result c.put.ensures.put c.put.ensures.unchanged
    (subst (λ key. IsSheet c.self.inside.rows c.self.inside.columns (map.insert c.self.inside.cells key c.args.item))
    (sym (λ i. key_of (c.number-row_number.ensures i) (c.number-column_number.ensures i)))
    (put_is c.tables_by_items.ensures c.self.inside.rows c.self.inside.columns c.self.inside.cells
    c.self.invariant c.args.self.now c.self.view_is
    c.args.row c.args.column
    (omega (arith, ap (λ s. s.table.rows) c.self.view_is, c.requires.inside.0))
    (omega (arith, ap (λ s. s.table.cols) c.self.view_is, c.requires.inside.1)) c.args.item))
    c.self.invariant

pub returns-clause-old : goal.returns-clause-old
returns-clause-old g c =
    subst (λ found. IfOk c.put.result (λ old. old ≡ found))
    (ap (map.get c.self.inside.cells) (λ i. key_of (c.number-row_number.ensures i) (c.number-column_number.ensures i))
    ∙ item-view c.tables_by_items.ensures c.self.inside.rows c.self.inside.columns c.self.inside.cells
    c.self.invariant c.args.self.now c.self.view_is
    c.args.row c.args.column
    (omega (arith, ap (λ s. s.table.rows) c.self.view_is, c.requires.inside.0))
    (omega (arith, ap (λ s. s.table.cols) c.self.view_is, c.requires.inside.1)))
    c.put.ensures.old

pub returns-clause-put : goal.returns-clause-put
returns-clause-put g c =
    on_ok (λ (is : c.put.new.self ≡ map.insert c.self.inside.cells
    (key_of c.number-row_number.result c.number-column_number.result) c.args.item).
    ap (sheet_of c.self.inside.rows c.self.inside.columns)
    (is ∙ ap (λ key. map.insert c.self.inside.cells key c.args.item)
    (λ i. key_of (c.number-row_number.ensures i) (c.number-column_number.ensures i)))
    ∙ put-view c.tables_by_items.ensures c.self.inside.rows c.self.inside.columns c.self.inside.cells
    c.self.invariant c.args.self.now c.self.view_is
    c.args.row c.args.column
    (omega (arith, ap (λ s. s.table.rows) c.self.view_is, c.requires.inside.0))
    (omega (arith, ap (λ s. s.table.cols) c.self.view_is, c.requires.inside.1)) c.args.item)
    c.put.result c.put.ensures.put
