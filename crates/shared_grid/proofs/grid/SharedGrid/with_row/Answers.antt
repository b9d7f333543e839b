use Rattle.std.proofs.Common.{◌<◌, ◌++◌, ℕ, map, length, sym, ap, subst, ◌∙◌, arith}
use Rattle.std.specs.Prelude.{Contains}
use Rattle.std.proofs.lemmas.Result.{IfOk-weaker}
use Rattle.shared_grid.specs.Orders.{LineOrder, IsPlain}
use Rattle.shared_grid.specs.Orders.{place_noted}
use Rattle.shared_grid.specs.Cells.{across_in}
use Rattle.shared_grid.proofs.Listed.{column_there, row_halves, row_more}
use Rattle.shared_grid.proofs.grid.SharedGrid.with_row.Goals as goal

pub number-number-requires : goal.number-number-requires
number-number-requires g c = record {
  order = c.self.invariant.rows_are;
  there = omega (arith, ap (λ s. s.table.rows) c.self.view_is, c.requires);
}

pub returns-then-is_plain-2 : goal.returns-then-is_plain-2
returns-then-is_plain-2 g c =
    let there : c.args.row < c.self.inside.rows.count =
    omega (arith, ap (λ s. s.table.rows) c.self.view_is, c.requires) in
    let plain_rows = subst IsPlain c.value.ensures (c.is_plain.ensures c.if-is_plain.true) in
    let plain_columns = subst IsPlain c.value-columns.ensures (c.is_plain-then-is_plain.ensures c.if-is_plain-2.true) in
    IfOk-weaker c.row_behind.result _ _ (λ places listed first are.
    row_more c.tables_by_items.ensures c.self.inside.rows c.self.inside.columns c.self.inside.cells c.self.invariant
    c.args.self.now c.self.view_is c.args.row c.number-number.result there c.number-number.ensures
    listed.keys listed.are
    first c.args.before.items places.items
    (listed.is ∙ ap (λ more. c.args.before.items ++ more)
    (row_halves c.tables_by_items.ensures c.self.inside.rows c.self.inside.columns c.self.inside.cells c.self.invariant
    c.args.self.now c.self.view_is c.args.row c.number-number.result there c.number-number.ensures
    listed.keys listed.are
    plain_rows plain_columns))
    are) c.row_behind.ensures

pub put_places-requires : goal.put_places-requires
put_places-requires g c = λ key has.
    subst (λ (order : LineOrder). across_in key < length order.places) (sym c.value-columns.ensures)
    (column_there c.tables_by_items.ensures c.self.inside.rows c.self.inside.columns c.self.inside.cells
    c.self.invariant
    c.args.self.now c.self.view_is c.args.row c.number-number.result
    (omega (arith, ap (λ s. s.table.rows) c.self.view_is, c.requires)) c.number-number.ensures c.in_ok-keys.keys.items
    c.in_ok-keys.ensures key (subst (λ keys. Contains keys key) c.as_slice.ensures.value has))

pub returns : goal.returns
returns g c = λ first are.
    row_more c.tables_by_items.ensures c.self.inside.rows c.self.inside.columns c.self.inside.cells c.self.invariant
    c.args.self.now c.self.view_is c.args.row c.number-number.result
    (omega (arith, ap (λ s. s.table.rows) c.self.view_is, c.requires)) c.number-number.ensures c.in_ok-keys.keys.items
    c.in_ok-keys.ensures first c.args.before.items c.put_places.new.places.items
    (c.in_ok-put_places.ensures ∙ (λ i. c.args.before.items
    ++ map (λ (key : ℕ). (c.args.row, place_noted (c.value-columns.ensures i) (across_in key)))
    (c.as_slice.ensures.value i)))
    are
