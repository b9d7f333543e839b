use Rattle.std.proofs.Common.{◌≡◌, ◌<◌, ◌+◌, ◌++◌, ℕ, map, length, sym, ap, subst, ◌∙◌, arith}
use Rattle.std.specs.Prelude.{Contains}
use Rattle.shared_grid.specs.Orders.{LineOrder}
use Rattle.shared_grid.specs.Orders.{place_noted}
use Rattle.shared_grid.specs.Cells.{across_in}
use Rattle.shared_grid.specs.Sheets.{AreOnColumns}
use Rattle.shared_grid.proofs.Listed.{row_is_there, column_more}
use Rattle.shared_grid.proofs.Views.{on_ok}
use Rattle.shared_grid.proofs.grid.SharedGrid.put_column.Goals as goal

pub number-requires : goal.number-requires
number-requires g c = record {
  order = c.self.invariant.columns_are;
  there = omega (arith, ap (λ s. s.table.cols) c.self.view_is, c.requires);
}

pub put_column_places-requires : goal.put_column_places-requires
put_column_places-requires g c = λ mark has.
    subst (λ (order : LineOrder). across_in mark < length order.places) (sym c.value.ensures)
    (row_is_there c.tables_by_items.ensures c.self.inside.rows c.self.inside.columns c.self.inside.cells
    c.self.invariant
    c.args.self.now c.self.view_is c.args.column c.number.result
    (omega (arith, ap (λ s. s.table.cols) c.self.view_is, c.requires)) c.number.ensures c.in_ok-marks.marks.items
    c.in_ok-marks.ensures
    mark (subst (λ marks. Contains marks mark) c.as_slice.ensures.value has))

pub returns : goal.returns
returns g c =
    let step : (c.put_column_places.new.places.items ≡ c.args.places.now.items
    ++ map (λ (mark : ℕ). (place_noted c.value.result.now (across_in mark), c.args.column)) c.as_slice.result.now)
    → (first : ℕ) → AreOnColumns first c.args.column c.args.self.now.table c.args.places.now.items
    → AreOnColumns first (c.args.column + 1) c.args.self.now.table c.put_column_places.new.places.items =
    λ is first are.
    column_more c.tables_by_items.ensures c.self.inside.rows c.self.inside.columns c.self.inside.cells c.self.invariant
    c.args.self.now c.self.view_is c.args.column c.number.result
    (omega (arith, ap (λ s. s.table.cols) c.self.view_is, c.requires)) c.number.ensures c.in_ok-marks.marks.items
    c.in_ok-marks.ensures
    first c.args.places.now.items c.put_column_places.new.places.items
    (is ∙ (λ i. c.args.places.now.items
    ++ map (λ (mark : ℕ). (place_noted (c.value.ensures i) (across_in mark), c.args.column))
    (c.as_slice.ensures.value i))) are in
    on_ok step c.put_column_places.result c.put_column_places.ensures
