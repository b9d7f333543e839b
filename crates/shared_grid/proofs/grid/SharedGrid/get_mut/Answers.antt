use Rattle.std.proofs.Common.{refl, sym, ap, subst, ◌∙◌}
use Rattle.std.specs.FinMap as map
use Rattle.std.specs.Prelude.{is_some, is_ok}
use Rattle.shared_grid.specs.Cells.{key_of}
use Rattle.shared_grid.specs.Sheets.{sheet_of, IsSheet}
use Rattle.shared_grid.proofs.Views.{item-view, put-view, put_is, held-view}
use Rattle.shared_grid.proofs.grid.SharedGrid.get_mut.Goals as goal

pub number-row_number-requires : goal.number-row_number-requires
number-row_number-requires g c =
    let there = held-view c.tables_by_items.ensures c.self.inside.rows c.self.inside.columns c.self.inside.cells
    c.self.invariant c.args.self.now c.self.view_is c.args.row c.args.column c.requires.held in
    record {
      order = c.self.invariant.rows_are;
      there = there.0;
    }

pub number-column_number-requires : goal.number-column_number-requires
number-column_number-requires g c =
    let there = held-view c.tables_by_items.ensures c.self.inside.rows c.self.inside.columns c.self.inside.cells
    c.self.invariant c.args.self.now c.self.view_is c.args.row c.args.column c.requires.held in
    record {
      order = c.self.invariant.columns_are;
      there = there.1;
    }

pub get_mut-requires : goal.get_mut-requires
get_mut-requires g c =
    let there = held-view c.tables_by_items.ensures c.self.inside.rows c.self.inside.columns c.self.inside.cells
    c.self.invariant c.args.self.now c.self.view_is c.args.row c.args.column c.requires.held in
    record {
      held = ap (λ item. is_some item)
          (ap (map.get c.self.inside.cells)
          (λ i. key_of (c.number-row_number.ensures i) (c.number-column_number.ensures i))
          ∙ item-view c.tables_by_items.ensures c.self.inside.rows c.self.inside.columns c.self.inside.cells
          c.self.invariant c.args.self.now c.self.view_is
          c.args.row c.args.column there.0 there.1) ∙ c.requires.held;
    }

pub invariant_of-self-lent : goal.invariant_of-self-lent
invariant_of-self-lent g c = λ w.
    let there = held-view c.tables_by_items.ensures c.self.inside.rows c.self.inside.columns c.self.inside.cells
    c.self.invariant c.args.self.now c.self.view_is c.args.row c.args.column c.requires.held in
    subst (IsSheet c.self.inside.rows c.self.inside.columns)
    (sym (c.get_mut.follows.holds w (ap is_ok c.in-Ok.is)
    ∙ ap (λ key. map.insert c.self.inside.cells key w)
    (λ i. key_of (c.number-row_number.ensures i) (c.number-column_number.ensures i))))
    (put_is c.tables_by_items.ensures c.self.inside.rows c.self.inside.columns c.self.inside.cells
    c.self.invariant c.args.self.now c.self.view_is
    c.args.row c.args.column there.0 there.1 w)

pub returns-in-Ok : goal.returns-in-Ok
returns-in-Ok g c =
    let there = held-view c.tables_by_items.ensures c.self.inside.rows c.self.inside.columns c.self.inside.cells
    c.self.invariant c.args.self.now c.self.view_is c.args.row c.args.column c.requires.held in (
      (
        refl,
        (λ w _.
            ap (sheet_of c.self.inside.rows c.self.inside.columns)
            (c.get_mut.follows.holds w (ap is_ok c.in-Ok.is)
            ∙ ap (λ key. map.insert c.self.inside.cells key w)
            (λ i. key_of (c.number-row_number.ensures i) (c.number-column_number.ensures i)))
            ∙ put-view c.tables_by_items.ensures c.self.inside.rows c.self.inside.columns c.self.inside.cells
            c.self.invariant c.args.self.now c.self.view_is
            c.args.row c.args.column there.0 there.1 w),
        tt,
      ),
      record {
        writes_back = tt;
        item =
            sym (item-view c.tables_by_items.ensures c.self.inside.rows c.self.inside.columns c.self.inside.cells
            c.self.invariant c.args.self.now c.self.view_is
            c.args.row c.args.column there.0 there.1)
            ∙ ap (map.get c.self.inside.cells)
            (sym (λ i. key_of (c.number-row_number.ensures i) (c.number-column_number.ensures i)))
            ∙ c.in-Ok.ensures.item;
      },
    )
