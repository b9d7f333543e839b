use Rattle.std.proofs.Common.{◌↔◌, ℕ, Contains, List, sym, subst, ap, ◌∙◌}
use Rattle.grid_range.specs.Area.{by_rows}
use Rattle.std.specs.List.{IsDistinct}
use Rattle.std.specs.Ordering.{eq_by_cmp}
use Rattle.values_api.specs.Tables.{columns_first}
use Rattle.values_api.proofs.Stored.{are_stored, sorted_columns_apart}
use Rattle.values_api.proofs.table.Stored.of.Goals as goal

pub held_by_rows-requires : goal.held_by_rows-requires
held_by_rows-requires c = record {
  distinct =
      subst (IsDistinct (eq_by_cmp by_rows)) (sym (c.in_ok-by_cols.ensures ∙ ap columns_first c.as_slice.ensures))
      (sorted_columns_apart c.in_ok-by_rows.by_rows c.in_ok-by_rows.ensures.in_order);
}

pub returns-clause-stored : goal.returns-clause-stored
returns-clause-stored c =
    are_stored c.id.result c.args.sheet.now.table c.requires.inside c.in_ok-by_rows.by_rows c.held_by_rows.result
    c.in_ok-by_rows.ensures c.rows.result c.cols.result c.rows.ensures c.cols.ensures c.requires.few
    c.held_by_rows.ensures.in_order
    (subst (λ (listed : List (ℕ × ℕ)). (row col : ℕ)
    → Contains c.held_by_rows.result (row, col) ↔ ((Unit {0} × Unit {0}) × Contains listed (row, col)))
    (c.in_ok-by_cols.ensures ∙ ap columns_first c.as_slice.ensures) c.held_by_rows.ensures.exactly)
