-- Laws of the order of areas by their first cells: it is a total one, none comes before itself, and rectangles with one
-- first cell have it in common.
use Rattle.std.proofs.Common.{◌≡◌, ℕ, sym, ap, subst, ◌∙◌}
use Rattle.std.specs.Cmp.{IsTotalOrder, nat_cmp_total}
use Rattle.std.specs.Ordering.{ordering_reverse}
use Rattle.std.specs.declared.cmp.Ordering.TheVariants.{Less, Greater}
use Rattle.std.proofs.lemmas.Cmp.{on_total, then_total}
use Rattle.grid_range.specs.Area.{first_cell}
use Rattle.grid_range.specs.Band.{HasLine, first_line}
use Rattle.grid_range.specs.declared.area.Area.{Area}
use Rattle.merge_ranges.specs.EndsLaws.{has_first}
use Rattle.merge_ranges.specs.Merges.{IsRectangle, Overlap, by_first_cell}

-- the order is a total one
pub by_first_total : IsTotalOrder by_first_cell
by_first_total = then_total (on_total (λ (a : Area). first_line a.rows) nat_cmp_total)
    (on_total (λ (a : Area). first_line a.cols) nat_cmp_total)

-- no area comes before itself
pub not_before_itself : (area : Area) → ¬ (by_first_cell area area ≡ Less)
not_before_itself area less =
    let turned : Less ≡ Greater = sym less ∙ by_first_total.antisymm area area ∙ ap ordering_reverse less in
    cc

-- rectangles with one first cell have it in common
pub first_met : (one other : Area) → IsRectangle one → IsRectangle other → first_cell one ≡ first_cell other
    → Overlap one other
first_met one other is is' same = record {
  row = first_line one.rows;
  col = first_line one.cols;
  one_holds = (has_first one.rows is.0, has_first one.cols is.1);
  other_holds = (
    subst (HasLine other.rows) (sym (ap (λ (p : ℕ × ℕ). p.0) same)) (has_first other.rows is'.0),
    subst (HasLine other.cols) (sym (ap (λ (p : ℕ × ℕ). p.1) same)) (has_first other.cols is'.1),
  );
}
