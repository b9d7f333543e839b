use Rattle.std.proofs.Common.{ℕ, sym, ap, ◌∙◌, get_or}
use Rattle.dimension_ops.specs.Losing.{lost_at}
use Rattle.dimension_ops.proofs.Marked.{keeps_on}
use Rattle.dimension_ops.proofs.Places.{fold_more}
use Rattle.dimension_ops.proofs.losing.lose_places.Goals as goal

pub loop-place-preserved : goal.loop-place-preserved
loop-place-preserved c =
    let place : ℕ × ℕ = get_or c.args.places.now c.loop-place.place-index (0, 0) in
    record {
      lost = c.in_ok-lose_at.ensures.lost ∙ ap (λ table. lost_at c.args.sheet table place) c.loop-place.invariant.lost
          ∙ sym (fold_more (lost_at c.args.sheet) c.args.cells.now.table c.args.places.now
          c.loop-place.place-index (0, 0)
          c.loop-place-test.true);
      formulas = keeps_on c.args.cells.now.table c.loop-place.cells.table c.lose_at.new.cells.table
          c.loop-place.invariant.formulas c.lose_at.ensures.formulas;
    }
