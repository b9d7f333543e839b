use Rattle.std.proofs.Common.{ℕ, sym, ap, ◌∙◌, get_or}
use Rattle.dimension_ops.specs.Renaming.{renamed_at}
use Rattle.dimension_ops.proofs.Marked.{keeps_on}
use Rattle.dimension_ops.proofs.Places.{fold_more}
use Rattle.dimension_ops.proofs.renaming.rename_places.Goals as goal

pub loop-place-preserved : goal.loop-place-preserved
loop-place-preserved c =
    let place : ℕ × ℕ = get_or c.args.places.now c.loop-place.place-index (0, 0) in
    let at = renamed_at c.args.old.now c.args.new.now in
    record {
      renamed = c.in_ok-rename_at.ensures.renamed ∙ ap (λ table. at table place) c.loop-place.invariant.renamed
          ∙ sym (fold_more at c.args.cells.now.table c.args.places.now c.loop-place.place-index (0, 0)
          c.loop-place-test.true);
      formulas = keeps_on c.args.cells.now.table c.loop-place.cells.table c.rename_at.new.cells.table
          c.loop-place.invariant.formulas c.rename_at.ensures.formulas;
    }
