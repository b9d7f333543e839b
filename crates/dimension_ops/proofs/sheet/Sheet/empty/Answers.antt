use Rattle.std.proofs.Common.{sym, ap, ◌∙◌}
use Rattle.world_model.specs.Counts.{formulas_in}
use Rattle.dimension_ops.proofs.Marked.{none_marked}
use Rattle.dimension_ops.proofs.sheet.Sheet.empty.Goals as goal

pub invariant_of-result : goal.invariant_of-result
invariant_of-result c = (
  sym (ap formulas_in c.in_ok-new.ensures.empty ∙ c.formulas_counted.ensures.none c.args.rows c.args.cols),
  none_marked c.args.rows c.args.cols _ _ c.in_ok-new.ensures.empty c.in_ok-new-2.ensures.empty,
)
