use Rattle.std.proofs.Common.{◌≡◌, sym, ap, subst, ◌∙◌}
use Rattle.dimension_ops.specs.RangeRequests.{IsRangeDropped}
use Rattle.dimension_ops.proofs.RangeAnswers.{dropped_of, range_dropped}
use Rattle.dimension_ops.proofs.ranges.drop_range.Goals.{in-Ok, in-Err}
use Rattle.dimension_ops.proofs.ranges.drop_range.Goals as goal

pub returns : goal.returns
returns c =
    let told : c.match-drop_name.result ≡ dropped_of c.drop_name.result = elim c.match-drop_name.branch [
      | in-Ok w ↦ w.result-is ∙ sym (ap dropped_of w.in-Ok.is)
      | in-Err w ↦ w.result-is ∙ sym (ap dropped_of w.in-Err.is)
    ] in
    subst (IsRangeDropped c.args.id.now c.args.book.now c.drop_name.new.self) (sym told)
    (range_dropped c.ranges_deleted.ensures c.args.id.now c.args.book.now c.drop_name.new.self c.drop_name.result
    c.drop_name.ensures.no_id c.drop_name.ensures.no_other c.drop_name.ensures.left c.drop_name.ensures.unchanged)
