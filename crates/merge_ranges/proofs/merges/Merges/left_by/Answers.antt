use Rattle.std.proofs.Common.{ap, subst, ◌∙◌, length}
use Rattle.merge_ranges.specs.Merges.{AreMerges}
use Rattle.merge_ranges.specs.Tests.{left_count}
use Rattle.merge_ranges.proofs.Merging.{left_is}
use Rattle.merge_ranges.proofs.merges.Merges.left_by.Goals as goal

pub returns-clause-left : goal.returns-clause-left
returns-clause-left c left lists =
    c.left_count.ensures ∙ ap (left_count c.args.area.now) (c.as_slice.ensures ∙ c.self.view_is)
    ∙ ap length (left_is c.args.area.now c.args.self.now (subst AreMerges c.self.view_is c.self.invariant) left lists)
