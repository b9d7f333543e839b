use Rattle.std.proofs.Common.{◌∙◌}
use Rattle.merge_ranges.proofs.Merging.{no_merges}
use Rattle.merge_ranges.proofs.merges.Merges.new.Goals as goal

pub invariant_of-result : goal.invariant_of-result
invariant_of-result c = no_merges _ (c.of.ensures ∙ c.new.ensures.items)
