use Rattle.std.proofs.Common.{rules, not}
use Rattle.std.specs.Prelude.{◌==◌}
use Rattle.indexmap.proofs.CallerLemmas.{filter-RetainsPairs}
use Rattle.named_ranges.specs.Kept.{Entry}
use Rattle.named_ranges.proofs.following.keep_elsewhere.Goals as goal

pub returns : goal.returns
returns c =
    filter-RetainsPairs _ (λ (entry : Entry). not (entry.1.area.sheet == c.args.sheet)) _
    (λ k v b w g h. search rules) _ _ c.retain.ensures.filtered
