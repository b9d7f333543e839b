use Rattle.std.proofs.Common.{rules, not}
use Rattle.indexmap.proofs.CallerLemmas.{filter-RetainsPairs}
use Rattle.dev_metadata.specs.Lookup.{finds}
use Rattle.dev_metadata.specs.Kept.{Entry}
use Rattle.dev_metadata.proofs.following.drop_found.Goals as goal

pub returns : goal.returns
returns c =
    filter-RetainsPairs _ (λ (entry : Entry). not (finds c.args.lookup.now c.args.project.now entry.1)) _
    (λ k v b w g h. search rules) _ _ c.retain.ensures.filtered
