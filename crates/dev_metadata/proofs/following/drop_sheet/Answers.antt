use Rattle.std.proofs.Common.{rules, not}
use Rattle.indexmap.proofs.CallerLemmas.{filter-RetainsPairs}
use Rattle.dev_metadata.specs.Spot.{is_on_sheet}
use Rattle.dev_metadata.specs.Kept.{Entry}
use Rattle.dev_metadata.proofs.following.drop_sheet.Goals as goal

pub returns : goal.returns
returns c =
    filter-RetainsPairs _ (λ (entry : Entry). not (is_on_sheet c.args.sheet entry.1.spot)) _
    (λ k v b w g h. search rules) _ _ c.retain.ensures.filtered
