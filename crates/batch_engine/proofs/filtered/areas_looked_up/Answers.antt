use Rattle.std.proofs.Common.{◌∙◌}
use Rattle.std.proofs.lemmas.List.Elements.{All-same}
use Rattle.values_api.specs.Ranges.{IsThere}
use Rattle.world_model.specs.Sound.{IsItemWithin}
use Rattle.batch_engine.proofs.Filtering.{items_there, seen_hold}
use Rattle.batch_engine.proofs.filtered.areas_looked_up.Goals as goal

pub areas_of_items-requires : goal.areas_of_items-requires
areas_of_items-requires c =
    All-same (IsItemWithin c.args.book.now.sheets) _ _
    (c.as_slice-2.ensures ∙ (rw c.metadata.ensures at c.in_ok-items.ensures))
    (seen_hold c.args.project.now (IsItemWithin c.args.book.now.sheets) c.args.book.now.metadata
    c.stays_sound.ensures.metadata c.as_slice.result.now)

pub returns-clause-there : goal.returns-clause-there
returns-clause-there c =
    All-same (IsThere c.args.book.now.sheets) _ _ c.in_ok-areas_of_items.ensures
    (items_there c.args.book.now.sheets c.as_slice-2.result.now
    (All-same (IsItemWithin c.args.book.now.sheets) _ _
    (c.as_slice-2.ensures ∙ (rw c.metadata.ensures at c.in_ok-items.ensures))
    (seen_hold c.args.project.now (IsItemWithin c.args.book.now.sheets) c.args.book.now.metadata
    c.stays_sound.ensures.metadata c.as_slice.result.now)))
