use Rattle.world_model.proofs.RangesChanged.{added_changes, added_sound}
use Rattle.world_model.proofs.ranges.ranges_added.Goals as goal

pub returns : goal.returns
returns c = record { stays = added_sound; changes = added_changes }
