use Rattle.world_model.proofs.RangesChanged.{changed_changes, changed_sound}
use Rattle.world_model.proofs.ranges.ranges_changed.Goals as goal

pub returns : goal.returns
returns c = record { stays = changed_sound; changes = changed_changes }
