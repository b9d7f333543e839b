use Rattle.world_model.proofs.RangesChanged.{deleted_changes, deleted_sound}
use Rattle.world_model.proofs.ranges.ranges_deleted.Goals as goal

pub returns : goal.returns
returns c = record { stays = deleted_sound; changes = deleted_changes }
