use Rattle.world_model.proofs.MetadataSet.{set_changes, set_sound}
use Rattle.world_model.proofs.metadata.metadata_is_set.Goals as goal

pub returns : goal.returns
returns c = record { stays = set_sound; changes = set_changes }
