use Rattle.world_model.proofs.ProtectionsSet.{set_changes, set_sound}
use Rattle.world_model.proofs.protections.protections_are_set.Goals as goal

pub returns : goal.returns
returns c = record { stays = set_sound; changes = set_changes }
