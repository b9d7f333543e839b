use Rattle.world_model.proofs.FilterSet.{set_changes, set_sound}
use Rattle.world_model.proofs.filters.filter_is_set.Goals as goal

pub returns : goal.returns
returns c = record { stays = set_sound; changes = set_changes }
