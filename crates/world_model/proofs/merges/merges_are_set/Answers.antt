use Rattle.world_model.proofs.MergesSet.{merged_changes, merged_sound}
use Rattle.world_model.proofs.merges.merges_are_set.Goals as goal

pub returns : goal.returns
returns c = record {
  stays = λ book id merges sound can. merged_sound id merges book sound can;
  changes = merged_changes;
}
