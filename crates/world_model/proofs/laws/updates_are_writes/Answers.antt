use Rattle.world_model.proofs.Updated as updated
use Rattle.world_model.proofs.laws.updates_are_writes.Goals as goal

pub returns : goal.returns
returns c = record {
  none = updated.none_updated;
  put = updated.one_updated;
  sizes = updated.sizes_stay;
  same = updated.same_updated;
}
