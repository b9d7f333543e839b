use Rattle.world_model.proofs.Changed as changed
use Rattle.world_model.proofs.laws.changes_follow.Goals as goal

pub returns : goal.returns
returns c = record {
  follows = changed.changes_follow c.tracks_all.ensures c.places_all.ensures c.orders_stay.ensures
      c.tracks_stay_within.ensures c.places_stay_below.ensures c.followed_stay_merges.ensures;
}
