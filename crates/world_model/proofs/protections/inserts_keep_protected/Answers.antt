use Rattle.world_model.proofs.Inserts.{inserts_keep_protected}
use Rattle.world_model.proofs.protections.inserts_keep_protected.Goals as goal

pub returns : goal.returns
returns c = record {
  kept = inserts_keep_protected c.tracks_all.ensures c.places_all.ensures c.orders_stay.ensures;
}
