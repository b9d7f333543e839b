-- The lemma is the law.
use Rattle.grid_range.proofs.Exactly.{places_stay_apart}
use Rattle.grid_range.proofs.tracking_laws.places_stay_apart.Goals as goal

pub returns : goal.returns
returns c = places_stay_apart
