use Rattle.merge_ranges.proofs.Changing.{followed_stay}
use Rattle.merge_ranges.proofs.laws.followed_stay_merges.Goals as goal

pub returns : goal.returns
returns c = followed_stay c.tracks_stay_within.ensures c.spans_stay_apart.ensures
