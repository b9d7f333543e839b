use Rattle.values_api.proofs.CellsUpdated.{areas_empty}
use Rattle.values_api.proofs.laws.areas_empty.Goals as goal

pub returns : goal.returns
returns c = areas_empty c.updates_are_writes.ensures c.writes_stay_sound.ensures c.updates_follow.ensures
