use Rattle.values_api.proofs.Readable.{reads_once}
use Rattle.values_api.proofs.laws.shows_once.Goals as goal

pub returns : goal.returns
returns c = reads_once c.values_once.ensures
