use Rattle.values_api.proofs.Answering.{reads_answered}
use Rattle.values_api.proofs.laws.reads_answered.Goals as goal

pub returns : goal.returns
returns c = reads_answered c.has_values.ensures c.ids_find.ensures
