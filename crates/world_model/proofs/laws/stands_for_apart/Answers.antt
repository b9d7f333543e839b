use Rattle.world_model.proofs.Apart as apart
use Rattle.world_model.proofs.laws.stands_for_apart.Goals as goal

pub returns : goal.returns
returns c = record { same = apart.stands_for_apart c.tables_by_items.ensures c.lists_are_same.ensures }
