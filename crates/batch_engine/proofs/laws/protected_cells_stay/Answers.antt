use Rattle.batch_engine.proofs.Protected.{protected_cells_stay}
use Rattle.batch_engine.proofs.laws.protected_cells_stay.Goals as goal

pub returns : goal.returns
returns c = record { call = protected_cells_stay c.protected_cells_keep.ensures }
