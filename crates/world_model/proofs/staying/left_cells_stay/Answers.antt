use Rattle.world_model.proofs.Leaving as leaving
use Rattle.world_model.proofs.staying.left_cells_stay.Goals as goal

pub returns : goal.returns
returns c = record { stays = leaving.all_stay }
