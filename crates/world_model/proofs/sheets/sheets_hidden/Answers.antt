use Rattle.world_model.proofs.SheetMarked.{hidden_changes, hidden_sound}
use Rattle.world_model.proofs.sheets.sheets_hidden.Goals as goal

pub returns : goal.returns
returns c = record {
  stays = λ book id hidden sound visible. hidden_sound id hidden book sound visible;
  changes = hidden_changes;
}
