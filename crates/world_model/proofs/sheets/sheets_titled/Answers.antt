use Rattle.world_model.proofs.SheetMarked.{titled_changes, titled_sound}
use Rattle.world_model.proofs.sheets.sheets_titled.Goals as goal

pub returns : goal.returns
returns c = record {
  stays = λ book id title sound some free. titled_sound id title book sound some free;
  changes = titled_changes;
}
