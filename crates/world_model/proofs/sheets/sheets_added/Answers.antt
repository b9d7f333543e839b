use Rattle.world_model.proofs.SheetAdded.{added_changes, added_sound}
use Rattle.world_model.proofs.sheets.sheets_added.Goals as goal

pub returns : goal.returns
returns c = record {
  stays = λ book at sheet sound room. added_sound c.tables_by_items.ensures.empty book at sheet room sound;
  changes = λ book at sheet room. added_changes c.tables_by_items.ensures.empty book at sheet room;
}
