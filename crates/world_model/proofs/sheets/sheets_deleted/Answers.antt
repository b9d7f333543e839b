use Rattle.world_model.proofs.SheetDeleted.{deleted_changes, deleted_sound, lost_sound}
use Rattle.world_model.proofs.sheets.sheets_deleted.Goals as goal

pub returns : goal.returns
returns c = record { stays = deleted_sound; changes = deleted_changes; lost = lost_sound }
