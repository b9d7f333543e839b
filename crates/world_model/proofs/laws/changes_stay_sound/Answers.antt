use Rattle.std.specs.Prelude.{◌≡◌}
use Rattle.world_model.proofs.Kept.{if_there}
use Rattle.world_model.proofs.SoundAfter as sound_after
use Rattle.world_model.specs.Sound.{place_sheet_with}
use Rattle.cell_store.specs.Moved.{lines_on}
use Rattle.world_model.proofs.laws.changes_stay_sound.Goals as goal

pub returns : goal.returns
returns c = record {
  stays = λ before after id axis count change sound fits room long changed few.
      sound_after.changes_stay_sound c.tracks_stay_within.ensures c.places_stay_below.ensures
      c.followed_stay_merges.ensures before after id axis count change sound fits room
      (if_there (λ sheet. lines_on axis sheet.table.rows sheet.table.cols ≡ count)
      (place_sheet_with id before.sheets) long)
      changed few;
}
