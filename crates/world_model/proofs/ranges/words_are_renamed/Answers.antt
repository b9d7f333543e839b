use Rattle.world_model.proofs.Renamed.{renamed_changes, renamed_sound, some_renamed_sound}
use Rattle.world_model.proofs.ranges.words_are_renamed.Goals as goal

pub returns : goal.returns
returns c = record {
  stays = λ before after old new sound renamed. renamed_sound old new before after sound renamed;
  changes = renamed_changes;
  some = λ before after old new sound renamed. some_renamed_sound old new before after sound renamed;
}
