use Rattle.world_model.proofs.WrittenSound as written
use Rattle.world_model.proofs.laws.writes_stay_sound.Goals as goal

pub returns : goal.returns
returns c = record {
  stays = λ book id row col content sound within there. written.stays_sound id row col content book sound within there;
}
