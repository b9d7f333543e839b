use Rattle.world_model.proofs.Changes as changing
use Rattle.world_model.proofs.changing.changes_in_turn.Goals as goal

pub returns : goal.returns
returns c = record {
  none = changing.none_changed;
  both = changing.both_changed;
  sound = changing.changed_sound c.stands_for_some.ensures;
}
