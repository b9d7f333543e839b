use Rattle.world_model.proofs.NewLines as lines
use Rattle.world_model.proofs.changing.line_changes_are_changes.Goals as goal

pub returns : goal.returns
returns c = record { changes = lines.line_changes_are_changes c.changes_follow.ensures c.move_keeps_lines.ensures }
