-- The lemma is the law.
use Rattle.grid_range.proofs.Changes.{move_keeps_lines}
use Rattle.grid_range.proofs.following_laws.move_keeps_lines.Goals as goal

pub returns : goal.returns
returns c = move_keeps_lines
