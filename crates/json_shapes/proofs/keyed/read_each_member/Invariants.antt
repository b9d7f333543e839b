use Rattle.std.proofs.Common.{◌≡◌, length}
use Rattle.serde_json.specs.View.{members_view}
use Rattle.json_shapes.specs.Shapes.{each_member}
use Rattle.json_shapes.proofs.ReadingLemmas.{joined}
use Rattle.json_shapes.proofs.keyed.read_each_member.Given as goal

-- what was read so far and the members that are left are all
abbrev pub invariant-loop-entry : goal.invariant-loop-entry
invariant-loop-entry g l =
    joined l.items.items l.fault (each_member (g.K.Keyed.keyed l.keyed) (members_view l.members.entries))
    ≡ each_member (g.K.Keyed.keyed l.keyed) (members_view l.initial.members.entries)

abbrev pub decreases-loop-entry : goal.decreases-loop-entry
decreases-loop-entry g l = length l.members.entries
