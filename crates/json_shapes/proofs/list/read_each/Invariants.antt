use Rattle.std.proofs.Common.{◌≡◌, length}
use Rattle.std.specs.Vec.Iter.{into_iter_items, into_iter_len}
use Rattle.serde_json.specs.View.{items_view}
use Rattle.json_shapes.specs.Shapes.{each}
use Rattle.json_shapes.proofs.ReadingLemmas.{joined}
use Rattle.json_shapes.proofs.list.read_each.Given as goal

-- what was read so far and the values that are left are all
abbrev pub invariant-loop-value : goal.invariant-loop-value
invariant-loop-value g l =
    (into_iter_len l.value-iterator ≡ length (into_iter_items l.value-iterator))
    × (joined l.items.items l.fault (each (g.S.Shape.shape l.shape) (items_view (into_iter_items l.value-iterator)))
    ≡ each (g.S.Shape.shape l.shape) (items_view (into_iter_items l.initial.value-iterator)))
