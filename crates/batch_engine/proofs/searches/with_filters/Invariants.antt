use Rattle.std.proofs.Common.{◌≡◌, map}
use Rattle.batch_engine.specs.Searches.{with_filters}
use Rattle.batch_engine.proofs.searches.with_filters.Given as goal

-- so far the items before this one, each with the filters that find it
abbrev pub invariant-loop-item : goal.invariant-loop-item
invariant-loop-item l = l.all.items ≡ map (with_filters l.searched) l.yielded
