use Rattle.std.proofs.Common.{◌≡◌, take}
use Rattle.batch_engine.specs.Searches.{filters_met}
use Rattle.batch_engine.proofs.searches.filters_met.Given as goal

-- so far those before this one that find the item
abbrev pub invariant-loop-one : goal.invariant-loop-one
invariant-loop-one l = l.met.items ≡ filters_met l.fn.id (take l.one-index l.searched)
