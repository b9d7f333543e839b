use Rattle.batch_engine.specs.Searches.{IsSearched}
use Rattle.batch_engine.proofs.Judging.{SoFar}
use Rattle.batch_engine.proofs.searches.all_searched.Given as goal

-- so far the filters before this one are searched by
abbrev pub invariant-loop-at : goal.invariant-loop-at
invariant-loop-at l = SoFar (IsSearched l.project l.book) l.filters l.at l.all.items
