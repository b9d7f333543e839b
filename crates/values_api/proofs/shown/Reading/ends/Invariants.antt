use Rattle.values_api.proofs.Ends.{AreEndsSoFar}
use Rattle.values_api.proofs.shown.Reading.ends.Given as goal

-- so far the ends behind the places before this one
abbrev pub invariant-loop-place : goal.invariant-loop-place
invariant-loop-place l = AreEndsSoFar l.self l.place-items l.place-index l.ends.items
