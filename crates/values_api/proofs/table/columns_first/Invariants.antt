use Rattle.std.proofs.Common.{◌≡◌, take}
use Rattle.values_api.specs.Tables.{columns_first}
use Rattle.values_api.proofs.table.columns_first.Given as goal

-- so far the places before this one
abbrev pub invariant-loop-place : goal.invariant-loop-place
invariant-loop-place l = l.turned.items ≡ columns_first (take l.place-index l.places)
