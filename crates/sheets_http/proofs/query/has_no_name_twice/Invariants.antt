use Rattle.std.proofs.Common.{◌≡◌, drop}
use Rattle.sheets_http.specs.Queries.{has_no_name_twice}
use Rattle.sheets_http.proofs.query.has_no_name_twice.Given as goal

-- it depends on the members from here on
abbrev pub invariant-loop-at : goal.invariant-loop-at
invariant-loop-at l = has_no_name_twice (drop l.at l.given) ≡ has_no_name_twice l.given
