use Rattle.std.proofs.Common.{◌≡◌, drop}
use Rattle.serde_json.specs.View.{members_view}
use Rattle.sheets_json.specs.Filters.{criteria_members}
use Rattle.sheets_json.proofs.filters.criteria_members.Given as goal

-- so far the members are those of the criteria from this place on
abbrev pub invariant-loop-at : goal.invariant-loop-at
invariant-loop-at l = members_view l.members.entries ≡ criteria_members (drop l.at l.criteria)
