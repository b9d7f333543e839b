use Rattle.std.proofs.Common.{◌≡◌, length}
use Rattle.serde_json.specs.View.{members_view}
use Rattle.json_requests.specs.Requests.{sole_given}
use Rattle.json_requests.proofs.step.sole_given.Given as goal

-- it is found among the members that are left
abbrev pub invariant-loop-entry : goal.invariant-loop-entry
invariant-loop-entry l = sole_given (members_view l.members.entries)
    ≡ sole_given (members_view l.initial.members.entries)

abbrev pub decreases-loop-entry : goal.decreases-loop-entry
decreases-loop-entry l = length l.members.entries
