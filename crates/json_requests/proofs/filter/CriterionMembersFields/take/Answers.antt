use Rattle.std.proofs.Common.{refl}
use Rattle.json_requests.proofs.filter.CriterionMembersFields.take.Goals as goal

pub returns-clause-read : goal.returns-clause-read
returns-clause-read c =
    simp (
      c.criterion_of.ensures,
      c.both.ensures,
      c.in_ok-hidden.ensures.read,
      c.in_ok-condition.ensures.read,
      c.in_ok-hidden.ensures.left,
    ) refl
