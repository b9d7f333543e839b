use Rattle.std.proofs.Common.{refl}
use Rattle.json_requests.proofs.filter.FilterMembersFields.take.Goals as goal

pub returns-clause-read : goal.returns-clause-read
returns-clause-read c =
    simp (
      c.filter_of.ensures,
      c.both.ensures,
      c.in_ok-range.ensures.read,
      c.in_ok-criteria.ensures.read,
      c.in_ok-range.ensures.left,
    ) refl
