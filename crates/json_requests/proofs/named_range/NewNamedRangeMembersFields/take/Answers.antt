use Rattle.std.proofs.Common.{refl}
use Rattle.json_requests.proofs.named_range.NewNamedRangeMembersFields.take.Goals as goal

pub returns-clause-read : goal.returns-clause-read
returns-clause-read c =
    simp (
      c.new_range_of.ensures,
      c.both-2.ensures,
      c.both.ensures,
      c.in_ok-id.ensures.read,
      c.in_ok-name.ensures.read,
      c.in_ok-range.ensures.read,
      c.in_ok-name.ensures.left,
      c.in_ok-id.ensures.left,
    ) refl
