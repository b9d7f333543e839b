use Rattle.std.proofs.Common.{refl}
use Rattle.json_requests.proofs.protected_range.ChangedProtectedRangeMembersFields.take.Goals as goal

pub returns-clause-read : goal.returns-clause-read
returns-clause-read c =
    simp (
      c.changed_protection_of.ensures,
      c.both-3.ensures,
      c.both-2.ensures,
      c.both.ensures,
      c.in_ok-id.ensures.read,
      c.in_ok-range.ensures.read,
      c.in_ok-marks.ensures.read,
      c.in_ok-lists.ensures.read,
      c.in_ok-marks.ensures.left,
      c.in_ok-range.ensures.left,
      c.in_ok-id.ensures.left,
    ) refl
