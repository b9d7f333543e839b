use Rattle.std.proofs.Common.{refl}
use Rattle.json_requests.proofs.protected_range.MarksMembersFields.take.Goals as goal

pub returns-clause-read : goal.returns-clause-read
returns-clause-read c =
    simp (
      c.both-2.ensures,
      c.both.ensures,
      c.in_ok-description.ensures.read,
      c.in_ok-warning.ensures.read,
      c.in_ok-can_edit.ensures.read,
      c.in_ok-warning.ensures.left,
      c.in_ok-description.ensures.left,
    ) refl
