use Rattle.std.proofs.Common.{refl}
use Rattle.json_requests.proofs.protected_range.ListsMembersFields.take.Goals as goal

pub returns-clause-read : goal.returns-clause-read
returns-clause-read c =
    simp (
      c.both.ensures,
      c.in_ok-unprotected.ensures.read,
      c.in_ok-editors.ensures.read,
      c.in_ok-unprotected.ensures.left,
    ) refl
