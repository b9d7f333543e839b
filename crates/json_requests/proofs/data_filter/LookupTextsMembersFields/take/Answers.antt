use Rattle.std.proofs.Common.{refl}
use Rattle.json_requests.proofs.data_filter.LookupTextsMembersFields.take.Goals as goal

pub returns-clause-read : goal.returns-clause-read
returns-clause-read c =
    simp (
      c.both-2.ensures,
      c.both.ensures,
      c.in_ok-id.ensures.read,
      c.in_ok-key.ensures.read,
      c.in_ok-value.ensures.read,
      c.in_ok-key.ensures.left,
      c.in_ok-id.ensures.left,
    ) refl
