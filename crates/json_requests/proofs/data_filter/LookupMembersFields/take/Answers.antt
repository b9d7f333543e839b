use Rattle.std.proofs.Common.{refl}
use Rattle.json_requests.proofs.data_filter.LookupMembersFields.take.Goals as goal

pub returns-clause-read : goal.returns-clause-read
returns-clause-read c =
    simp (
      c.lookup_of.ensures,
      c.both-2.ensures,
      c.both.ensures,
      c.in_ok-place.ensures.read,
      c.in_ok-texts.ensures.read,
      c.in_ok-visibility.ensures.read,
      c.in_ok-texts.ensures.left,
      c.in_ok-place.ensures.left,
    ) refl
