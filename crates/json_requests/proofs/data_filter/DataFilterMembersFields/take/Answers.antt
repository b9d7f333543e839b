use Rattle.std.proofs.Common.{refl}
use Rattle.json_requests.proofs.data_filter.DataFilterMembersFields.take.Goals as goal

pub returns-clause-read : goal.returns-clause-read
returns-clause-read c =
    simp (
      c.just_one.ensures,
      c.either-2.ensures,
      c.either.ensures,
      c.in_ok-lookup.ensures.found,
      c.in_ok-text.ensures.found,
      c.in_ok-area.ensures.found,
      c.in_ok-text.ensures.left,
      c.in_ok-lookup.ensures.left,
    ) refl
