use Rattle.std.proofs.Common.{refl}
use Rattle.json_requests.proofs.cells.UpdatedAreaMembersFields.take.Goals as goal

pub returns-clause-read : goal.returns-clause-read
returns-clause-read c =
    simp (
      c.just_one.ensures,
      c.either.ensures,
      c.in_ok-start.ensures.found,
      c.in_ok-range.ensures.found,
      c.in_ok-start.ensures.left,
    ) refl
