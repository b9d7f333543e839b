use Rattle.std.proofs.Common.{refl}
use Rattle.json_requests.proofs.cells.ExtendedValueMembersFields.take.Goals as goal

pub returns-clause-read : goal.returns-clause-read
returns-clause-read c =
    simp (
      c.just_one.ensures,
      c.either-3.ensures,
      c.either-2.ensures,
      c.either.ensures,
      c.in_ok-number.ensures.found,
      c.in_ok-text.ensures.found,
      c.in_ok-truth.ensures.found,
      c.in_ok-formula.ensures.found,
      c.in_ok-truth.ensures.left,
      c.in_ok-text.ensures.left,
      c.in_ok-number.ensures.left,
    ) refl
