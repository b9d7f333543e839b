use Rattle.std.proofs.Common.{refl}
use Rattle.json_requests.proofs.location.PlaceMembersFields.take.Goals as goal

pub returns-clause-read : goal.returns-clause-read
returns-clause-read c =
    simp (
      c.just_one.ensures,
      c.either-2.ensures,
      c.either.ensures,
      c.in_ok-book.ensures.found,
      c.in_ok-sheet.ensures.found,
      c.in_ok-lines.ensures.found,
      c.in_ok-sheet.ensures.left,
      c.in_ok-book.ensures.left,
    ) refl
