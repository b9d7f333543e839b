use Rattle.std.proofs.Common.{refl}
use Rattle.json_requests.proofs.area.GridCoordinateMembersFields.take.Goals as goal

pub returns-clause-read : goal.returns-clause-read
returns-clause-read c =
    simp (
      c.coordinate_of.ensures,
      c.both-2.ensures,
      c.both.ensures,
      c.in_ok-sheet.ensures.read,
      c.in_ok-row.ensures.read,
      c.in_ok-column.ensures.read,
      c.in_ok-row.ensures.left,
      c.in_ok-sheet.ensures.left,
    ) refl
