use Rattle.std.proofs.Common.{refl}
use Rattle.json_requests.proofs.area.GridRangeMembersFields.take.Goals as goal

pub returns-clause-read : goal.returns-clause-read
returns-clause-read c =
    simp (
      c.area_of.ensures,
      c.both-2.ensures,
      c.both.ensures,
      c.in_ok-sheet.ensures.read,
      c.in_ok-rows.ensures.read,
      c.in_ok-columns.ensures.read,
      c.in_ok-rows.ensures.left,
      c.in_ok-sheet.ensures.left,
    ) refl
