use Rattle.std.proofs.Common.{refl}
use Rattle.json_requests.proofs.dimension.AppendDimensionMembersFields.take.Goals as goal

pub returns-clause-read : goal.returns-clause-read
returns-clause-read c =
    simp (
      c.append_of.ensures,
      c.both-2.ensures,
      c.both.ensures,
      c.in_ok-sheet.ensures.read,
      c.in_ok-dimension.ensures.read,
      c.in_ok-length.ensures.read,
      c.in_ok-dimension.ensures.left,
      c.in_ok-sheet.ensures.left,
    ) refl
