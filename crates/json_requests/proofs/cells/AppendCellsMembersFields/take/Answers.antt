use Rattle.std.proofs.Common.{refl}
use Rattle.json_requests.proofs.cells.AppendCellsMembersFields.take.Goals as goal

pub returns-clause-read : goal.returns-clause-read
returns-clause-read c =
    simp (
      c.append_of.ensures,
      c.both-2.ensures,
      c.both.ensures,
      c.in_ok-sheet.ensures.read,
      c.in_ok-rows.ensures.read,
      c.in_ok-mask.ensures.read,
      c.in_ok-rows.ensures.left,
      c.in_ok-sheet.ensures.left,
    ) refl
