use Rattle.std.proofs.Common.{refl}
use Rattle.json_requests.proofs.sheet.GridPropertiesMembersFields.take.Goals as goal

pub returns-clause-read : goal.returns-clause-read
returns-clause-read c =
    simp (c.both.ensures, c.in_ok-rows.ensures.read, c.in_ok-columns.ensures.read, c.in_ok-rows.ensures.left) refl
