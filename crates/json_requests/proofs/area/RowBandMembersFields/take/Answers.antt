use Rattle.std.proofs.Common.{refl}
use Rattle.json_requests.proofs.area.RowBandMembersFields.take.Goals as goal

pub returns-clause-read : goal.returns-clause-read
returns-clause-read c =
    simp (
      c.band_of.ensures,
      c.both.ensures,
      c.in_ok-start.ensures.read,
      c.in_ok-end.ensures.read,
      c.in_ok-start.ensures.left,
    ) refl
