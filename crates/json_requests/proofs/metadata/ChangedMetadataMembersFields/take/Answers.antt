use Rattle.std.proofs.Common.{refl}
use Rattle.json_requests.proofs.metadata.ChangedMetadataMembersFields.take.Goals as goal

pub returns-clause-read : goal.returns-clause-read
returns-clause-read c =
    simp (
      c.patch_of.ensures,
      c.both-2.ensures,
      c.both.ensures,
      c.in_ok-texts.ensures.read,
      c.in_ok-location.ensures.read,
      c.in_ok-visibility.ensures.read,
      c.in_ok-location.ensures.left,
      c.in_ok-texts.ensures.left,
    ) refl
