use Rattle.std.proofs.Common.{refl}
use Rattle.json_requests.proofs.protected_range.masked_patch.Goals as goal

pub returns : goal.returns
returns c =
    simp (
      c.taken-5.ensures,
      c.taken-4.ensures,
      c.taken-3.ensures,
      c.taken-2.ensures,
      c.taken.ensures,
      c.as_str-mask.ensures,
    ) refl
