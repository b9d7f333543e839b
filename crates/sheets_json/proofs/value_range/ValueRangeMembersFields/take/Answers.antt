use Rattle.std.proofs.Common.{refl}
use Rattle.sheets_json.proofs.value_range.ValueRangeMembersFields.take.Goals as goal

pub returns-clause-read : goal.returns-clause-read
returns-clause-read c =
    simp (
      c.value_range_from.ensures,
      c.both-2.ensures,
      c.both.ensures,
      c.in_ok-range.ensures.read,
      c.in_ok-dimension.ensures.read,
      c.in_ok-values.ensures.read,
      c.in_ok-dimension.ensures.left,
      c.in_ok-range.ensures.left,
    ) refl
