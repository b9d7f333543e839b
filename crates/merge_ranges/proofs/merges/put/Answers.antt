use Rattle.std.proofs.Common.{arith}
use Rattle.merge_ranges.proofs.merges.put.Goals as goal

pub returns-in_err-extend_from_slice-clause-unchanged : goal.returns-in_err-extend_from_slice-clause-unchanged
returns-in_err-extend_from_slice-clause-unchanged c =
    absurd (omega (
      arith,
      c.in_err-extend_from_slice.ensures.full,
      c.dissolve.ensures.fewer,
      c.dissolve.ensures.capacity,
      c.in_ok-reserve.ensures.ok,
      c.in_ok-reserve.ensures.len,
    ))
