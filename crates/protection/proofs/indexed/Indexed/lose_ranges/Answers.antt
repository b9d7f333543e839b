use Rattle.protection.proofs.Fewer.{fewer_pass}
use Rattle.protection.proofs.indexed.Indexed.lose_ranges.Goals as goal

pub refill-requires : goal.refill-requires
refill-requires c =
    rw (c.as_slice.ensures, c.of.ensures, c.keep_elsewhere.ensures, c.into_vec-ranges.ensures, c.take.ensures.taken)
    (fewer_pass _ _ _ c.self.invariant)
