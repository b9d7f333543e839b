use Rattle.protection.proofs.Fewer.{fewer_follow}
use Rattle.protection.proofs.indexed.Indexed.follow_to.Goals as goal

pub refill-requires : goal.refill-requires
refill-requires c =
    rw (c.as_slice.ensures, c.follow.ensures.followed) (fewer_follow _ _ _ c.self.invariant)
