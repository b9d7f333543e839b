use Rattle.std.proofs.Common.{rules, ap}
use Rattle.history_lock.proofs.Turns.{begins, one_number, opens_at}
use Rattle.history_lock.proofs.lock.Lock.open.Goals as goal

pub vacant-requires : goal.vacant-requires
vacant-requires g c = begins _ _ _ _ _ c.requires

pub load-requires : goal.load-requires
load-requires g c =
    let made = c.in-Ok.ensures in (
      search rules,
      search rules,
      opens_at _ _ _ _ _ _ _ c.in-Ok.seat.me (ap (λ m. m.1) made.4) (ap
          (λ m. m.0.stage) made.4),
    )

pub returns-clause-one_drawn : goal.returns-clause-one_drawn
returns-clause-one_drawn g c = one_number _ _ _ _ _

pub returns-in-Err-clause-one_drawn : goal.returns-in-Err-clause-one_drawn
returns-in-Err-clause-one_drawn g c = one_number _ _ _ _ _
