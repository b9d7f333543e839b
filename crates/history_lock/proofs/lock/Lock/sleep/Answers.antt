use Rattle.std.proofs.Common.{◌+◌, ◌-◌, ◌%◌, ◌^◌, rules}
use Rattle.history_lock.proofs.Turns.{waits}
use Rattle.history_lock.proofs.lock.Lock.sleep.Goals as goal

pub fetch_add-requires : goal.fetch_add-requires
fetch_add-requires g c = (search rules, search rules, waits _ _ _ _ _ _ _ c.args.seat.now.me (λ n. (n + 1) % 2 ^ 64))

pub fetch_sub-requires : goal.fetch_sub-requires
fetch_sub-requires g c = (
  search rules,
  search rules,
  waits _ _ _ _ _ _ _ c.fetch_add.new.seat.me (λ n. (n + (2 ^ 64 - 1)) % 2 ^ 64),
)
