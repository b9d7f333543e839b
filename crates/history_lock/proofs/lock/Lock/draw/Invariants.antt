use Rattle.std.proofs.Common.{◌≡◌, ◌≤◌, []}
use Rattle.history_lock.specs.declared.view.Drawing.TheVariants.{Alone}
use Rattle.history_lock.specs.Steps.{Recounted}
use Rattle.history_lock.proofs.lock.Lock.draw.Given as goal

abbrev pub invariant-loop : goal.invariant-loop
invariant-loop g l =
    (l.seat.table_id ≡ l.initial.seat.table_id) × Recounted l.initial.seat.me.0 l.seat.me.0 × (l.seat.me.1 ≡ [])
    × (l.seat.me.0.given ≡ l.initial.seat.me.0.given)
    × (l.initial.seat.me.0.count ≤ l.seat.me.0.count)
    × (l.initial.seat.me.0.drawing ≡ Alone → l.seat.me.0.count ≡ l.initial.seat.me.0.count)
