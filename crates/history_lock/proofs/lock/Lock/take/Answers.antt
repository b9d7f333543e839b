use Rattle.std.proofs.Common.{rules, ap, ◌∙◌, sym, Some, ◌∷◌}
use Rattle.atomic_table.specs.Table.{rest}
use Rattle.history_lock.specs.Steps.{the_view}
use Rattle.history_lock.proofs.Turns.{tries_at}
use Rattle.history_lock.proofs.lock.Lock.take.Goals as goal

pub compare_exchange-requires : goal.compare_exchange-requires
compare_exchange-requires g c =
    let kept = c.loop.invariant.1 in
    let made = c.into_seat-seat.ensures in
    let view = ap the_view (sym made.2) ∙ ap the_view c.into_parts-number.ensures.3 in (
      search rules,
      search rules,
      tries_at _ _ _ _ _ _ _ c.loop.seat.me
          (ap (λ m. m.1) kept ∙ made.3)
          (ap (λ m. m.0.stage) kept ∙ ap (λ v. v.stage) view ∙ c.args.pass.away)
          (ap (λ m. m.0.numbered) kept ∙ ap (λ v. v.numbered) view ∙ c.args.pass.numbered),
    )

pub exchange-requires : goal.exchange-requires
exchange-requires g c =
    let took = c.compare_exchange.ensures.2.0 c.if-compare_exchange-eq0.true in
    let slots = ap (λ m. m.1) took.1 in
    (search rules, (Some took.0, slots ∙ ap (λ others. (0, Some took.0) ∷ others) (sym (ap rest slots))))
