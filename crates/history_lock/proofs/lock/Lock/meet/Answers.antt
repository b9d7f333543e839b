use Rattle.std.proofs.Common.{rules, ap, sym, ◌∙◌}
use Rattle.history_lock.specs.Steps.{the_view}
use Rattle.history_lock.proofs.Joins.{hears}
use Rattle.history_lock.proofs.Turns.{settles_at}
use Rattle.history_lock.proofs.lock.Lock.meet.Goals as goal

pub join_seat-requires : goal.join_seat-requires
join_seat-requires g c =
    let mine = c.into_seat-seat.ensures in
    let theirs = c.into_seat.ensures in
    let view = ap the_view (sym mine.2) ∙ ap (λ badge. the_view badge.views) c.replace.ensures.value in
    let other = ap the_view (sym theirs.2) ∙ ap the_view c.into_parts-badge.ensures.3 in (
      search rules,
      search rules,
      search rules,
      search rules,
      hears _ _ _ _ _ _ c.into_seat-seat.result.me.0 _ c.into_seat.result.me.0
          (ap (λ v. v.stage) view ∙ c.args.pass.now.away)
          (ap (λ v. v.stage) other ∙ c.args.other.away)
          (ap (λ v. v.numbered) other ∙ c.args.other.numbered),
    )

pub load-requires : goal.load-requires
load-requires g c =
    let mine = c.into_seat-seat.ensures in
    let view = ap the_view (sym mine.2) ∙ ap (λ badge. the_view badge.views) c.replace.ensures.value in
    let met = c.join_seat.ensures.2 in (
      search rules,
      search rules,
      settles_at _ _ _ _ _ _ _ c.join_seat.new.seat.me
          (ap (λ m. m.1) met ∙ mine.3)
          (ap (λ m. m.0.stage) met ∙ ap (λ v. v.stage) view ∙ c.args.pass.now.away)
          (ap (λ m. m.0.numbered) met ∙ ap (λ v. v.numbered) view ∙ c.args.pass.now.numbered),
    )
