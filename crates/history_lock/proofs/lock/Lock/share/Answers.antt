use Rattle.std.proofs.Common.{rules, ap, sym, ◌∙◌}
use Rattle.history_lock.specs.Rule.{numbers_of}
use Rattle.history_lock.specs.Steps.{the_view}
use Rattle.history_lock.proofs.Joins.{shares, returns}
use Rattle.history_lock.proofs.lock.Lock.share.Goals as goal

pub split_seat-right-requires : goal.split_seat-right-requires
split_seat-right-requires g c =
    let view = ap the_view (sym c.into_seat-seat.ensures.2)
    ∙ ap (λ badge. the_view badge.views) c.replace.ensures.value in (
      search rules,
      search rules,
      shares _ _ _ _ _ _ c.into_seat-seat.result.me.0 (ap (λ v. v.stage) view ∙ c.args.pass.now.away)
          (λ never. c.requires.draws (sym (ap (λ v. v.drawing) view) ∙ never)),
    )

pub join_seat-requires : goal.join_seat-requires
join_seat-requires g c =
    let mine = ap the_view (sym c.into_seat-other.ensures.2)
    ∙ ap (λ badge. the_view badge.views) c.replace-2.ensures.value in
    let view = ap the_view (sym c.into_seat-seat.ensures.2)
    ∙ ap (λ badge. the_view badge.views) c.replace.ensures.value in
    let right = c.split_seat-right.ensures.4 in (
      search rules,
      search rules,
      search rules,
      search rules,
      returns _ _ _ _ _ _ c.into_seat-other.result.me.0 _ c.split_seat-right.result.me.0
          (ap (λ v. v.stage) mine ∙ c.args.new.now.away)
          (ap (λ m. m.0.stage) right)
          (ap (λ m. numbers_of m.0) right),
    )
