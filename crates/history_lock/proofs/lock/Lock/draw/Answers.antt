use Rattle.std.proofs.Common.{◌≡◌, rules, ap, ◌∙◌, sym, arith}
use Rattle.history_lock.specs.Rule.{numbers_of}
use Rattle.history_lock.specs.Passes.{callers_of}
use Rattle.history_lock.proofs.Numbers.{counts, draws}
use Rattle.history_lock.proofs.Joins.{hands, notes, returns}
use Rattle.history_lock.proofs.lock.Lock.draw.Goals as goal

pub load-next-requires : goal.load-next-requires
load-next-requires g c = (
  search rules,
  search rules,
  counts _ _ _ _ _ _ _ c.loop.seat.me.0 c.loop.seat.me.1 (ap
      (λ v. v.stage) c.loop.invariant.1 ∙ c.requires.away.0),
)

pub split_seat-new-requires : goal.split_seat-new-requires
split_seat-new-requires g c =
    let counted = c.load-next.ensures.2.0 in (
      search rules,
      search rules,
      hands _ _ _ _ _ _ c.load-next.new.seat.me.0 (ap (λ m. m.0.stage) counted
          ∙ ap (λ v. v.stage) c.loop.invariant.1 ∙ c.requires.away.0),
    )

pub compare_exchange-requires : goal.compare_exchange-requires
compare_exchange-requires g c =
    let counted = c.load-next.ensures.2.0 in
    let copied = c.split_seat-new.ensures.4 in
    let most : c.split_seat-new.result.me.0.most ≡ callers_of c.args.self.now =
    ap (λ m. m.0.most) copied ∙ ap (λ m. m.0.most) counted ∙ ap (λ v. v.most) c.loop.invariant.1
    ∙ c.requires.view.most_is in (
      search rules,
      search rules,
      draws _ _ _ _ _ _ _ c.split_seat-new.result.me.0 c.split_seat-new.result.me.1 c.load-next.result
          (ap (λ m. m.0.stage) copied)
          (ap (λ m. m.0.numbered) copied)
          (λ never. c.requires.draws (sym (ap (λ m. m.0.drawing) copied ∙ ap (λ m. m.0.drawing) counted
          ∙ ap (λ v. v.drawing) c.loop.invariant.1) ∙ never))
          (omega arith),
    )

pub split_seat-note-requires : goal.split_seat-note-requires
split_seat-note-requires g c =
    let copied = c.split_seat-new.ensures.4 in
    let drew = c.compare_exchange.ensures.2.0 c.if-compare_exchange-next.true in (
      search rules,
      search rules,
      hands _ _ _ _ _ _ c.compare_exchange.new.seat.me.0 (ap (λ m. m.0.stage) drew.1
          ∙ ap (λ m. m.0.stage) copied),
    )

pub join_seat-requires : goal.join_seat-requires
join_seat-requires g c =
    let counted = c.load-next.ensures.2.0 in
    let split = c.split_seat-new.ensures.2 in (
      search rules,
      search rules,
      search rules,
      search rules,
      notes _ _ _ _ _ _ c.split_seat-new.new.seat.me.0 _ c.split_seat-note.result.me.0
          (ap (λ m. m.0.stage) split ∙ ap (λ m. m.0.stage) counted ∙ ap (λ v. v.stage) c.loop.invariant.1
          ∙ c.requires.away.0)
          (ap (λ m. m.0.stage) c.split_seat-note.ensures.4)
          (ap (λ m. numbers_of m.0) c.split_seat-note.ensures.4),
    )

pub join_seat-requires-in-loop : goal.join_seat-requires-in-loop
join_seat-requires-in-loop g c =
    let counted = c.load-next.ensures.2.0 in
    let split = c.split_seat-new.ensures.2 in
    let copied = c.split_seat-new.ensures.4 in
    let missed = c.compare_exchange.ensures.2.1 c.if-compare_exchange-next.false in (
      search rules,
      search rules,
      search rules,
      search rules,
      returns _ _ _ _ _ _ c.split_seat-new.new.seat.me.0 _ c.compare_exchange.new.seat.me.0
          (ap (λ m. m.0.stage) split ∙ ap (λ m. m.0.stage) counted ∙ ap (λ v. v.stage) c.loop.invariant.1
          ∙ c.requires.away.0)
          (ap (λ m. m.0.stage) missed ∙ ap (λ m. m.0.stage) copied)
          (ap (λ m. numbers_of m.0) missed ∙ ap (λ m. numbers_of m.0) copied),
    )
