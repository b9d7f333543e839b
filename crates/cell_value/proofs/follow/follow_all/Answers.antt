use Rattle.std.proofs.Common.{◌<◌, length, arith, sym, ◌∙◌, subst, ap}
use Rattle.cell_value.proofs.InPlace.{Keeps-read, Keeps-lost, Keeps-between, Keeps-swapped}
use Rattle.cell_value.proofs.follow.follow_all.Goals as goal
use Rattle.cell_value.proofs.follow.follow_all.Goals.{then-follow, else-follow}

pub follow-requires : goal.follow-requires
follow-requires g c =
    let there : c.loop-at.at < length c.args.items.now.items = omega arith in
    subst (λ one. g.T.Follow.can_follow c.args.change.now one)
    (sym (Keeps-read _ _ _ _ _ _ _ there c.loop-at.invariant c.index_mut.ensures.value))
    (c.requires _ _ there)

pub loop-at-preserved : goal.loop-at-preserved
loop-at-preserved g c =
    let there : c.loop-at.at < length c.args.items.now.items = omega arith in
    let read = ap (g.T.Follow.becomes c.args.change.now)
    (Keeps-read _ _ _ _ _ _ _ there c.loop-at.invariant c.index_mut.ensures.value) in
    elim c.if-follow.branch [
      | then-follow w ↦ rw (w.items-is, w.swap.ensures.items, w.kept-is)
          (Keeps-swapped _ _ _ _ _ _ c.follow.new.self c.index_mut.result.now there
          (sym read ∙ w.if-follow.ensures.kept) w.if-follow.ensures.has_followed c.loop-at.invariant)
      | else-follow w ↦ rw (w.items-is, w.kept-is)
          (Keeps-between _ _ _ _ _ _ c.loop-at.at c.follow.new.self c.loop-at.invariant.room (omega arith)
          (Keeps-lost _ _ _ _ _ _ c.index_mut.result.now there
          (sym read ∙ w.if-follow.ensures.lost) c.loop-at.invariant))
    ]
