use Rattle.std.proofs.Common.{◌<◌, take, length, arith, sym, ap, ◌∙◌, subst}
use Rattle.std.proofs.lemmas.List.{get_or-map, length-map}
use Rattle.std.proofs.lemmas.List.Elements.{All-map, All-same}
use Rattle.indexmap.specs.Layout.{length-set_value_at}
use Rattle.cell_value.proofs.InPlace.{Keeps-end}
use Rattle.cell_value.proofs.EntriesInPlace.{value_before, value_kept, value_lost}
use Rattle.cell_value.proofs.follow_map.follow_values.Goals as goal
use Rattle.cell_value.proofs.follow_map.follow_values.Goals.{then-follow, else-follow}

pub follow-requires : goal.follow-requires
follow-requires g c =
    let there : c.loop-at.at < length c.args.map.now.entries = omega arith in
    let entry = value_before _ _ _ _ _ _ _ there c.index_mut.ensures.value c.loop-at.invariant in
    subst (λ value. g.V.Follow.can_follow c.args.change.now value)
    (get_or-map (λ entry. entry.1) c.args.map.now.entries c.loop-at.at entry.0 c.index_mut.result.now there
    ∙ ap (λ entry. entry.1) (sym entry.1) ∙ entry.2)
    (c.requires c.loop-at.at c.index_mut.result.now
    (let long = length-map c.args.map.now.entries (λ entry. entry.1) in omega arith))

pub swap_indices-requires-clause-a_in_bounds : goal.swap_indices-requires-clause-a_in_bounds
swap_indices-requires-clause-a_in_bounds g c =
    let room = c.loop-at.invariant.room in
    let long = c.loop-at.invariant.long in
    let same = length-set_value_at c.loop-at.map.entries c.loop-at.at c.follow.new.self in
    omega arith

pub swap_indices-requires-clause-b_in_bounds : goal.swap_indices-requires-clause-b_in_bounds
swap_indices-requires-clause-b_in_bounds g c =
    let long = c.loop-at.invariant.long in
    let same = length-set_value_at c.loop-at.map.entries c.loop-at.at c.follow.new.self in
    omega arith

pub loop-at-preserved : goal.loop-at-preserved
loop-at-preserved g c =
    let there : c.loop-at.at < length c.args.map.now.entries = omega arith in
    elim c.if-follow.branch [
      | then-follow w ↦ rw (w.map-is, w.swap_indices.ensures.entries, w.kept-is)
          (value_kept _ _ _ _ _ _ c.index_mut.result.now c.follow.new.self there
          c.index_mut.ensures.value w.if-follow.ensures.kept w.if-follow.ensures.has_followed c.loop-at.invariant)
      | else-follow w ↦ rw (w.map-is, w.kept-is)
          (value_lost _ _ _ _ _ _ c.index_mut.result.now c.follow.new.self there
          c.index_mut.ensures.value w.if-follow.ensures.lost c.loop-at.invariant)
    ]

pub returns-clause-has_followed : goal.returns-clause-has_followed
returns-clause-has_followed g c =
    let len = c.len-at-end.ensures.len in
    All-map (g.V.Follow.has_followed c.args.change.now) (λ entry. entry.1) c.truncate.new.self.entries
    (All-same (λ entry. g.V.Follow.has_followed c.args.change.now entry.1) c.truncate.new.self.entries
    (take c.loop-at.kept c.loop-at.map.entries) c.truncate.ensures.entries
    (Keeps-end _ _ _ _ _ _ (omega (arith, c.loop-at-test.false)) c.loop-at.invariant).1)
