use Rattle.std.proofs.Common.{ℕ, sym, ap, subst, ◌∙◌, cond, get_or, arith}
use Rattle.std.specs.Prelude.{IfSome}
use Rattle.std.specs.Option.{option_map}
use Rattle.cell_store.specs.Table.{item_at}
use Rattle.world_model.specs.PlaceChange.{content_followed}
use Rattle.dimension_ops.specs.References.{IsContentWithinOn, followed_at}
use Rattle.dimension_ops.proofs.Marked.{keeps_on}
use Rattle.dimension_ops.proofs.Places.{apart_behind, fold_more, item_at_place}
use Rattle.dimension_ops.proofs.following.follow_places.Goals as goal

pub follow_at-requires-clause-within : goal.follow_at-requires-clause-within
follow_at-requires-clause-within c =
    let place : ℕ × ℕ = get_or c.args.places.now c.loop-place.place-index (0, 0) in
    subst (λ held. IfSome held (IsContentWithinOn c.args.by.now.sheet c.args.by.now.axis c.args.by.now.count))
    (sym (c.loop-place.invariant.others c.loop-place.place-index (0, 0) (omega arith) c.loop-place-test.true))
    (c.requires.within place.0 place.1)

pub loop-place-preserved : goal.loop-place-preserved
loop-place-preserved c =
    let place : ℕ × ℕ = get_or c.args.places.now c.loop-place.place-index (0, 0) in
    let after = content_followed c.args.by.now.sheet c.args.by.now.axis c.args.by.now.count c.args.by.now.change.now in
    let at = followed_at c.args.by.now.sheet c.args.by.now.axis c.args.by.now.count c.args.by.now.change.now in
    record {
      followed = c.in_ok-follow_at.ensures.followed ∙ ap (λ table. at table place) c.loop-place.invariant.followed
          ∙ sym (fold_more at c.args.cells.now.table c.args.places.now c.loop-place.place-index (0, 0)
          c.loop-place-test.true);
      others = λ k d behind there.
          let other : ℕ × ℕ = get_or c.args.places.now k d in
          let held = item_at c.loop-place.cells.table other.0 other.1 in
          ap (λ table. item_at table other.0 other.1) c.in_ok-follow_at.ensures.followed
          ∙ item_at_place after c.loop-place.cells.table place other
          ∙ ap (λ b. cond b (option_map after held) held)
          (apart_behind c.args.places.now c.loop-place.place-index k d (0, 0) c.requires.in_order (omega arith) there)
          ∙ c.loop-place.invariant.others k d (omega arith) there;
      formulas = keeps_on c.args.cells.now.table c.loop-place.cells.table c.follow_at.new.cells.table
          c.loop-place.invariant.formulas c.follow_at.ensures.formulas;
    }
