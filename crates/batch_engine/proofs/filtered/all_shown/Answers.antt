use Rattle.std.proofs.Common.{◌∷◌, ◌∙◌, [], ap, subst, sym, take, ◌+◌}
use Rattle.batch_engine.specs.Filtered.{AreAreasShown, Showing}
use Rattle.batch_engine.proofs.Filtering.{area_shown}
use Rattle.batch_engine.proofs.filtered.all_shown.Goals as goal

pub loop-area-preserved : goal.loop-area-preserved
loop-area-preserved c =
    let how : Showing = record { dimension = c.args.dimension; render = c.args.render } in (
      subst (AreAreasShown how c.args.book.now c.args.filter.now (take (c.loop-area.area-index + 1) c.args.areas.now))
          (sym c.in_ok-push.ensures.items)
          (area_shown how c.args.book.now c.args.filter.now c.args.areas.now c.loop-area.area-index _
          c.loop-area.all.items
          c.in_ok-shown_area.field-0 c.in_ok-only.field-0 c.loop-area-test.true c.loop-area.invariant.0
          (c.in_ok-only.ensures ∙ ap (λ one. one ∷ []) c.in_ok-copy_filter.ensures) c.in_ok-shown_area.ensures.shown),
      c.in_ok-shown_area.ensures.table,
    )
