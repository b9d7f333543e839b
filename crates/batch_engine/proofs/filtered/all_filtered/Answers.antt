use Rattle.std.proofs.Common.{◌+◌, subst, sym, get_or, Ok}
use Rattle.json_requests.specs.declared.request.DataFilter.{DataFilter}
use Rattle.json_shapes.specs.Reading.{Reading}
use Rattle.batch_engine.specs.Filtered.{AreAllShown, AreShownBy, Showing}
use Rattle.batch_engine.proofs.Filtering.{ShownTo, all_behind, one_behind, one_refused}
use Rattle.batch_engine.proofs.Judging.{judged_ok, told_so}
use Rattle.batch_engine.proofs.filtered.all_filtered.Goals as goal

pub returns-in-Err : goal.returns-in-Err
returns-in-Err c =
    let filters = c.args.filters.now in
    let at = c.loop-at.at in
    let given = c.index-filters-at.result in
    let how : Showing = record { dimension = c.args.dimension; render = c.args.render } in
    let Is = AreShownBy c.args.project.now how c.args.book.now in
    one_refused c.args.project.now how c.args.book.now filters at c.loop-at.all.items c.loop-at.invariant.0
    c.loop-at-test.true given c.in-Err.rule
    (subst (Is (get_or filters at given)) c.in-Err.is
    (subst (λ (one : Reading DataFilter). Is one c.in_ok-shown.field-0) c.index-filters-at.is
    (told_so (Is given) c.filtered.result c.in_ok-shown.field-0 c.filtered.ensures.shown c.in_ok-shown.ensures)))

pub loop-at-preserved : goal.loop-at-preserved
loop-at-preserved c =
    let filters = c.args.filters.now in
    let at = c.loop-at.at in
    let given = c.index-filters-at.result in
    let how : Showing = record { dimension = c.args.dimension; render = c.args.render } in
    let Is = AreShownBy c.args.project.now how c.args.book.now in (
      subst (ShownTo c.args.project.now how c.args.book.now filters (at + 1)) (sym c.in_ok-put_all-in-Ok.ensures)
          (one_behind c.args.project.now how c.args.book.now filters at c.loop-at.all.items c.loop-at.invariant.0
          c.loop-at-test.true given c.in-Ok.shown
          (subst (Is (get_or filters at given)) c.in-Ok.is
          (subst (λ (one : Reading DataFilter). Is one c.in_ok-shown.field-0) c.index-filters-at.is
          (told_so (Is given) c.filtered.result c.in_ok-shown.field-0 c.filtered.ensures.shown
          c.in_ok-shown.ensures)))),
      judged_ok _ c.filtered.result c.in_ok-shown.field-0 c.in-Ok.shown c.in_ok-shown.ensures c.in-Ok.is
          c.filtered.ensures.table,
    )

pub returns : goal.returns
returns c =
    let how : Showing = record { dimension = c.args.dimension; render = c.args.render } in
    subst (λ all. AreAllShown c.args.project.now how c.args.book.now c.args.filters.now (Ok all)) (sym c.of.ensures)
    (all_behind c.args.project.now how c.args.book.now c.args.filters.now c.loop-at.at c.loop-at.all.items
    c.loop-at.invariant.0 c.loop-at-test.false)
