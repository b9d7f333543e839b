use Rattle.std.proofs.Common.{◌+◌, subst, sym, get_or, Ok}
use Rattle.json_requests.specs.declared.request.MetadataLookup.{MetadataLookup}
use Rattle.json_shapes.specs.Reading.{Reading}
use Rattle.batch_engine.specs.Members.{InOrder}
use Rattle.batch_engine.specs.Searches.{IsSearched}
use Rattle.batch_engine.proofs.Judging.{SoFar, all_told, broken_told, one_more, told_so}
use Rattle.batch_engine.proofs.searches.all_searched.Goals as goal

pub returns-in-Err : goal.returns-in-Err
returns-in-Err c =
    let filters = c.args.filters.now in
    let at = c.loop-at.at in
    let given = c.index-filters-at.result in
    let Is = IsSearched c.args.project.now c.args.book.now in
    broken_told Is filters at c.loop-at.all.items c.loop-at.invariant given c.in-Err.rule c.loop-at-test.true
    (subst (Is (get_or filters at given)) c.in-Err.is
    (subst (λ (one : Reading MetadataLookup). Is one c.in_ok-one.field-0) c.index-filters-at.is
    (told_so (Is given) c.one_searched.result c.in_ok-one.field-0 c.one_searched.ensures c.in_ok-one.ensures)))

pub loop-at-preserved : goal.loop-at-preserved
loop-at-preserved c =
    let filters = c.args.filters.now in
    let at = c.loop-at.at in
    let given = c.index-filters-at.result in
    let Is = IsSearched c.args.project.now c.args.book.now in
    subst (SoFar Is filters (at + 1)) (sym c.in_ok-push-in-Ok.ensures.items)
    (one_more Is filters at c.loop-at.all.items c.loop-at.invariant given c.in-Ok.one c.loop-at-test.true
    (subst (Is (get_or filters at given)) c.in-Ok.is
    (subst (λ (one : Reading MetadataLookup). Is one c.in_ok-one.field-0) c.index-filters-at.is
    (told_so (Is given) c.one_searched.result c.in_ok-one.field-0 c.one_searched.ensures c.in_ok-one.ensures))))

pub returns : goal.returns
returns c =
    let Is = IsSearched c.args.project.now c.args.book.now in
    subst (λ all. InOrder Is 0 c.args.filters.now (Ok all)) (sym c.of.ensures)
    (all_told Is c.args.filters.now c.loop-at.at c.loop-at.all.items c.loop-at.invariant c.loop-at-test.false)
