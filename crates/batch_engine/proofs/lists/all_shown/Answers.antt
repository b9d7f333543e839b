use Rattle.std.proofs.Common.{[], ◌+◌, ◌∙◌, subst, sym, get_or, Ok}
use Rattle.std.proofs.lemmas.List.{get_or_read}
use Rattle.batch_engine.specs.Values.{IsShown}
use Rattle.batch_engine.specs.Members.{InOrder}
use Rattle.batch_engine.proofs.Judging.{SoFar, all_told, broken_told, judged_ok, one_more, shown_so}
use Rattle.batch_engine.proofs.lists.all_shown.Goals as goal

pub returns-in-Err : goal.returns-in-Err
returns-in-Err c =
    let ranges = c.args.ranges.now in
    let at = c.loop-at.at in
    broken_told (IsShown c.args.dimension c.args.render c.args.book.now) ranges at c.loop-at.all.items
    c.loop-at.invariant.0
    [] c.in-Err.rule c.loop-at-test.true
    (subst (IsShown c.args.dimension c.args.render c.args.book.now (get_or ranges at [])) c.in-Err.is
    (shown_so c.args.dimension c.args.render c.args.book.now (get_or ranges at []) c.as_str-range.result.now
    c.shown.result
    c.in_ok-range.field-0
    (c.as_str-range.ensures ∙ get_or_read ranges at c.index-ranges-at.result c.loop-at-test.true
    c.index-ranges-at.is []) c.shown.ensures.shown c.in_ok-range.ensures))

pub loop-at-preserved : goal.loop-at-preserved
loop-at-preserved c =
    let ranges = c.args.ranges.now in
    let at = c.loop-at.at in
    let Is = IsShown c.args.dimension c.args.render c.args.book.now in (
      subst (SoFar Is ranges (at + 1)) (sym c.in_ok-push-in-Ok.ensures.items)
          (one_more Is ranges at c.loop-at.all.items c.loop-at.invariant.0 [] c.in-Ok.range c.loop-at-test.true
          (subst (Is (get_or ranges at [])) c.in-Ok.is
          (shown_so c.args.dimension c.args.render c.args.book.now (get_or ranges at []) c.as_str-range.result.now
          c.shown.result
          c.in_ok-range.field-0
          (c.as_str-range.ensures ∙ get_or_read ranges at c.index-ranges-at.result c.loop-at-test.true
          c.index-ranges-at.is []) c.shown.ensures.shown c.in_ok-range.ensures))),
      judged_ok _ c.shown.result c.in_ok-range.field-0 c.in-Ok.range c.in_ok-range.ensures c.in-Ok.is
          c.shown.ensures.table,
    )

pub returns : goal.returns
returns c =
    let Is = IsShown c.args.dimension c.args.render c.args.book.now in
    subst (λ all. InOrder Is 0 c.args.ranges.now (Ok all)) (sym c.of.ensures)
    (all_told Is c.args.ranges.now c.loop-at.at c.loop-at.all.items c.loop-at.invariant.0 c.loop-at-test.false)
