use Rattle.std.proofs.Common.{◌<◌, ◌∙◌, Some, None, length, drop, sym, ap, subst, arith}
use Rattle.std.proofs.lemmas.List.{get_or_default}
use Rattle.sheets_http.specs.Routes.{FitSegments}
use Rattle.sheets_http.specs.Routing.{FitsOn}
use Rattle.sheets_http.proofs.RouteLemmas.{segments_left, none_here, ended, cut_is, all_fit, goes_on}
use Rattle.sheets_http.proofs.routing.fit_segments.Goals as goal

pub returns-in_default : goal.returns-in_default
returns-in_default c =
    c.loop-place.invariant.on None
    (ended c.args.segments.now c.loop-place.place c.loop-place.rest (omega (arith, c.loop-place-test.true))
    c.in_default.not-Some)

pub returns-then-not-branch : goal.returns-then-not-branch
returns-then-not-branch c =
    let cut = ap segments_left c.in-Some.is
    ∙ cut_is (segments_left (Some c.in-Some.path)) c.split_segment.result.0.now c.split_segment.result.1
    c.split_segment.ensures in
    let there : c.loop-place.place < length c.args.segments.now = omega (arith, c.loop-place-test.true) in
    c.loop-place.invariant.on None
    (none_here c.args.segments.now c.loop-place.place _ c.split_segment.result.0.now (segments_left c.loop-place.rest)
    (segments_left c.split_segment.result.1) c.in_ok-fits_segment.field-0 there c.in_ok-fits_segment.ensures
    c.if-not-branch.true (get_or_default _ _ _ _ there) cut)

pub returns-in-Some-rest : goal.returns-in-Some-rest
returns-in-Some-rest c =
    c.loop-place.invariant.on None
    (subst (λ left. ¬ (FitSegments (drop c.loop-place.place c.args.segments.now) (segments_left left)))
    (sym c.in-Some-rest.is)
    (goes_on c.args.segments.now c.loop-place.place c.in-Some-rest.field-0.now
    (omega (arith, c.loop-place-test.false))))

pub returns-in-None : goal.returns-in-None
returns-in-None c =
    c.loop-place.invariant.on (Some c.loop-place.fitted)
    (subst (λ left. FitsOn (drop c.loop-place.place c.args.segments.now) (segments_left left) c.loop-place.place
    c.loop-place.fitted.book.now c.loop-place.fitted.last.now (Some c.loop-place.fitted)) (sym c.in-None.is)
    (all_fit c.args.segments.now c.loop-place.place c.loop-place.fitted (omega (arith, c.loop-place-test.false))))
