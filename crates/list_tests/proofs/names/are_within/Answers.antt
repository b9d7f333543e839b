use Rattle.std.proofs.Common.{sym, subst}
use Rattle.std.proofs.lemmas.List.Elements.{All-more}
use Rattle.std.proofs.lemmas.Option.{get_or_from_slice_get, slice_get_within}
use Rattle.named_ranges.specs.declared.range.NamedRange.{NamedRange}
use Rattle.named_ranges.specs.Following.{IsRangeWithinOn}
use Rattle.list_tests.proofs.names.are_within.Goals as goal

pub loop-at-preserved : goal.loop-at-preserved
loop-at-preserved c =
    let read = sym c.in-Some.ensures.range in
    All-more (IsRangeWithinOn c.args.sheet c.args.axis c.args.count) c.args.names.now c.loop-at.at
    c.in-Some.range.now (slice_get_within c.args.names.now c.loop-at.at c.in-Some.range.now read)
    c.loop-at.invariant
    (subst (λ (range : NamedRange). IsRangeWithinOn c.args.sheet c.args.axis c.args.count range)
    (sym (get_or_from_slice_get c.args.names.now c.loop-at.at c.in-Some.range.now c.in-Some.range.now read))
    (c.is_within.ensures c.if-not-is_within.false))
