use Rattle.std.proofs.Common.{sym, subst}
use Rattle.std.proofs.lemmas.List.Elements.{All-more}
use Rattle.std.proofs.lemmas.Option.{get_or_from_slice_get, slice_get_within}
use Rattle.protection.specs.declared.range.Protection.{Protection}
use Rattle.protection.specs.Following.{IsKeptWithin}
use Rattle.list_tests.proofs.protections.are_within.Goals as goal

pub loop-at-preserved : goal.loop-at-preserved
loop-at-preserved c =
    let read = sym c.in-Some.ensures.protection in
    All-more (IsKeptWithin c.args.sheet c.args.axis c.args.count) c.args.list.now c.loop-at.at
    c.in-Some.one.now (slice_get_within c.args.list.now c.loop-at.at c.in-Some.one.now read)
    c.loop-at.invariant
    (subst (λ (one : Protection). IsKeptWithin c.args.sheet c.args.axis c.args.count one)
    (sym (get_or_from_slice_get c.args.list.now c.loop-at.at c.in-Some.one.now c.in-Some.one.now read))
    (c.is_kept_within.ensures c.if-not-is_kept_within.false))
