use Rattle.std.proofs.Common.{◌<◌, ◌≤◌, subst}
use Rattle.protection.specs.declared.range.Protection.{Protection}
use Rattle.protection.proofs.Places.{behind_place, All-up_to}
use Rattle.protection.proofs.ids.place_for.Goals as goal

pub returns-then-id-get-clause-behind : goal.returns-then-id-get-clause-behind
returns-then-id-get-clause-behind c =
    behind_place _ _ _ _ c.requires.order c.loop-place-test.true c.index-protections-place.is
    (subst (λ (one : Protection). c.args.id ≤ one.id) c.get.ensures c.if-id-get.true)

pub loop-place-preserved : goal.loop-place-preserved
loop-place-preserved c =
    All-up_to (λ one. one.id < c.args.id) _ _ _ c.loop-place-test.true c.index-protections-place.is
    c.loop-place.invariant
    (subst (λ (one : Protection). one.id < c.args.id) c.get.ensures c.if-id-get.false)
