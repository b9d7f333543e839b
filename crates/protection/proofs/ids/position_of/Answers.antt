use Rattle.std.proofs.Common.{◌∙◌, ap, sym}
use Rattle.protection.specs.declared.range.Protection.{Protection}
use Rattle.protection.proofs.Places.{with_id_at, with_id_none}
use Rattle.protection.proofs.ids.position_of.Goals as goal

pub returns-then-get-id-clause-found : goal.returns-then-get-id-clause-found
returns-then-get-id-clause-found c =
    with_id_at _ _ _ _ c.loop-place-test.true c.index-protections-place.is
    (ap (λ (one : Protection). one.id) (sym c.get.ensures) ∙ c.if-get-id.true)
    c.loop-place.invariant

pub returns-clause-none : goal.returns-clause-none
returns-clause-none c = with_id_none _ _ _ c.loop-place-test.false c.loop-place.invariant
