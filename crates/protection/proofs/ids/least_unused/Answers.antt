use Rattle.std.proofs.Common.{◌≡◌, ◌∙◌, ap, sym, arith}
use Rattle.std.proofs.lemmas.List.{take_all}
use Rattle.std.proofs.lemmas.List.Elements.{All-same}
use Rattle.protection.specs.declared.range.Protection.{Protection}
use Rattle.protection.proofs.Edits.{has_id-missing}
use Rattle.protection.proofs.Places.{All-up_to, unused_above, used_below}
use Rattle.protection.proofs.ids.least_unused.Goals as goal
use Rattle.protection.proofs.ids.least_unused.Goals.{then-get-id, else-get-id}

pub loop-protection-preserved : goal.loop-protection-preserved
loop-protection-preserved c = elim c.if-get-id.branch [
  | then-get-id w ↦ rw w.id-is (record {
    positive = omega arith;
    few = omega arith;
    unused = unused_above _ _ _ _ c.requires.order c.loop-protection-test.true c.protection-item.is
        (ap (λ (one : Protection). one.id) (sym c.get.ensures) ∙ w.if-get-id.true);
    used = used_below _ _ _ _ c.loop-protection-test.true c.protection-item.is
        (ap (λ (one : Protection). one.id) (sym c.get.ensures) ∙ w.if-get-id.true)
        c.loop-protection.invariant.used;
  })
  | else-get-id w ↦ rw w.id-is (record {
    positive = c.loop-protection.invariant.positive;
    few = omega arith;
    unused = All-up_to (λ one. ¬ (one.id ≡ c.loop-protection.id)) _ _ _ c.loop-protection-test.true
        c.protection-item.is c.loop-protection.invariant.unused
        (λ has. w.if-get-id.false (ap (λ (one : Protection). one.id) c.get.ensures ∙ has));
    used = c.loop-protection.invariant.used;
  })
]

pub returns : goal.returns
returns c = record {
  positive = c.loop-protection.invariant.positive;
  unused = has_id-missing _ _ (All-same (λ one. ¬ (one.id ≡ c.loop-protection.id)) _ _
      (sym (take_all _ _ c.loop-protection-test.false)) c.loop-protection.invariant.unused);
  least = c.loop-protection.invariant.used;
}
