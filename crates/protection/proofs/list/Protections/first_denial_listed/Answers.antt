use Rattle.std.proofs.Common.{◌∙◌, sym, subst, List}
use Rattle.std.proofs.lemmas.Bool.{false≢true}
use Rattle.std.proofs.lemmas.List.{take_all}
use Rattle.std.proofs.lemmas.List.Elements.{All-more, All-same}
use Rattle.protection.specs.declared.range.Protection.{Protection}
use Rattle.protection.specs.Denial.{DeniesOne, IsFirst, ListedCells}
use Rattle.protection.specs.Listed.{IsInOrder}
use Rattle.protection.proofs.Ordered.{IsFirst-at}
use Rattle.protection.proofs.list.Protections.first_denial_listed.Goals as goal

pub returns-then-denies_listed-clause-denied : goal.returns-then-denies_listed-clause-denied
returns-then-denies_listed-clause-denied c =
    subst
    (λ (one : Protection). IsFirst
    (DeniesOne c.args.user.now c.args.owner.now (ListedCells c.args.sheet c.args.cells.now)) c.args.self.now one.id)
    (sym c.get.ensures)
    (subst
    (λ (list : List Protection). IsFirst
    (DeniesOne c.args.user.now c.args.owner.now (ListedCells c.args.sheet c.args.cells.now)) list
    c.protection-item.result.id)
    (c.deref-protection-items.ensures.value ∙ c.self.view_is)
    (IsFirst-at (DeniesOne c.args.user.now c.args.owner.now (ListedCells c.args.sheet c.args.cells.now)) _ _ _
    (subst (λ (list : List Protection). IsInOrder list) (sym c.deref-protection-items.ensures.value) c.self.invariant)
    c.loop-protection-test.true c.protection-item.is c.loop-protection.invariant
    (c.denies_listed.ensures.0 c.if-denies_listed.true)))

pub loop-protection-preserved : goal.loop-protection-preserved
loop-protection-preserved c =
    All-more
    (λ one. ¬ (DeniesOne c.args.user.now c.args.owner.now (ListedCells c.args.sheet c.args.cells.now) one))
    _ _ c.protection-item.result c.loop-protection-test.true c.loop-protection.invariant
    (subst
    (λ (one : Protection).
    ¬ (DeniesOne c.args.user.now c.args.owner.now (ListedCells c.args.sheet c.args.cells.now) one))
    c.protection-item.is
    (λ some. false≢true (sym c.if-denies_listed.false ∙ c.denies_listed.ensures.1 some)))

pub returns-clause-allowed : goal.returns-clause-allowed
returns-clause-allowed c =
    All-same
    (λ one. ¬ (DeniesOne c.args.user.now c.args.owner.now (ListedCells c.args.sheet c.args.cells.now) one))
    _ _
    (sym (take_all _ _ c.loop-protection-test.false ∙ c.deref-protection-items.ensures.value ∙ c.self.view_is))
    c.loop-protection.invariant
