use Rattle.std.proofs.Common.{◌∙◌, ap, set}
use Rattle.protection.specs.declared.range.Protection.{Protection}
use Rattle.protection.specs.Listed.{with_changed}
use Rattle.protection.specs.Patch.{patched}
use Rattle.protection.proofs.Edits.{found_id, with_changed_at}
use Rattle.protection.proofs.list.Protections.update.Goals as goal
use Rattle.protection.proofs.list.Protections.update.Goals.{in-Ok, in-Err}

pub returns-clause-updated : goal.returns-clause-updated
returns-clause-updated c =
    let there = rw c.deref.ensures.value at c.in-Some.ensures.there in
    let found = rw c.deref.ensures.value at c.in-Some.ensures.found in
    let change = λ (one : Protection). patched c.args.user.now c.args.owner.now c.args.patch one in
    elim c.match-patch-10.branch [
      | in-Ok w ↦ rw w.result-is (
          ap (λ one. set c.self.inside.items.items c.in-Some.at one)
          (w.in-Ok.ensures.patched ∙ ap change c.index_mut.ensures.value)
          ∙ with_changed_at c.args.id change _ _ _ c.self.invariant there
          (found_id _ _ _ _ there c.index_mut.ensures.value found)
          ∙ ap (with_changed c.args.id change) c.self.view_is)
      | in-Err w ↦ rw w.result-is tt
    ]
