use Rattle.std.proofs.Common.{◌∙◌, ap}
use Rattle.protection.specs.Listed.{without_id}
use Rattle.protection.proofs.Edits.{found_id, without_id_at}
use Rattle.protection.proofs.list.Protections.drop.Goals as goal

pub returns-clause-dropped : goal.returns-clause-dropped
returns-clause-dropped c =
    let there = rw c.deref.ensures.value at c.in-Some.ensures.there in
    let found = rw c.deref.ensures.value at c.in-Some.ensures.found in
    c.remove.ensures.items
    ∙ without_id_at _ _ _ _ c.self.invariant there (found_id _ _ _ _ there c.index.ensures found)
    ∙ ap (without_id c.args.id) c.self.view_is
