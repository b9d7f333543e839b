use Rattle.std.proofs.Common.{◌∙◌, ap, List, subst}
use Rattle.dev_metadata.specs.declared.types.Item.{Item}
use Rattle.dev_metadata.specs.Listed.{HaveOwnIds, with_id}
use Rattle.dev_metadata.proofs.Entries.{lookup-with_id}
use Rattle.dev_metadata.proofs.by_id.ById.get.Goals as goal

pub returns-clause-item : goal.returns-clause-item
returns-clause-item c =
    c.get.ensures.value
    ∙ lookup-with_id c.args.id c.self.inside.by_id.entries c.self.invariant.keyed
    ∙ ap (with_id c.args.id) c.self.view_is

pub returns-clause-ids : goal.returns-clause-ids
returns-clause-ids c = subst (λ (items : List Item). HaveOwnIds items) c.self.view_is c.self.invariant.own
