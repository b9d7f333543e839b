use Rattle.std.proofs.Common.{List, sym, subst, ap, ◌∙◌}
use Rattle.std.specs.Prelude.{slice_get}
use Rattle.std.proofs.lemmas.Option.{get_or_from_slice_get}
use Rattle.dev_metadata.specs.declared.types.Item.{Item}
use Rattle.dev_metadata.specs.Listed.{HaveOwnIds}
use Rattle.dev_metadata.proofs.by_id.ById.at.Goals as goal

pub returns-clause-item : goal.returns-clause-item
returns-clause-item c =
    sym (get_or_from_slice_get c.args.self.now c.args.at c.index.result.now c.index.result.now
    (ap (λ items. slice_get items c.args.at) (sym c.self.view_is) ∙ c.index.ensures))

pub returns-clause-ids : goal.returns-clause-ids
returns-clause-ids c = subst (λ (items : List Item). HaveOwnIds items) c.self.view_is c.self.invariant.own
