use Rattle.std.proofs.Common.{◌∙◌, ap, List, sym, subst}
use Rattle.dev_metadata.specs.declared.types.Item.{Item}
use Rattle.dev_metadata.specs.Listed.{HaveOwnIds, with_id}
use Rattle.dev_metadata.proofs.OwnIds.{found_seen, found_unseen, none_seen}
use Rattle.dev_metadata.proofs.list.Metadata.seen.Goals as goal
use Rattle.dev_metadata.proofs.list.Metadata.seen.Goals.{in_default-via-in-Some+else-is_seen_under, in_default-via-in_default}

pub returns-in-Some-clause-item : goal.returns-in-Some-clause-item
returns-in-Some-clause-item c =
    sym (found_seen c.args.id c.args.project.now c.args.self.now c.in-Some.item.now
    (sym (c.in-Some.ensures.item ∙ ap (with_id c.args.id) c.self.view_is))
    (sym c.is_seen_under.ensures ∙ c.if-is_seen_under.true))

pub returns-in_default-clause-item : goal.returns-in_default-clause-item
returns-in_default-clause-item c = elim c.in_default.branch [
  | in_default-via-in-Some+else-is_seen_under w ↦
      sym (found_unseen c.args.id c.args.project.now c.args.self.now w.in-Some.item.now
      (subst (λ (items : List Item). HaveOwnIds items) c.self.view_is w.in-Some.ensures.ids)
      (sym (w.in-Some.ensures.item ∙ ap (with_id c.args.id) c.self.view_is))
      (sym w.is_seen_under.ensures ∙ w.if-is_seen_under.false))
  | in_default-via-in_default w ↦
      sym (none_seen c.args.id c.args.project.now c.args.self.now
      (sym (w.in_default.ensures.item ∙ ap (with_id c.args.id) c.self.view_is)))
]
