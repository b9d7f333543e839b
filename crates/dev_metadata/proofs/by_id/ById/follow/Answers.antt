use Rattle.std.proofs.Common.{◌∙◌, ap, List, sym, subst}
use Rattle.std.specs.List.{filter_map}
use Rattle.dev_metadata.specs.Following.{item_followed}
use Rattle.dev_metadata.specs.Kept.{Entry, items_of, IsKept}
use Rattle.dev_metadata.proofs.OwnIds.{KeepsId-followed}
use Rattle.dev_metadata.proofs.Entries.{items_of-followed, IsKept-followed}
use Rattle.dev_metadata.proofs.by_id.ById.follow.Goals as goal

pub invariant_of-self : goal.invariant_of-self
invariant_of-self c =
    subst (λ (entries : List Entry). IsKept entries) (sym c.follow_values.ensures.followed)
    (IsKept-followed (item_followed c.args.sheet c.args.axis c.args.change.now) _
    (KeepsId-followed c.args.sheet c.args.axis c.args.change.now) c.self.invariant)

pub returns-clause-followed : goal.returns-clause-followed
returns-clause-followed c =
    ap items_of c.follow_values.ensures.followed
    ∙ items_of-followed (item_followed c.args.sheet c.args.axis c.args.change.now) c.self.inside.by_id.entries
    ∙ ap (filter_map (item_followed c.args.sheet c.args.axis c.args.change.now)) c.self.view_is
