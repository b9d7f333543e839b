use Rattle.std.proofs.Common.{◌∙◌, ap, List, not, sym, subst}
use Rattle.dev_metadata.specs.Lookup.{finds}
use Rattle.dev_metadata.specs.Listed.{not_found}
use Rattle.dev_metadata.specs.Kept.{Entry, items_of, IsKept}
use Rattle.dev_metadata.proofs.Entries.{items_of-filter, IsKept-filter}
use Rattle.dev_metadata.proofs.by_id.ById.drop_found.Goals as goal

pub invariant_of-self : goal.invariant_of-self
invariant_of-self c =
    subst (λ (entries : List Entry). IsKept entries) (sym c.drop_found.ensures)
    (IsKept-filter (λ item. not (finds c.args.lookup.now c.args.project.now item)) _ c.self.invariant)

pub returns : goal.returns
returns c =
    ap items_of c.drop_found.ensures
    ∙ items_of-filter (λ item. not (finds c.args.lookup.now c.args.project.now item)) c.self.inside.by_id.entries
    ∙ ap (not_found c.args.lookup.now c.args.project.now) c.self.view_is
