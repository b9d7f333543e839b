use Rattle.std.proofs.Common.{◌∙◌, ap, List, not, sym, subst}
use Rattle.dev_metadata.specs.Spot.{is_on_sheet}
use Rattle.dev_metadata.specs.Following.{items_elsewhere}
use Rattle.dev_metadata.specs.Kept.{Entry, items_of, IsKept}
use Rattle.dev_metadata.proofs.Entries.{items_of-filter, IsKept-filter}
use Rattle.dev_metadata.proofs.by_id.ById.drop_sheet.Goals as goal

pub invariant_of-self : goal.invariant_of-self
invariant_of-self c =
    subst (λ (entries : List Entry). IsKept entries) (sym c.drop_sheet.ensures)
    (IsKept-filter (λ item. not (is_on_sheet c.args.sheet item.spot)) _ c.self.invariant)

pub returns : goal.returns
returns c =
    ap items_of c.drop_sheet.ensures
    ∙ items_of-filter (λ item. not (is_on_sheet c.args.sheet item.spot)) c.self.inside.by_id.entries
    ∙ ap (items_elsewhere c.args.sheet) c.self.view_is
