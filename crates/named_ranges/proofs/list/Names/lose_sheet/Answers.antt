use Rattle.std.proofs.Common.{◌∙◌, ap, List, sym, subst}
use Rattle.named_ranges.specs.Following.{ranges_elsewhere}
use Rattle.named_ranges.specs.Kept.{Entry, ranges_of, IsKept}
use Rattle.named_ranges.proofs.Entries.{ranges_of-elsewhere, IsKept-elsewhere}
use Rattle.named_ranges.proofs.list.Names.lose_sheet.Goals as goal

pub invariant_of-self : goal.invariant_of-self
invariant_of-self c =
    subst (λ (entries : List Entry). IsKept entries) (sym c.keep_elsewhere.ensures)
    (IsKept-elsewhere _ _ c.self.invariant)

pub returns : goal.returns
returns c =
    ap ranges_of c.keep_elsewhere.ensures
    ∙ ranges_of-elsewhere c.args.sheet c.self.inside.by_id.entries
    ∙ ap (ranges_elsewhere c.args.sheet) c.self.view_is
