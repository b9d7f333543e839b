use Rattle.std.proofs.Common.{◌∙◌, ap, List, sym, subst}
use Rattle.std.specs.List.{filter_map}
use Rattle.named_ranges.specs.Following.{range_followed}
use Rattle.named_ranges.specs.Kept.{Entry, ranges_of, IsKept}
use Rattle.named_ranges.proofs.Entries.{ranges_of-followed, IsKept-followed}
use Rattle.named_ranges.proofs.list.Names.change.Goals as goal

pub invariant_of-self : goal.invariant_of-self
invariant_of-self c =
    subst (λ (entries : List Entry). IsKept entries) (sym c.follow_values.ensures.followed)
    (IsKept-followed _ _ _ _ _ c.self.invariant)

pub returns-clause-followed : goal.returns-clause-followed
returns-clause-followed c =
    ap ranges_of c.follow_values.ensures.followed
    ∙ ranges_of-followed c.args.sheet c.args.axis c.args.count c.args.change.now c.self.inside.by_id.entries
    ∙ ap (filter_map (range_followed c.args.sheet c.args.axis c.args.count c.args.change.now)) c.self.view_is
