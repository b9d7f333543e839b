use Rattle.std.proofs.Common.{sym, ap, subst, ◌∙◌}
use Rattle.merge_ranges.specs.Merges.{AreMerges}
use Rattle.merge_ranges.specs.Calls.{ListsJust, IsLeft}
use Rattle.merge_ranges.specs.Tests.{left_by}
use Rattle.merge_ranges.proofs.Merging.{lists_left, left_are_merges}
use Rattle.merge_ranges.proofs.merges.Merges.split.Goals as goal

pub invariant_of-self : goal.invariant_of-self
invariant_of-self c =
    subst AreMerges (sym (c.of.ensures ∙ c.dissolve.ensures.left
    ∙ ap (left_by c.args.area.now) (c.into_vec-merges.ensures ∙ c.take.ensures.taken
    ∙ c.self.view_is)))
    (left_are_merges c.args.area.now c.args.self.now (subst AreMerges c.self.view_is c.self.invariant))

pub returns-clause-left : goal.returns-clause-left
returns-clause-left c =
    subst (ListsJust (IsLeft c.args.area.now c.args.self.now))
    (sym (c.of.ensures ∙ c.dissolve.ensures.left
    ∙ ap (left_by c.args.area.now) (c.into_vec-merges.ensures ∙ c.take.ensures.taken
    ∙ c.self.view_is)))
    (lists_left c.args.area.now c.args.self.now (subst AreMerges c.self.view_is c.self.invariant))
