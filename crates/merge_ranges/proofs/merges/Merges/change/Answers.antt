use Rattle.std.proofs.Common.{◌≡◌, sym, ap, subst, ◌∙◌, true, false}
use Rattle.std.specs.List.{list_any, filter_map}
use Rattle.std.specs.List.Sorted.{IsPermutation}
use Rattle.merge_ranges.specs.Merges.{AreMerges}
use Rattle.merge_ranges.specs.Tests.{tears_merge, merge_after}
use Rattle.merge_ranges.proofs.Changing.{Changed, changed, tears_some}
use Rattle.merge_ranges.proofs.merges.Merges.change.Goals as goal

pub returns-then-is_tearing-clause-torn : goal.returns-then-is_tearing-clause-torn
returns-then-is_tearing-clause-torn c =
    let some : list_any (tears_merge c.args.axis c.args.count c.args.change.now) c.args.self.now ≡ true =
    sym (ap (list_any (tears_merge c.args.axis c.args.count c.args.change.now)) (c.as_slice.ensures ∙ c.self.view_is))
    ∙ sym c.is_tearing.ensures ∙ c.if-is_tearing.true in
    tears_some c.args.axis c.args.count c.args.change.now c.requires.fits c.tears_where_torn.ensures c.args.self.now
    c.requires.within some

none_torn : (c : goal.After-follow_all)
    → Changed c.args.axis c.args.count c.args.change.now c.args.self.now c.follow_all.new.merges
none_torn c =
    let none : list_any (tears_merge c.args.axis c.args.count c.args.change.now) c.args.self.now ≡ false =
    sym (ap (list_any (tears_merge c.args.axis c.args.count c.args.change.now)) (c.as_slice.ensures ∙ c.self.view_is))
    ∙ sym c.is_tearing.ensures ∙ c.if-is_tearing.false in
    changed c.args.axis c.args.count c.args.change.now c.args.self.now c.follow_all.new.merges
    c.tracks_stay_within.ensures c.spans_stay_apart.ensures c.tears_where_torn.ensures c.torn_or_whole.ensures
    c.requires.fits (subst AreMerges c.self.view_is c.self.invariant) c.requires.within none
    (subst (λ ms. IsPermutation (filter_map (merge_after c.args.axis c.args.count c.args.change.now) ms)
    c.follow_all.new.merges)
    c.self.view_is c.follow_all.ensures.followed)
    c.follow_all.ensures.in_order

pub invariant_of-self : goal.invariant_of-self
invariant_of-self c = (none_torn c).are

pub returns-clause-whole : goal.returns-clause-whole
returns-clause-whole c = (none_torn c).whole

pub returns-clause-followed : goal.returns-clause-followed
returns-clause-followed c = (none_torn c).followed

pub returns-clause-within : goal.returns-clause-within
returns-clause-within c = c.follow_all.ensures.within
