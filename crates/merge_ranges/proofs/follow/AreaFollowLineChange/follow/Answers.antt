use Rattle.std.proofs.Common.{sym, ◌∙◌}
use Rattle.merge_ranges.proofs.Changing.{followed_sheet}
use Rattle.merge_ranges.proofs.follow.AreaFollowLineChange.follow.Goals as goal

pub returns-in-Some-clause-has_followed : goal.returns-in-Some-clause-has_followed
returns-in-Some-clause-has_followed c =
    c.in-Some.ensures.within
    (followed_sheet c.args.by.now.axis c.args.by.now.count c.args.by.now.change.now c.args.self.now c.in-Some.area
    (sym c.follow.ensures.value ∙ c.in-Some.is))
