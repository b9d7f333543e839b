use Rattle.std.proofs.Common.{rules, subst}
use Rattle.std.specs.List.Sorted.{IsPermutation}
use Rattle.std.proofs.lemmas.List.Sorted.{IsNonDecreasingBy-from_sort_by_key}
use Rattle.grid_range.specs.Area.{band_on}
use Rattle.grid_range.specs.Band.{first_line}
use Rattle.grid_range.specs.declared.area.Area.{Area}
use Rattle.merge_ranges.proofs.lines.by_first_line.Goals as goal

pub returns-clause-same : goal.returns-clause-same
returns-clause-same c =
    subst (λ left. IsPermutation left c.sort_unstable_by_key.new.self.items) c.in_ok-left.ensures
    c.sort_unstable_by_key.ensures.permutation

pub returns-clause-in_order : goal.returns-clause-in_order
returns-clause-in_order c =
    IsNonDecreasingBy-from_sort_by_key (λ (merge : Area). first_line (band_on c.args.axis merge)) _
    c.sort_unstable_by_key.ensures.sorted (λ a r f' called. search rules)
