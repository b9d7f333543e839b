use Rattle.merge_ranges.specs.FirstCells.{by_first_total}
use Rattle.merge_ranges.proofs.Ordered.{sorted_same}
use Rattle.merge_ranges.proofs.laws.lists_are_same.Goals as goal

pub returns : goal.returns
returns c one other lists lists' = sorted_same by_first_total one other lists.in_order lists'.in_order
    (λ area has. (lists.exactly area).0 has)
    (λ area has. (lists'.exactly area).0 has)
