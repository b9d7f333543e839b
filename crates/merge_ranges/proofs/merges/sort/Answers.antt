use Rattle.std.proofs.Common.{rules}
use Rattle.std.proofs.lemmas.List.Sorted.{answers_always}
use Rattle.grid_range.specs.Area.{first_cell}
use Rattle.merge_ranges.proofs.merges.sort.Goals as goal

pub returns-clause-in_order : goal.returns-clause-in_order
returns-clause-in_order c = c.sort_unstable_by_key.ensures.sorted first_cell
    (answers_always _ _ _ (λ f a r g h. search rules))
