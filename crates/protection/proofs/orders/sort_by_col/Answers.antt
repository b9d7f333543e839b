use Rattle.std.proofs.Common.{rules}
use Rattle.std.proofs.lemmas.List.Sorted.{IsNonDecreasingBy-from_sort_by_key}
use Rattle.protection.specs.Sweep.{first_col}
use Rattle.protection.proofs.orders.sort_by_col.Goals as goal

pub returns-clause-order : goal.returns-clause-order
returns-clause-order c =
    IsNonDecreasingBy-from_sort_by_key first_col _ c.sort_unstable_by_key.ensures.sorted (λ a r q k. search rules)
