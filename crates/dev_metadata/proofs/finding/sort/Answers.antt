use Rattle.std.proofs.lemmas.List.Sorted.{IsNonDecreasingBy-from_sort}
use Rattle.dev_metadata.proofs.finding.sort.Goals as goal

pub returns : goal.returns
returns c = record {
  same = c.sort_unstable.ensures.permutation;
  ascending = IsNonDecreasingBy-from_sort (λ n. n) _ c.sort_unstable.ensures.sorted;
}
