use Rattle.std.proofs.Common.{rules}
use Rattle.std.proofs.lemmas.List.Sorted.{IsNonDecreasingBy-from_sort, answers_always}
use Rattle.dev_metadata.specs.declared.types.Item.{Item}
use Rattle.dev_metadata.proofs.finding.sort_items.Goals as goal

pub returns : goal.returns
returns c = record {
  same = c.sort_unstable_by_key.ensures.permutation;
  ascending = IsNonDecreasingBy-from_sort (λ (item : Item). item.id) _
      (c.sort_unstable_by_key.ensures.sorted (λ (item : Item). item.id)
      (answers_always _ _ _ (λ f a r g h. search rules)));
}
