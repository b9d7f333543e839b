-- Ids that are known to be used, so that no unused one is looked for among them.
use Rattle.std.specs.Prelude.{ℕ, ◌≡◌, ◌≤◌, ◌<◌, true, List}
use Rattle.dev_metadata.specs.declared.types.Item.{Item}
use Rattle.dev_metadata.specs.Listed.{has_id}

-- all ids from 1 on below that one are those of items
pub record AreUsedBelow (items : List Item) (end : ℕ) : Type 0 where
  pub positive : 1 ≤ end
  pub used : (lesser : ℕ) → 1 ≤ lesser → lesser < end → has_id items lesser ≡ true
