-- What holds of items in order of id.
use Rattle.std.specs.Prelude.{ℕ, List}
use Rattle.dev_metadata.specs.Listed.{AreIdsInOrder}
use Rattle.dev_metadata.specs.declared.types.Item.{Item}

-- the ids of items can be put in order
abbrev pub HaveOrder : Type 0
HaveOrder = (items : List Item) → (ids : List ℕ) × AreIdsInOrder items ids
