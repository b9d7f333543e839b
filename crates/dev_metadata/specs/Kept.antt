-- What a map of items by id keeps.
use Rattle.std.specs.Prelude.{ℕ, ◌≡◌, List, All, map}
use Rattle.dev_metadata.specs.declared.types.Item.{Item}
use Rattle.dev_metadata.specs.Listed.{HaveOwnIds}

abbrev pub Entry : Type 0
Entry = ℕ × Item

-- the items in order
abbrev pub items_of : List Entry → List Item
items_of entries = map (λ entry. entry.1) entries

-- each item stands under its id, and no two have one id
pub record IsKept (entries : List Entry) : Type 0 where
  pub keyed : All (λ entry. entry.0 ≡ entry.1.id) entries
  pub own : HaveOwnIds (items_of entries)
