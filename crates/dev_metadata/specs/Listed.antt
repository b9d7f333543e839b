-- The metadata of a spreadsheet in order of creation: `metadataId` of the Google Sheets API v4.
use Rattle.std.specs.Prelude.{ℕ, ◌≢◌, Bool, not, ◌&&◌, ◌==◌, List, [], ◌∷◌, ◌++◌, Option, is_some, AllPairs, filter, find, map}
use Rattle.std.specs.List.Sorted.{IsPermutation, IsNonDecreasingBy}
use Rattle.dev_metadata.specs.declared.types.Item.{Item}
use Rattle.dev_metadata.specs.declared.types.Lookup.{Lookup}
use Rattle.dev_metadata.specs.declared.types.Visibility.{Visibility}
use Rattle.dev_metadata.specs.declared.types.Spot.{Spot}
use Rattle.dev_metadata.specs.Lookup.{sees, finds, finds_some}

abbrev pub ids_of : List Item → List ℕ
ids_of items = map (λ item. item.id) items

-- no two items have one id
abbrev pub HaveOwnIds : List Item → Type 0
HaveOwnIds items = AllPairs (λ one other. one ≢ other) (ids_of items)

-- the one with the id
abbrev pub with_id : ℕ → List Item → Option Item
with_id id items = find (λ item. id == item.id) items

-- one has the id
abbrev pub has_id : List Item → ℕ → Bool
has_id items id = is_some (with_id id items)

-- the one with the id, if the project sees it
abbrev pub seen_with_id : ℕ → List ℕ → List Item → Option Item
seen_with_id id project items = find (λ item. id == item.id && sees project item) items

-- a new item stands last
abbrev pub with_one_more : ℕ → List ℕ → List ℕ → Spot → Visibility → List Item → List Item
with_one_more id key value spot visibility items =
    items ++ record { id = id; key = key; value = value; spot = spot; visibility = visibility } ∷ []

-- the same, each behind those of lesser numbers
pub record AreInOrder {X : Type 0} (number : X → ℕ) (ones sorted : List X) : Type 0 where
  pub same : IsPermutation ones sorted
  pub ascending : IsNonDecreasingBy number sorted

-- the ids of the items, from the least on
abbrev pub AreIdsInOrder : List Item → List ℕ → Type 0
AreIdsInOrder items ids = AreInOrder (λ id. id) (ids_of items) ids

-- the items in order of id
abbrev pub AreInOrderOfId : List Item → List Item → Type 0
AreInOrderOfId items sorted = AreInOrder (λ item. item.id) items sorted

-- the items that a look-up finds, and those that it leaves
abbrev pub found : Lookup → List ℕ → List Item → List Item
found lookup project items = filter (finds lookup project) items

abbrev pub not_found : Lookup → List ℕ → List Item → List Item
not_found lookup project items = filter (λ item. not (finds lookup project item)) items

-- the items that one of the look-ups finds
abbrev pub found_by_some : List Lookup → List ℕ → List Item → List Item
found_by_some lookups project items = filter (finds_some lookups project) items
