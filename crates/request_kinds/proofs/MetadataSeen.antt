-- Items that are found in order of id are seen again by their ids.
use Rattle.std.proofs.Common.{◌≡◌, ℕ, refl, sym, ap, ◌∙◌, List, [], ◌∷◌, All, get_or, arith}
use Rattle.std.specs.Prelude.{Some}
use Rattle.std.specs.List.{cons_option}
use Rattle.std.specs.List.Sorted.{IsNonDecreasingBy}
use Rattle.std.proofs.lemmas.Bool.{and_parts}
use Rattle.std.proofs.lemmas.List.{get_or-map, length-map}
use Rattle.std.proofs.lemmas.List.Elements.{All-head, All-tail, All-filter, filter_passes}
use Rattle.std.proofs.lemmas.List.Sorted.{All-permutation, IsPermutation-map}
use Rattle.dev_metadata.specs.Listed.{AreIdsInOrder, AreInOrderOfId, HaveOwnIds, found, ids_of, seen_with_id}
use Rattle.dev_metadata.specs.Lookup.{finds, meets, sees}
use Rattle.dev_metadata.specs.Visibility.{of_document}
use Rattle.dev_metadata.specs.declared.types.Item.{Item}
use Rattle.dev_metadata.specs.declared.types.Lookup.{Lookup}
use Rattle.dev_metadata.specs.declared.types.Spot.TheVariants as spot
use Rattle.request_kinds.specs.ItemLaws.{IsSeenIn, seen_again}
use Rattle.request_kinds.specs.Metadata.{items_seen}

-- ---- items in order of id

-- they are in order of their ids
ids_ascend : (items : List Item) → IsNonDecreasingBy (λ (item : Item). item.id) items
    → IsNonDecreasingBy (λ (id : ℕ). id) (ids_of items)
ids_ascend items ascend one other d before there =
    let number = λ (item : Item). item.id in
    let any : Item = record { id = d; key = []; value = []; spot = spot.Spreadsheet; visibility = of_document } in
    let long = length-map items number in
    let at_one = get_or-map number items one any d (omega arith) in
    let at_other = get_or-map number items other any d (omega arith) in
    let less = ascend one other any before (omega arith) in
    omega (arith, at_one, at_other, less)

module _ (project : List ℕ) (lookup : Lookup) (items sorted : List Item)
    (in_order : AreInOrderOfId (found lookup project items) sorted) where
  pub ids_in_order : AreIdsInOrder (found lookup project items) (ids_of sorted)
  ids_in_order = record {
    same = IsPermutation-map (λ (item : Item). item.id) (found lookup project items) sorted in_order.same;
    ascending = ids_ascend sorted in_order.ascending;
  }

  -- each is found by its id
  abbrev IsFound : Item → Type 0
  IsFound item = seen_with_id item.id project items ≡ Some item

  all_found : HaveOwnIds items → All IsFound sorted
  all_found own =
      All-permutation IsFound (found lookup project items) sorted in_order.same
      (λ at d there. All-filter (finds lookup project) (IsSeenIn project items) items (seen_again project items own) at
      d there (and_parts (sees project (get_or (found lookup project items) at d))
      (meets lookup (get_or (found lookup project items) at d))
      (filter_passes (finds lookup project) items at d there)).0)

  all_seen : (ones : List Item) → All IsFound ones → items_seen project (ids_of ones) items ≡ ones
  all_seen [] are = refl
  all_seen (first ∷ rest) are =
      ap (λ one. cons_option one (items_seen project (ids_of rest) items)) (All-head IsFound first rest are)
      ∙ ap (λ ones. first ∷ ones) (all_seen rest (All-tail IsFound first rest are))

  pub sorted_seen : HaveOwnIds items → sorted ≡ items_seen project (ids_of sorted) items
  sorted_seen own = sym (all_seen sorted (all_found own))
