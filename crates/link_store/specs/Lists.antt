-- Numbered lists. A list has entries in order, and each is a node, which is a number, and its item.
use Rattle.std.specs.Prelude.{◌≡◌, ℕ, ◌==◌, nat_eq, not, if◌then◌else◌, List, [], ◌∷◌, ◌++◌, length, Option, Some}
use Rattle.std.specs.Prelude.{None, Contains, map, filter, sum_by, slice_index_or, slice_set}
use Rattle.std.specs.List.{IsDistinct}

module _ {T : Type 0} where
  -- the entries of the list with that number
  abbrev pub entries_of : List (List (ℕ × T)) → ℕ → List (ℕ × T)
  entries_of lists list = slice_index_or lists list []

  -- the node of the first entry
  abbrev pub first_node : List (ℕ × T) → Option ℕ
  first_node [] = None
  first_node (entry ∷ rest) = Some entry.0

  -- the node of the entry after that node's
  abbrev pub node_after : List (ℕ × T) → ℕ → Option ℕ
  node_after [] node = None
  node_after (entry ∷ rest) node = if entry.0 == node then first_node rest else node_after rest node

  -- the node stands in one of the lists, with that item
  abbrev pub HasEntry : List (List (ℕ × T)) → ℕ → T → Type 0
  HasEntry lists node item = (list : ℕ) × Contains (entries_of lists list) (node, item)

  -- the node stands in one of the lists
  abbrev pub IsLive : List (List (ℕ × T)) → ℕ → Type 0
  IsLive lists node = (item : T) × HasEntry lists node item

  -- how many nodes stand in the lists
  abbrev pub live_nodes : List (List (ℕ × T)) → ℕ
  live_nodes lists = sum_by length lists

  -- the lists with one entry more at the end of that list
  abbrev pub with_entry : List (List (ℕ × T)) → ℕ → ℕ → T → List (List (ℕ × T))
  with_entry lists list node item = slice_set lists list (entries_of lists list ++ (node, item) ∷ [])

  -- the entries of one list, without the node's
  abbrev pub without : ℕ → List (ℕ × T) → List (ℕ × T)
  without node entries = filter (λ entry. not (entry.0 == node)) entries

  -- the lists without the node's entry
  abbrev pub without_node : List (List (ℕ × T)) → ℕ → List (List (ℕ × T))
  without_node lists node = map (without node) lists

  -- the lists with that item at the node
  abbrev pub with_item_at : List (List (ℕ × T)) → ℕ → T → List (List (ℕ × T))
  with_item_at lists node item =
      map (map (λ entry. if entry.0 == node then (node, item) else entry)) lists

  -- each node stands in one list, and there once
  pub record HasNodesOnce (lists : List (List (ℕ × T))) : Type 0 where
    pub one_list : (list other node : ℕ) (x y : T) → Contains (entries_of lists list) (node, x)
        → Contains (entries_of lists other) (node, y) → list ≡ other
    pub distinct : (list : ℕ) → IsDistinct nat_eq (map (λ entry. entry.0) (entries_of lists list))
