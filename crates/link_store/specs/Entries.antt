-- The entries of a list that an iterator has still to give. No public clause cites this module.
use Rattle.std.specs.Prelude.{◌≡◌, ℕ, ◌==◌, if◌then◌else◌, List, [], ◌∷◌, Option, Some, None, Contains}
use Rattle.link_store.specs.Lists.{entries_of, HasNodesOnce}

module _ {T : Type 0} where
  -- the entries from that node on
  abbrev pub entries_from : List (ℕ × T) → Option ℕ → List (ℕ × T)
  entries_from entries None = []
  entries_from [] (Some node) = []
  entries_from (entry ∷ rest) (Some node) =
      if entry.0 == node then entry ∷ rest else entries_from rest (Some node)

  -- the next node is one of the list's
  pub record IsCursor (lists : List (List (ℕ × T))) (list : ℕ) (next : Option ℕ) : Type 0 where
    pub once : HasNodesOnce lists
    pub stands : (node : ℕ) → next ≡ Some node → (item : T) × Contains (entries_of lists list) (node, item)
