-- How nodes that are linked by their numbers stand for lists. No public clause cites this module.
use Rattle.std.specs.Prelude.{◌≡◌, ◌≢◌, ◌==◌, if◌then◌else◌, ℕ, zero, suc, List, [], ◌∷◌, length, Option, Some, None}
use Rattle.std.specs.Prelude.{slice_get}
use Rattle.std.specs.Option.{option_map_or}
use Rattle.link_store.specs.Lists.{first_node}
use Rattle.link_store.specs.declared.nodes.Node.{Node}
use Rattle.link_store.specs.declared.nodes.Ends.{Ends}

-- a link that named the node names the other in its place
abbrev pub pass : ℕ → Option ℕ → Option ℕ → Option ℕ
pass node other None = None
pass node other (Some k) = if k == node then other else Some k

module _ {T : Type 0} where
  abbrev pub with_next : Option ℕ → Node T → Node T
  with_next next node = record node { next = next }

  abbrev pub with_previous : Option ℕ → Node T → Node T
  with_previous previous node = record node { previous = previous }

  abbrev pub with_item : T → Node T → Node T
  with_item item node = record node { item = item }

  -- a node's links where the other node is gone
  abbrev pub passed_over : ℕ → Node T → Node T → Node T
  passed_over k gone node =
      record node { previous = pass k gone.previous node.previous; next = pass k gone.next node.next }

  -- so many entries, from that node on and by what each names as its next
  abbrev pub follow : (ℕ → Option (Node T)) → ℕ → Option ℕ → List (ℕ × T)
  follow find zero at = []
  follow find (suc more) None = []
  follow find (suc more) (Some node) =
      option_map_or (λ found. (node, found.item) ∷ follow find more found.next) (find node) []

  abbrev pub entries : (ℕ → Option (Node T)) → Ends → List (ℕ × T)
  entries find ends = follow find ends.count ends.first

  -- no entry is that node's
  abbrev pub Lacks : ℕ → List (ℕ × T) → Type 0
  Lacks node [] = Unit {0}
  Lacks node (entry ∷ rest) = (entry.0 ≢ node) × Lacks node rest

  -- the node of the last entry, or that one where there is none
  abbrev pub last_from : Option ℕ → List (ℕ × T) → Option ℕ
  last_from before [] = before
  last_from before (entry ∷ rest) = last_from (Some entry.0) rest

  -- each entry is a node of that list, with its item and its neighbours; behind that node
  abbrev pub Linked : (ℕ → Option (Node T)) → ℕ → Option ℕ → List (ℕ × T) → Type 0
  Linked find list before [] = Unit {0}
  Linked find list before (entry ∷ rest) =
      (find entry.0 ≡ Some (record { item = entry.1; list = list; previous = before; next = first_node rest }))
      × Lacks entry.0 rest × Linked find list (Some entry.0) rest

  -- the list with that number has these entries
  pub record IsList (find : ℕ → Option (Node T)) (list : ℕ) (ends : Ends) (found : List (ℕ × T)) : Type 0 where
    pub count : ends.count ≡ length found
    pub first : ends.first ≡ first_node found
    pub last : ends.last ≡ last_from None found
    pub linked : Linked find list None found

  -- each list is linked
  abbrev pub IsSound : (ℕ → Option (Node T)) → List Ends → Type 0
  IsSound find all = (list : ℕ) (ends : Ends) → slice_get all list ≡ Some ends
      → IsList find list ends (entries find ends)
