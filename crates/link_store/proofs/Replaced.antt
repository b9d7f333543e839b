-- The lists after the item of a node was replaced.
use Rattle.std.proofs.Common.{◌≡◌, ◌≢◌, inl, inr, ℕ, List, [], ◌∷◌, length, refl, sym, ap, subst, ◌∙◌, arith, map}
use Rattle.std.proofs.Common.{cond, eqb}
use Rattle.std.specs.Prelude.{Option, Some, None}
use Rattle.std.specs.Option.{option_map}
use Rattle.std.proofs.lemmas.Bool.{cases_eq, eq-eqb, ne_eqb}
use Rattle.std.proofs.lemmas.List.{length-map}
use Rattle.std.proofs.lemmas.List.Sums.{sum_by-cons}
use Rattle.std.proofs.lemmas.Option.{slice_get-map}
use Rattle.link_store.specs.declared.nodes.Node.{Node}
use Rattle.link_store.specs.declared.nodes.Ends.{Ends}
use Rattle.link_store.specs.Lists.{first_node, with_item_at, live_nodes}
use Rattle.link_store.specs.Nodes.{Lacks, Linked, last_from, entries, with_item, IsList, IsSound}
use Rattle.link_store.proofs.Stores.{StandsFor, stands_for}

module _ {T : Type 0} (node : ℕ) (item : T) where
  -- the entry with that item, if it is the node's
  abbrev pub put : ℕ × T → ℕ × T
  put entry = cond (eqb entry.0 node) (node, item) entry

  pub put_here : (entry : ℕ × T) → entry.0 ≡ node → put entry ≡ (node, item)
  put_here entry same = rw (eq-eqb entry.0 node same)

  pub put_other : (entry : ℕ × T) → entry.0 ≢ node → put entry ≡ entry
  put_other entry differs = rw (ne_eqb entry.0 node differs)

  put_node : (entry : ℕ × T) → (put entry).0 ≡ entry.0
  put_node entry = elim (cases_eq entry.0 node) [
    | inl same ↦ ap (λ (e : ℕ × T). e.0) (put_here entry same) ∙ sym same
    | inr differs ↦ ap (λ (e : ℕ × T). e.0) (put_other entry differs)
  ]

  first_put : (found : List (ℕ × T)) → first_node (map put found) ≡ first_node found
  first_put [] = refl
  first_put (entry ∷ rest) = ap Some (put_node entry)

  last_put : (before : Option ℕ) (found : List (ℕ × T)) → last_from before (map put found) ≡ last_from before found
  last_put before [] = refl
  last_put before (entry ∷ rest) = ap (λ n. last_from (Some n) (map put rest)) (put_node entry)
      ∙ last_put (Some entry.0) rest

  Lacks-put : (k : ℕ) (found : List (ℕ × T)) → Lacks k found → Lacks k (map put found)
  Lacks-put k [] lacks = tt
  Lacks-put k (entry ∷ rest) lacks = ((λ same. lacks.0 (sym (put_node entry) ∙ same)), Lacks-put k rest lacks.1)

  pub live_nodes-put : (lists : List (List (ℕ × T))) → live_nodes (with_item_at lists node item) ≡ live_nodes lists
  live_nodes-put [] = refl
  live_nodes-put (found ∷ lists) = omega (
    arith,
    length-map found put,
    live_nodes-put lists,
    sum_by-cons length found lists,
    sum_by-cons length (map put found) (with_item_at lists node item),
  )

  module _ (find later : ℕ → Option (Node T)) (changed : later node ≡ option_map (with_item item) (find node))
      (others : (k : ℕ) → node ≢ k → later k ≡ find k) where
    linked_here : (list : ℕ) (before : Option ℕ) (entry : ℕ × T) (rest : List (ℕ × T))
        → find entry.0 ≡ Some (record { item = entry.1; list = list; previous = before; next = first_node rest })
        → later (put entry).0 ≡ Some (record {
          item = (put entry).1;
          list = list;
          previous = before;
          next = first_node (map put rest);
        })
    linked_here list before entry rest at = elim (cases_eq entry.0 node) [
      | inl same ↦
          subst (λ (e : ℕ × T). later e.0 ≡ Some (record {
            item = e.1;
            list = list;
            previous = before;
            next = first_node (map put rest);
          })) (sym (put_here entry same))
          (changed ∙ ap (option_map (with_item item)) (ap find (sym same) ∙ at)
          ∙ ap (λ next. Some (record { item = item; list = list; previous = before; next = next }))
          (sym (first_put rest)))
      | inr differs ↦
          subst (λ (e : ℕ × T). later e.0 ≡ Some (record {
            item = e.1;
            list = list;
            previous = before;
            next = first_node (map put rest);
          })) (sym (put_other entry differs))
          (others entry.0 (λ same. differs (sym same)) ∙ at
          ∙ ap (λ next. Some (record { item = entry.1; list = list; previous = before; next = next }))
          (sym (first_put rest)))
    ]

    Linked-put : (list : ℕ) (before : Option ℕ) (found : List (ℕ × T)) → Linked find list before found
        → Linked later list before (map put found)
    Linked-put list before [] linked = tt
    Linked-put list before (entry ∷ rest) linked = (
      linked_here list before entry rest linked.0,
      subst (λ k. Lacks k (map put rest)) (sym (put_node entry)) (Lacks-put entry.0 rest linked.1),
      subst (λ k. Linked later list (Some k) (map put rest)) (sym (put_node entry))
          (Linked-put list (Some entry.0) rest linked.2),
    )

    list_put : (list : ℕ) (ends : Ends) (found : List (ℕ × T)) → IsList find list ends found
        → IsList later list ends (map put found)
    list_put list ends found is = record {
      count = is.count ∙ sym (length-map found put);
      first = is.first ∙ sym (first_put found);
      last = is.last ∙ sym (last_put None found);
      linked = Linked-put list None found is.linked;
    }

    pub store_put : (ends : List Ends) (lists : List (List (ℕ × T))) → IsSound find ends
        → map (entries find) ends ≡ lists
        → StandsFor later ends (with_item_at lists node item)
    store_put ends lists sound view = subst (λ all. StandsFor later ends (with_item_at all node item)) view
        (stands_for later ends _ (simp length-map refl) (λ i one list there seen.
        let what : map put (entries find one) ≡ list = cc (
          slice_get-map (map put) (map (entries find) ends) i,
          ap (option_map (map put)) (slice_get-map (entries find) ends i),
          ap (λ o. option_map (map put) (option_map (entries find) o)) there,
          seen,
        ) in
        subst (IsList later i one) what (list_put i one (entries find one) (sound i one there))))
