-- What the fields of the store say of its lists.
use Rattle.std.proofs.Common.{◌≡◌, ◌≢◌, ℕ, ◌+◌, ◌-◌, ◌<◌, ◌≤◌, List, [], ◌∷◌, ◌++◌, length, refl, sym, ap, subst, ◌∙◌}
use Rattle.std.proofs.Common.{arith, map, get_or}
use Rattle.std.specs.Prelude.{Option, Some, None, Contains, slice_get, slice_set, nat_eq}
use Rattle.std.specs.List.{IsDistinct}
use Rattle.std.specs.Option.{option_map, option_or}
use Rattle.std.proofs.lemmas.List.{length-map, length-append, get_or-set_same}
use Rattle.std.proofs.lemmas.List.Elements.{Contains-push}
use Rattle.std.proofs.lemmas.List.Sums.{get_or-le-sum_by, sum_by-set}
use Rattle.std.proofs.lemmas.Option.{slice_get_within, slice_get_read, get_or_from_slice_get}
use Rattle.slab.specs.Slab.{Slab, get, Updates}
use Rattle.link_store.specs.declared.nodes.Node.{Node}
use Rattle.link_store.specs.declared.nodes.Ends.{Ends}
use Rattle.link_store.specs.Lists.{entries_of, first_node, node_after, HasEntry, IsLive, live_nodes, with_entry}
use Rattle.link_store.specs.Lists.{without_node, HasNodesOnce}
use Rattle.link_store.specs.Nodes.{entries, pass, with_next, with_previous, IsSound}
use Rattle.link_store.proofs.Members.{IsDistinct-once, node_after_in, live_nodes-without}
use Rattle.link_store.proofs.Stores.{entries_at, list_of, once_at, lacks_elsewhere, entry_node, PutsBehind, TakesOut}
use Rattle.link_store.proofs.Stores.{StandsFor, store_push, store_without}

module _ {T : Type 0} (find : ℕ → Option (Node T)) (ends : List Ends) (lists : List (List (ℕ × T)))
    (view : map (entries find) ends ≡ lists) where
  pub ends_within : (list : ℕ) → list < length lists → list < length ends
  ends_within list within = omega (arith, length-map ends (entries find), ap length view)

  pub ends_at : (list : ℕ) (one : Ends) → list < length lists → one ≡ get_or ends list one
      → slice_get ends list ≡ Some one
  ends_at list one within read = slice_get_read ends (length ends) list one refl (ends_within list within) read

  seen : (list node : ℕ) (item : T) → Contains (entries_of lists list) (node, item)
      → Contains (entries_of (map (entries find) ends) list) (node, item)
  seen list node item has = subst (λ all. Contains (entries_of all list) (node, item)) (sym view) has

  pub read_first : IsSound find ends → (list : ℕ) (one : Ends) → list < length lists → one ≡ get_or ends list one
      → one.first ≡ first_node (entries_of lists list)
  read_first sound list one within read =
      let at = ends_at list one within read in
      (sound list one at).first ∙ ap first_node (sym (entries_at find ends list one at))
      ∙ ap (λ all. first_node (entries_of all list)) view

  pub count_within : IsSound find ends → (list : ℕ) (one : Ends) → list < length lists → one ≡ get_or ends list one
      → one.count ≤ live_nodes lists
  count_within sound list one within read =
      let at = ends_at list one within read in
      let same : entries_of lists list ≡ entries find one = ap (λ all. entries_of all list) (sym view)
      ∙ entries_at find ends list one at in
      omega (arith, (sound list one at).count, get_or-le-sum_by length lists list [] within, ap length same)

  pub live_node : IsSound find ends → (node : ℕ) → IsLive lists node → (kept : Node T) × (find node ≡ Some kept)
  live_node sound node live =
      let kept = entry_node find ends sound live.1.0 node live.0 (seen live.1.0 node live.0 live.1.1) in
      (kept.0, kept.1)

  pub read_item : IsSound find ends → (node : ℕ) (kept : Node T) (item : T) → find node ≡ Some kept
      → HasEntry lists node item → kept.item ≡ item
  read_item sound node kept item at has =
      let other = entry_node find ends sound has.0 node item (seen has.0 node item has.1) in
      let same : kept ≡ other.0 = cc (at, other.1) in
      ap (λ (n : Node T). n.item) same ∙ other.2

  pub read_next : IsSound find ends → (node : ℕ) (kept : Node T) (list : ℕ) (item : T) → find node ≡ Some kept
      → Contains (entries_of lists list) (node, item) → kept.next ≡ node_after (entries_of lists list) node
  read_next sound node kept list item at has =
      let other = entry_node find ends sound list node item (seen list node item has) in
      let same : kept ≡ other.0 = cc (at, other.1) in
      ap (λ (n : Node T). n.next) same ∙ other.4 ∙ ap (λ all. node_after (entries_of all list) node) view

  pub nodes_once : IsSound find ends → HasNodesOnce lists
  nodes_once sound = record {
    one_list = λ list other node x y has again.
        let one = entry_node find ends sound list node x (seen list node x has) in
        let two = entry_node find ends sound other node y (seen other node y again) in
        let same : one.0 ≡ two.0 = cc (one.1, two.1) in
        sym one.3 ∙ ap (λ (n : Node T). n.list) same ∙ two.3;
    distinct = λ list. subst (λ all. IsDistinct nat_eq (map (λ (e : ℕ × T). e.0) (entries_of all list))) view
        (IsDistinct-once _ (once_at find ends sound list));
  }

  -- the list that a live node stands in
  pub live_at : IsSound find ends → (node : ℕ) (kept : Node T) → find node ≡ Some kept → IsLive lists node
      → (one : Ends) × (item : T) × (slice_get ends kept.list ≡ Some one) × Contains (entries find one) (node, item)
  live_at sound node kept at live =
      let has = seen live.1.0 node live.0 live.1.1 in
      let other = entry_node find ends sound live.1.0 node live.0 has in
      let there = list_of find ends live.1.0 node live.0 has in
      let same : kept ≡ other.0 = cc (at, other.1) in
      let list_is : kept.list ≡ live.1.0 = ap (λ (n : Node T). n.list) same ∙ other.3 in
      (there.0, live.0, ap (slice_get ends) list_is ∙ there.1, there.2)

  pub list_within : IsSound find ends → (node : ℕ) (kept : Node T) → find node ≡ Some kept → IsLive lists node
      → kept.list < length ends
  list_within sound node kept at live =
      let there = live_at sound node kept at live in
      slice_get_within ends kept.list there.0 there.2

  pub ends_of : IsSound find ends → (node : ℕ) (kept : Node T) (one : Ends) → find node ≡ Some kept
      → IsLive lists node → one ≡ get_or ends kept.list one
      → (item : T) × (slice_get ends kept.list ≡ Some one) × Contains (entries find one) (node, item)
  ends_of sound node kept one at live read =
      let there = live_at sound node kept at live in
      let same : there.0 ≡ one = sym (get_or_from_slice_get ends kept.list there.0 one there.2) ∙ sym read in
      (there.1, there.2 ∙ ap Some same, subst (λ e. Contains (entries find e) (node, there.1)) same there.3)

  pub count_positive : IsSound find ends → (node : ℕ) (kept : Node T) (one : Ends) → find node ≡ Some kept
      → IsLive lists node → one ≡ get_or ends kept.list one → 0 < one.count
  count_positive sound node kept one at live read =
      let there = ends_of sound node kept one at live read in
      omega (arith, (sound kept.list one there.1).count, there.2.1)

  pub count_less : IsSound find ends → (node : ℕ) → IsLive lists node
      → live_nodes (without_node lists node) + 1 ≡ live_nodes lists
  count_less sound node live =
      let has = seen live.1.0 node live.0 live.1.1 in
      subst (λ all. live_nodes (without_node all node) + 1 ≡ live_nodes all) view
      (live_nodes-without (map (entries find) ends) live.1.0 node live.0 (once_at find ends sound live.1.0) has
      (lacks_elsewhere find ends sound live.1.0 node live.0 has))

  -- the node behind a live one is live
  pub next_live : IsSound find ends → (node : ℕ) (kept : Node T) (next : ℕ) → find node ≡ Some kept
      → IsLive lists node → kept.next ≡ Some next → IsLive lists next
  next_live sound node kept next at live goes =
      let there = node_after_in (entries_of lists live.1.0) node next
      (sym (read_next sound node kept live.1.0 live.0 at live.1.1) ∙ goes) in
      (there.0, (live.1.0, there.1))

  -- a node was taken out
  pub taken_out : IsSound find ends → (later : ℕ → Option (Node T)) (node : ℕ) (kept : Node T) (one changed : Ends)
      → find node ≡ Some kept → IsLive lists node → one ≡ get_or ends kept.list one
      → changed ≡ record {
        count = one.count - 1;
        first = pass node kept.next one.first;
        last = pass node
            kept.previous one.last;
      }
      → TakesOut find later node kept → StandsFor later (slice_set ends kept.list changed) (without_node lists node)
  taken_out sound later node kept one changed at live read is takes =
      let there = ends_of sound node kept one at live read in
      subst (λ all. StandsFor later (slice_set ends kept.list changed) (without_node all node)) view
      (subst (λ e. StandsFor later (slice_set ends kept.list e) (without_node (map (entries find) ends) node)) (sym is)
      (store_without find later ends kept.list one node kept there.0 sound there.1 takes there.2))

  -- a node was put behind the last of a list
  pub put_behind : IsSound find ends → (later : ℕ → Option (Node T)) (list : ℕ) (one changed : Ends) (node : ℕ)
      (item : T) → list < length lists → one ≡ get_or ends list one
      → changed ≡ record { count = one.count + 1; first = option_or one.first (Some node); last = Some node }
      → PutsBehind find later list one.last node item
      → StandsFor later (slice_set ends list changed) (with_entry lists list node item)
  put_behind sound later list one changed node item within read is puts =
      subst (λ all. StandsFor later (slice_set ends list changed) (with_entry all list node item)) view
      (subst (λ e. StandsFor later (slice_set ends list e) (with_entry (map (entries find) ends) list node item))
      (sym is)
      (store_push find later ends list one node item sound (ends_at list one within read) puts))

module _ {T : Type 0} where
  pub sound_kept : (old new : Slab (Node T)) (ends : List Ends) → new.slots ≡ old.slots → IsSound (get old) ends
      → IsSound (get new) ends
  sound_kept old new ends same sound = subst (λ slots. IsSound (get (record old { slots = slots })) ends)
      (sym same) sound

  -- an insertion, and a link to the new node
  pub puts_behind : (old middle new : Slab (Node T)) (list : ℕ) (last : Option ℕ) (key node : ℕ) (item : T)
      → key ≡ node → get old node ≡ None → Updates old middle key
      (Some (record { item = item; list = list; previous = last; next = None }))
      → ((k : ℕ) → last ≡ Some k → get new k ≡ option_map (with_next (Some node)) (get middle k))
      → ((k : ℕ) → last ≢ Some k → get new k ≡ get middle k) → PutsBehind (get old) (get new) list last node item
  puts_behind old middle new list last key node item same vacant updates linked others = record {
    vacant = vacant;
    between = get middle;
    added = ap (get middle) (sym same) ∙ updates.changed;
    kept = λ k differs. updates.others k (λ e. differs (e ∙ same));
    linked = linked;
    others = others;
  }

  -- an entry that was added is there, and counts
  pub pushed_live : (lists : List (List (ℕ × T))) (list node : ℕ) (item : T) → list < length lists
      → IsLive (with_entry lists list node item) node
  pushed_live lists list node item within = (
    item,
    (
      list,
      subst (λ found. Contains found (node, item))
          (sym (get_or-set_same lists list (entries_of lists list ++ (node, item) ∷ []) [] within))
          (Contains-push (entries_of lists list) (node, item)),
    ),
  )

  pub count_more : (lists : List (List (ℕ × T))) (list node : ℕ) (item : T) → list < length lists
      → live_nodes (with_entry lists list node item) ≡ live_nodes lists + 1
  count_more lists list node item within =
      omega (
        arith,
        sum_by-set length lists list (entries_of lists list ++ (node, item) ∷ []) [] within,
        length-append (entries_of lists list) ((node, item) ∷ []),
      )

  -- a removal, and its neighbours linked with each other
  pub takes_out : (old removed middle new : Slab (Node T)) (taken : ℕ) (gone : Node T) → get old taken ≡ Some gone
      → Updates old removed taken None
      → ((k : ℕ) → gone.previous ≡ Some k → get middle k ≡ option_map (with_next gone.next) (get removed k))
      → ((k : ℕ) → gone.previous ≢ Some k → get middle k ≡ get removed k)
      → ((k : ℕ) → gone.next ≡ Some k → get new k ≡ option_map (with_previous gone.previous) (get middle k))
      → ((k : ℕ) → gone.next ≢ Some k → get new k ≡ get middle k) → TakesOut (get old) (get new) taken gone
  takes_out old removed middle new taken gone held updates next next_others previous previous_others = record {
    held = held;
    left = get removed;
    kept = updates.others;
    between = get middle;
    next = next;
    next_others = next_others;
    previous = previous;
    previous_others = previous_others;
  }
