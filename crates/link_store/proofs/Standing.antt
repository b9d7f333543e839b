-- How linked nodes stand for lists, and go on standing for them where a node is added or taken out.
use Rattle.std.proofs.Common.{◌≡◌, ◌≢◌, ◌⊎◌, inl, inr, ℕ, List, [], ◌∷◌, ◌++◌, length, refl, sym, ap, subst, ◌∙◌, arith}
use Rattle.std.specs.Prelude.{Option, Some, None, Contains}
use Rattle.std.specs.Option.{option_map}
use Rattle.std.proofs.lemmas.Bool.{cases_eq}
use Rattle.cell_value.specs.Elements.{Contains-cons, Contains-cons_cases}
use Rattle.link_store.specs.declared.nodes.Node.{Node}
use Rattle.link_store.specs.declared.nodes.Ends.{Ends}
use Rattle.link_store.specs.Lists.{first_node, node_after, without}
use Rattle.link_store.specs.Nodes.{Lacks, Linked, last_from, follow, entries, pass, passed_over, with_next, IsList}
use Rattle.link_store.proofs.Members.{pass_same, pass_other, pass_equal, without_same, without_other, without_lacking}
use Rattle.link_store.proofs.Members.{Lacks-not, Lacks-without, Lacks-push, last_lacked, node_after_same}
use Rattle.link_store.proofs.Members.{node_after_other}

module _ {T : Type 0} where
  -- the list that is linked is the one that is read
  pub follow_linked : (find : ℕ → Option (Node T)) (list : ℕ) (before : Option ℕ) (found : List (ℕ × T))
      → Linked find list before found → follow find (length found) (first_node found) ≡ found
  follow_linked find list before [] linked = refl
  follow_linked find list before (entry ∷ rest) linked =
      rw linked.0 (ap (λ r. entry ∷ r) (follow_linked find list (Some entry.0) rest linked.2))

  pub entries_of_list : (find : ℕ → Option (Node T)) (list : ℕ) (ends : Ends) (found : List (ℕ × T))
      → IsList find list ends found → entries find ends ≡ found
  entries_of_list find list ends found is = rw (is.count, is.first) (follow_linked find list None found is.linked)

  -- what is kept of an entry's node
  pub node_of : (find : ℕ → Option (Node T)) (list : ℕ) (before : Option ℕ) (found : List (ℕ × T))
      → Linked find list before found → (k : ℕ) (item : T) → Contains found (k, item)
      → (node : Node T) × (find k ≡ Some node) × (node.item ≡ item) × (node.list ≡ list) × (node.next ≡ node_after
      found k)
  node_of find list before [] linked k item has = absurd (omega (arith, has.1))
  node_of find list before (entry ∷ rest) linked k item has = elim (Contains-cons_cases entry (k, item) rest has) [
    | inl here ↦
        let same : entry.0 ≡ k = ap (λ (e : ℕ × T). e.0) here in (
          record { item = entry.1; list = list; previous = before; next = first_node rest },
          ap find (sym same)
              ∙ linked.0,
          ap (λ (e : ℕ × T). e.1) here,
          refl,
          sym (node_after_same entry rest k same),
        )
    | inr there ↦
        let later = node_of find list (Some entry.0) rest linked.2 k item there in (
          later.0,
          later.1,
          later.2,
          later.3,
          later.4 ∙ sym (node_after_other entry rest k
              (λ same. Lacks-not k item rest (subst (λ n. Lacks n rest) same linked.1) there)),
        )
  ]

  pub Linked-lacks : (find : ℕ → Option (Node T)) (list : ℕ) (before : Option ℕ) (found : List (ℕ × T))
      → Linked find list before found → (k : ℕ) → find k ≡ None → Lacks k found
  Linked-lacks find list before [] linked k none = tt
  Linked-lacks find list before (entry ∷ rest) linked k none = (
    (λ same. let here : find k ≡ Some _ = ap find (sym same) ∙ linked.0 in absurd (cc)),
    Linked-lacks find list
        (Some entry.0) rest linked.2 k none,
  )

  -- a change of nodes of other lists
  pub Linked-frame : (find later : ℕ → Option (Node T)) (list : ℕ) (before : Option ℕ) (found : List (ℕ × T))
      → Linked find list before found
      → ((k : ℕ) (y : T) → Contains found (k, y) → later k ≡ find k) → Linked later list before found
  Linked-frame find later list before [] linked same = tt
  Linked-frame find later list before (entry ∷ rest) linked same = (
    same entry.0 entry.1 (0, omega arith, refl) ∙ linked.0,
    linked.1,
    Linked-frame find later list (Some entry.0) rest linked.2
        (λ k y has. same k y (Contains-cons entry (k, y) rest has)),
  )

  -- a node behind the last
  pub Linked-push : (find later : ℕ → Option (Node T)) (list : ℕ) (before : Option ℕ) (found : List (ℕ × T))
      (new : ℕ) (item : T)
      → Linked find list before found → Lacks new found
      → later new ≡ Some (record { item = item; list = list; previous = last_from before found; next = None })
      → ((k : ℕ) (y : T) → Contains found (k, y) → last_from before found ≡ Some k
      → later k ≡ option_map (with_next (Some new)) (find k))
      → ((k : ℕ) (y : T) → Contains found (k, y) → last_from before found ≢ Some k → later k ≡ find k)
      → Linked later list before (found ++ (new, item) ∷ [])
  Linked-push find later list before [] new item linked lacks added last others = (added, tt, tt)
  Linked-push find later list before (entry ∷ []) new item linked lacks added last others = (
    last entry.0 entry.1 (0, omega arith, refl) refl ∙ ap (option_map (with_next (Some new))) linked.0,
    ((λ same. lacks.0 (sym same)), tt),
    (added, tt, tt),
  )
  Linked-push find later list before (entry ∷ next ∷ rest) new item linked lacks added last others = (
    others entry.0 entry.1 (0, omega arith, refl) (last_lacked entry.0 (Some entry.0) next rest linked.1) ∙ linked.0,
    Lacks-push entry.0 new item (next ∷ rest) linked.1 (λ same. lacks.0 (sym same)),
    Linked-push find later list (Some entry.0) (next ∷ rest) new item linked.2 lacks.1 added
        (λ k y has. last k y (Contains-cons entry (k, y) (next ∷ rest) has))
        (λ k y has. others k y (Contains-cons entry (k, y) (next ∷ rest) has)),
  )

  -- the next one names it as the one before
  pub next_names : (find : ℕ → Option (Node T)) (list : ℕ) (before : Option ℕ) (found : List (ℕ × T))
      → Linked find list before found
      → (k : ℕ) (y : T) → Contains found (k, y) → (node after : Node T) (next : ℕ) → find k ≡ Some node
      → node.next ≡ Some next → find next ≡ Some after → after.previous ≡ Some k
  next_names find list before [] linked k y has node after next at goes there = absurd (omega (arith, has.1))
  next_names find list before (entry ∷ []) linked k y has node after next at goes
      there = elim (Contains-cons_cases entry (k, y) [] has) [
        | inl here ↦
            let same : find entry.0 ≡ Some node = ap (λ (e : ℕ × T). find e.0) here ∙ at in
            absurd (cc (linked.0, same))
        | inr later ↦ absurd (omega (arith, later.1))
      ]
  next_names find list before (entry ∷ second ∷ rest) linked k y has node after next at goes
      there = elim (Contains-cons_cases entry (k, y) (second ∷ rest) has) [
        | inl here ↦
            let first : entry.0 ≡ k = ap (λ (e : ℕ × T). e.0) here in
            let same : find entry.0 ≡ Some node = ap find first ∙ at in
            let named : second.0 ≡ next = cc (linked.0, same) in
            let reached : find second.0 ≡ Some after = ap find named ∙ there in
            cc (linked.2.0, reached)
        | inr later ↦ next_names find list (Some entry.0) (second ∷ rest) linked.2
            k y later node after next at goes there
      ]

  -- the next one stands in the list, too
  pub next_in : (find : ℕ → Option (Node T)) (list : ℕ) (before : Option ℕ) (found : List (ℕ × T))
      → Linked find list before found
      → (k : ℕ) (y : T) → Contains found (k, y) → (node : Node T) (next : ℕ) → find k ≡ Some node
      → node.next ≡ Some next → (z : T) × Contains found (next, z)
  next_in find list before [] linked k y has node next at goes = absurd (omega (arith, has.1))
  next_in find list before (entry ∷ []) linked k y has node
      next at goes = elim (Contains-cons_cases entry (k, y) [] has) [
        | inl here ↦
            let same : find entry.0 ≡ Some node = ap (λ (e : ℕ × T). find e.0) here ∙ at in
            absurd (cc (linked.0, same))
        | inr later ↦ absurd (omega (arith, later.1))
      ]
  next_in find list before (entry ∷ second ∷ rest) linked k y has node
      next at goes = elim (Contains-cons_cases entry (k, y) (second ∷ rest) has) [
        | inl here ↦
            let first : entry.0 ≡ k = ap (λ (e : ℕ × T). e.0) here in
            let same : find entry.0 ≡ Some node = ap find first ∙ at in
            let named : second.0 ≡ next = cc (linked.0, same) in (
              second.1,
              Contains-cons entry (next, second.1) (second ∷ rest)
                  (0, omega arith, ap (λ n. (n, second.1)) named),
            )
        | inr later ↦
            let there = next_in find list (Some entry.0) (second ∷ rest) linked.2 k y later node next at goes in
            (there.0, Contains-cons entry (next, there.0) (second ∷ rest) there.1)
      ]

  -- the one before names it as the next
  pub previous_names : (find : ℕ → Option (Node T)) (list : ℕ) (before : Option ℕ) (found : List (ℕ × T))
      → Linked find list before found
      → (k : ℕ) (y : T) → Contains found (k, y) → (node ahead : Node T) (previous : ℕ) → find k ≡ Some node
      → node.previous ≡ Some previous → find previous ≡ Some ahead
      → ((before ≡ Some previous) × (first_node found ≡ Some k)) ⊎ (ahead.next ≡ Some k)
  previous_names find list before [] linked k y has node ahead previous at goes there = absurd (omega (arith, has.1))
  previous_names find list before (entry ∷ rest) linked k y has node ahead previous at goes
      there = elim (Contains-cons_cases entry (k, y) rest has) [
        | inl here ↦
            let first : entry.0 ≡ k = ap (λ (e : ℕ × T). e.0) here in
            let same : find entry.0 ≡ Some node = ap find first ∙ at in
            inl (cc (linked.0, same), ap Some first)
        | inr later ↦ elim (previous_names find list (Some entry.0) rest linked.2 k y later node ahead previous at goes
            there) [
              | inl one ↦
                  let named : entry.0 ≡ previous = cc (one.0) in
                  let same : find entry.0 ≡ Some ahead = ap find named ∙ there in
                  inr (cc (linked.0, same, one.1))
              | inr names ↦ inr names
            ]
      ]

  pub Lacks-elsewhere : (find : ℕ → Option (Node T)) (list : ℕ) (before : Option ℕ) (found : List (ℕ × T))
      → Linked find list before found
      → (k : ℕ) (node : Node T) → find k ≡ Some node → node.list ≢ list → Lacks k found
  Lacks-elsewhere find list before [] linked k node at elsewhere = tt
  Lacks-elsewhere find list before (entry ∷ rest) linked k node at elsewhere = (
    (λ same. let here : find entry.0 ≡ Some node = ap find same ∙ at in elsewhere (cc (linked.0, here))),
    Lacks-elsewhere find list (Some entry.0) rest linked.2 k node at elsewhere,
  )

  -- the first node without one, and the last
  pub first_without : (find : ℕ → Option (Node T)) (list : ℕ) (before : Option ℕ) (found : List (ℕ × T)) (k : ℕ)
      (gone : Node T)
      → Linked find list before found → find k ≡ Some gone
      → first_node (without k found) ≡ pass k gone.next (first_node found)
  first_without find list before [] k gone linked at = refl
  first_without find list before (entry ∷ rest) k gone linked at = elim (cases_eq entry.0 k) [
    | inl same ↦
        let here : find entry.0 ≡ Some gone = ap find same ∙ at in
        let next : gone.next ≡ first_node rest = cc (linked.0, here) in
        ap first_node (without_same k entry rest same
        ∙ without_lacking k rest (subst (λ n. Lacks n rest) same linked.1))
        ∙ sym next ∙ sym (pass_same k gone.next entry.0 same)
    | inr differs ↦ ap first_node (without_other k entry rest differs) ∙ sym (pass_other k gone.next entry.0 differs)
  ]

  pub last_without : (find : ℕ → Option (Node T)) (list : ℕ) (before : Option ℕ) (found : List (ℕ × T)) (k : ℕ)
      (gone : Node T)
      → Linked find list before found → find k ≡ Some gone
      → last_from (pass k gone.previous before) (without k found) ≡ pass k gone.previous (last_from before found)
  last_without find list before [] k gone linked at = refl
  last_without find list before (entry ∷ rest) k gone linked at = elim (cases_eq entry.0 k) [
    | inl same ↦
        let here : find entry.0 ≡ Some gone = ap find same ∙ at in
        let ahead : gone.previous ≡ before = cc (linked.0, here) in
        let one : pass k gone.previous before ≡ pass k gone.previous (Some entry.0) = ap (pass k gone.previous)
        (sym ahead) ∙ pass_equal k gone.previous ∙ sym (pass_same k gone.previous entry.0 same) in
        ap (last_from (pass k gone.previous before)) (without_same k entry rest same)
        ∙ ap (λ b. last_from b (without k rest)) one
        ∙ last_without find list (Some entry.0) rest k gone linked.2 at
    | inr differs ↦
        ap (last_from (pass k gone.previous before)) (without_other k entry rest differs)
        ∙ ap (λ b. last_from b (without k rest)) (sym (pass_other k gone.previous entry.0 differs))
        ∙ last_without find list (Some entry.0) rest k gone linked.2 at
  ]

  -- a node is taken out, and its neighbours are linked with each other
  pub Linked-without : (find later : ℕ → Option (Node T)) (list : ℕ) (before : Option ℕ) (found : List (ℕ × T))
      (k : ℕ) (gone : Node T)
      → Linked find list before found → find k ≡ Some gone
      → ((n : ℕ) (y : T) → Contains found (n, y) → n ≢ k → later n ≡ option_map (passed_over k gone) (find n))
      → Linked later list (pass k gone.previous before) (without k found)
  Linked-without find later list before [] k gone linked at over = tt
  Linked-without find later list before (entry ∷ rest) k gone linked at over = elim (cases_eq entry.0 k) [
    | inl same ↦
        let here : find entry.0 ≡ Some gone = ap find same ∙ at in
        let ahead : gone.previous ≡ before = cc (linked.0, here) in
        subst (Linked later list (pass k gone.previous before)) (sym (without_same k entry rest same))
        (subst (λ b. Linked later list b (without k rest))
        (pass_same k gone.previous entry.0 same ∙ sym (pass_equal k gone.previous)
        ∙ ap (pass k gone.previous) ahead)
        (Linked-without find later list (Some entry.0) rest k gone
        linked.2 at (λ n y has. over n y (Contains-cons entry (n, y) rest has))))
    | inr differs ↦
        let tail : Linked later list (Some entry.0) (without k rest) =
        subst (λ b. Linked later list b (without k rest)) (pass_other k gone.previous entry.0 differs)
        (Linked-without find later list (Some entry.0) rest k gone
        linked.2 at (λ n y has. over n y (Contains-cons entry (n, y) rest has))) in
        subst (Linked later list (pass k gone.previous before)) (sym (without_other k entry rest differs))
        ((
          over entry.0 entry.1 (0, omega arith, refl) differs ∙ ap (option_map (passed_over k gone)) linked.0
              ∙ ap (λ next. Some (record {
                item = entry.1;
                list = list;
                previous = pass k gone.previous before;
                next = next;
              })) (sym (first_without find list (Some entry.0) rest k gone linked.2 at)),
          Lacks-without entry.0 k rest linked.1,
          tail,
        ))
  ]
