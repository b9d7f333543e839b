-- All lists of a store: what stands for them, and what it is after one of them has changed.
use Rattle.std.proofs.Common.{◌≡◌, ◌≢◌, ◌⊎◌, inl, inr, ℕ, zero, suc, ◌+◌, ◌-◌, ◌<◌, List, [], ◌∷◌, ◌++◌, length, refl}
use Rattle.std.proofs.Common.{sym, ap, subst, ◌∙◌, arith, map, get_or}
use Rattle.std.specs.Prelude.{Option, Some, None, Contains, slice_get, slice_set}
use Rattle.std.specs.Option.{option_map, option_or}
use Rattle.std.proofs.lemmas.List.{get_or_past, length-set, length-map, length-append}
use Rattle.std.proofs.lemmas.Option.{slice_get-map, slice_get_within, slice_get_cases, slice_get-get_or}
use Rattle.std.proofs.lemmas.Option.{get_or_from_slice_get}
use Rattle.link_store.specs.declared.nodes.Node.{Node}
use Rattle.link_store.specs.declared.nodes.Ends.{Ends}
use Rattle.link_store.specs.Lists.{entries_of, node_after, without, without_node, with_entry}
use Rattle.link_store.specs.Nodes.{Lacks, Linked, entries, pass, passed_over, with_next, with_previous, IsList, IsSound}
use Rattle.link_store.proofs.Members.{HasOnce, pass_same, pass_else, cases_some, without_lacking, Lacks-not}
use Rattle.link_store.proofs.Members.{last_push, last_cases, first_push, length-without}
use Rattle.link_store.proofs.Standing.{entries_of_list, node_of, Linked-lacks, Linked-frame, Linked-push, next_names}
use Rattle.link_store.proofs.Standing.{next_in, previous_names, Lacks-elsewhere, Linked-without, first_without}
use Rattle.link_store.proofs.Standing.{last_without}

module _ {X : Type 0} where
  -- an element of a list in which one was written
  pub slice_get-set : (xs : List X) (at : ℕ) (v : X) (i : ℕ) (w : X) → slice_get (slice_set xs at v) i ≡ Some w
      → ((i ≡ at) × (w ≡ v)) ⊎ ((i ≢ at) × (slice_get xs i ≡ Some w))
  slice_get-set [] at v i w is = absurd (cc)
  slice_get-set (x ∷ xs) zero v zero w is = inl (refl, cc)
  slice_get-set (x ∷ xs) zero v (suc i) w is = inr ((λ e. omega (arith, e)), is)
  slice_get-set (x ∷ xs) (suc at) v zero w is = inr ((λ e. omega (arith, e)), is)
  slice_get-set (x ∷ xs) (suc at) v (suc i) w is = elim (slice_get-set xs at v i w is) [
    | inl here ↦ inl (ap suc here.0, here.1)
    | inr there ↦ inr ((λ e. there.0 (omega (arith, e))), there.1)
  ]

  pub slice_get-push : (xs : List X) (v : X) (i : ℕ) (w : X) → slice_get (xs ++ v ∷ []) i ≡ Some w
      → ((i ≡ length xs) × (w ≡ v)) ⊎ (slice_get xs i ≡ Some w)
  slice_get-push [] v zero w is = inl (refl, cc)
  slice_get-push [] v (suc i) w is = absurd (cc)
  slice_get-push (x ∷ xs) v zero w is = inr is
  slice_get-push (x ∷ xs) v (suc i) w is = elim (slice_get-push xs v i w is) [
    | inl here ↦ inl (ap suc here.0, here.1)
    | inr there ↦ inr there
  ]

module _ {T : Type 0} where
  -- lists that are linked are those that are read
  pub map_entries : (find : ℕ → Option (Node T)) (ends : List Ends) (lists : List (List (ℕ × T)))
      → length ends ≡ length lists
      → ((i : ℕ) (one : Ends) (list : List (ℕ × T)) → slice_get ends i ≡ Some one → slice_get lists i ≡ Some list
      → entries find one ≡ list)
      → map (entries find) ends ≡ lists
  map_entries find [] [] same each = refl
  map_entries find [] (list ∷ lists) same each = absurd (omega (arith, same))
  map_entries find (one ∷ ends) [] same each = absurd (omega (arith, same))
  map_entries find (one ∷ ends) (list ∷ lists) same each =
      let head : entries find one ≡ list = each 0 one list refl refl in
      let tail : map (entries find) ends ≡ lists = map_entries find ends lists (omega (arith, same))
      (λ i. each (suc i)) in
      ap (λ x. x ∷ map (entries find) ends) head ∙ ap (λ xs. list ∷ xs) tail

  -- what stands for lists, and is what it has to be
  pub record StandsFor (find : ℕ → Option (Node T)) (ends : List Ends) (lists : List (List (ℕ × T))) : Type 0 where
    pub sound : IsSound find ends
    pub view : map (entries find) ends ≡ lists

  pub stands_for : (find : ℕ → Option (Node T)) (ends : List Ends) (lists : List (List (ℕ × T)))
      → length ends ≡ length lists
      → ((i : ℕ) (one : Ends) (list : List (ℕ × T)) → slice_get ends i ≡ Some one → slice_get lists i ≡ Some list
      → IsList find i one list)
      → StandsFor find ends lists
  stands_for find ends lists same each = record {
    sound = λ i one at.
        let within : i < length ends = slice_get_within ends i one at in
        let inside : i < length lists = omega arith in
        let list = get_or lists i [] in
        let is : IsList find i one list = each i one list at (slice_get-get_or lists i [] inside) in
        subst (IsList find i one) (sym (entries_of_list find i one list is)) is;
    view = map_entries find ends lists same (λ i one list at there. entries_of_list find i one list
        (each i one list at there));
  }

  -- the entries of a list that is there
  pub entries_at : (find : ℕ → Option (Node T)) (ends : List Ends) (list : ℕ) (one : Ends)
      → slice_get ends list ≡ Some one
      → entries_of (map (entries find) ends) list ≡ entries find one
  entries_at find ends list one at =
      get_or_from_slice_get (map (entries find) ends) list (entries find one) []
      (slice_get-map (entries find) ends list ∙ ap (option_map (entries find)) at)

  -- the list of an entry is there
  pub list_of : (find : ℕ → Option (Node T)) (ends : List Ends) (list node : ℕ) (item : T)
      → Contains (entries_of (map (entries find) ends) list) (node, item)
      → (one : Ends) × (slice_get ends list ≡ Some one) × Contains (entries find one) (node, item)
  list_of find [] list node item has = absurd (omega (arith, has.1))
  list_of find (one ∷ ends) zero node item has = (one, refl, has)
  list_of find (one ∷ ends) (suc list) node item has = list_of find ends list node item has

  HasOnce-linked : (find : ℕ → Option (Node T)) (list : ℕ) (before : Option ℕ) (found : List (ℕ × T))
      → Linked find list before found → HasOnce found
  HasOnce-linked find list before [] linked = tt
  HasOnce-linked find list before (entry ∷ rest)
      linked = (linked.1, HasOnce-linked find list (Some entry.0) rest linked.2)

  -- one empty list more
  pub sound_push : (find : ℕ → Option (Node T)) (ends : List Ends) (new : Ends) → IsSound find ends
      → new ≡ record { count = 0; first = None; last = None } → IsSound find (ends ++ new ∷ [])
  sound_push find ends new sound empty = λ i one at. elim (slice_get-push ends new i one at) [
    | inl added ↦ subst (λ e. IsList find i e (entries find e)) (sym (added.1 ∙ empty))
        (record { count = refl; first = refl; last = refl; linked = tt })
    | inr old ↦ sound i one old
  ]

  -- the node of an entry of a list
  pub entry_node : (find : ℕ → Option (Node T)) (ends : List Ends) → IsSound find ends → (list node : ℕ) (item : T)
      → Contains (entries_of (map (entries find) ends) list) (node, item)
      → (kept : Node T) × (find node ≡ Some
      kept) × (kept.item ≡ item) × (kept.list ≡ list) × (kept.next ≡ node_after
      (entries_of (map (entries find) ends) list) node)
  entry_node find ends sound list node item has =
      let there = list_of find ends list node item has in
      let is = sound list there.0 there.1 in
      let kept = node_of find list None (entries find there.0) is.linked node item there.2 in (
        kept.0,
        kept.1,
        kept.2,
        kept.3,
        kept.4 ∙ ap (λ found. node_after found node)
            (sym (entries_at find ends list there.0 there.1)),
      )

  pub once_at : (find : ℕ → Option (Node T)) (ends : List Ends) → IsSound find ends → (list : ℕ)
      → HasOnce (entries_of (map (entries find) ends) list)
  once_at find ends sound list = elim (slice_get_cases ends list).1 [
    | inl there ↦ subst HasOnce (sym (entries_at find ends list there.0 there.2))
        (HasOnce-linked find list None (entries find there.0) (sound list there.0 there.2).linked)
    | inr past ↦ subst HasOnce (sym (get_or_past (map (entries find) ends) list []
        (omega (arith, past.0, length-map ends (entries find))))) tt
  ]

  pub lacks_elsewhere : (find : ℕ → Option (Node T)) (ends : List Ends) → IsSound find ends
      → (list node : ℕ) (item : T) → Contains (entries_of (map (entries find) ends) list) (node, item)
      → (i : ℕ) → i ≢ list → Lacks node (entries_of (map (entries find) ends) i)
  lacks_elsewhere find ends sound list node item has i differs = elim (slice_get_cases ends i).1 [
    | inl there ↦
        let kept = entry_node find ends sound list node item has in
        subst (Lacks node) (sym (entries_at find ends i there.0 there.2))
        (Lacks-elsewhere find i None (entries find there.0) (sound i there.0 there.2).linked node kept.0 kept.1
        (λ same. differs (sym same ∙ kept.3)))
    | inr past ↦ subst (Lacks node) (sym (get_or_past (map (entries find) ends) i []
        (omega (arith, past.0, length-map ends (entries find))))) tt
  ]

  -- a node is put behind the last of a list
  pub record PutsBehind (find later : ℕ → Option (Node T)) (list : ℕ) (last : Option ℕ) (new : ℕ) (item : T) : Type
      0 where
    pub vacant : find new ≡ None
    pub between : ℕ → Option (Node T)
    pub added : between new ≡ Some (record { item = item; list = list; previous = last; next = None })
    pub kept : (k : ℕ) → k ≢ new → between k ≡ find k
    pub linked : (k : ℕ) → last ≡ Some k → later k ≡ option_map (with_next (Some new)) (between k)
    pub others : (k : ℕ) → last ≢ Some k → later k ≡ between k

  list_push : (find later : ℕ → Option (Node T)) (list : ℕ) (one : Ends) (found : List (ℕ × T)) (new : ℕ) (item : T)
      → IsList find list one found → PutsBehind find later list one.last new item
      → IsList later list (record {
        count = one.count + 1;
        first = option_or one.first (Some new);
        last = Some new;
      }) (found ++ (new, item) ∷ [])
  list_push find later list one found new item is puts =
      let lacks : Lacks new found = Linked-lacks find list None found is.linked new puts.vacant in
      let apart : one.last ≢ Some new = λ e. elim (last_cases None found new (sym is.last ∙ e)) [
        | inl none ↦ absurd (cc (none))
        | inr has ↦ Lacks-not new has.0 found lacks has.1
      ] in
      let old : (k : ℕ) (y : T) → Contains found (k, y)
      → puts.between k ≡ find k = λ k y has. puts.kept k
      (λ same. Lacks-not k y found (subst (λ n. Lacks n found) (sym same) lacks) has) in
      record {
        count = simp length-append (omega (arith, is.count));
        first = ap (λ f. option_or f (Some new)) is.first ∙ sym (first_push found new item);
        last = sym (last_push None found new item);
        linked = Linked-push find later list None found new item is.linked lacks
            (puts.others new apart ∙ puts.added ∙ ap
            (λ last. Some (record { item = item; list = list; previous = last; next = None })) is.last)
            (λ k y has e. puts.linked k (is.last ∙ e) ∙ ap (option_map (with_next (Some new))) (old k y has))
            (λ k y has differs. puts.others k (λ e. differs (sym is.last ∙ e)) ∙ old k y has);
      }

  pub store_push : (find later : ℕ → Option (Node T)) (ends : List Ends) (list : ℕ) (one : Ends) (new : ℕ) (item : T)
      → IsSound find ends → slice_get ends list ≡ Some one → PutsBehind find later list one.last new item
      → StandsFor later (slice_set ends list (record {
        count = one.count + 1;
        first = option_or one.first
            (Some new);
        last = Some new;
      }))
      (with_entry (map (entries find) ends) list new item)
  store_push find later ends list one new item sound at puts = stands_for later _ _ (simp (length-set, length-map))
      (λ i other found there seen.
      elim (slice_get-set ends list _ i other there) [
        | inl here ↦ elim (slice_get-set (map (entries find) ends) list _ i found seen) [
          | inl same ↦
              let what : found ≡ entries find one ++ (new, item) ∷ [] = same.1
              ∙ ap (λ f. f ++ (new, item) ∷ []) (entries_at find ends list one at) in
              subst (λ n. IsList later n other found) (sym here.0)
              (subst (λ e. IsList later list e found) (sym here.1)
              (subst (IsList later list _) (sym what) (list_push find later list one (entries find one) new item
              (sound list one at) puts)))
          | inr differs ↦ absurd (differs.0 here.0)
        ]
        | inr elsewhere ↦ elim (slice_get-set (map (entries find) ends) list _ i found seen) [
          | inl same ↦ absurd (elsewhere.0 same.0)
          | inr old ↦
              let what : entries find other ≡ found = cc
              (slice_get-map (entries find) ends i, ap (option_map (entries find)) elsewhere.1, old.1) in
              let is = sound i other elsewhere.1 in
              let first = sound list one at in
              subst (IsList later i other) what
              (record {
                count = is.count;
                first = is.first;
                last = is.last;
                linked = Linked-frame find later i None (entries find other) is.linked (λ k y has.
                    let node = node_of find i None (entries find other) is.linked k y has in
                    puts.others k (λ e. elim (last_cases None (entries find one) k (sym first.last ∙ e)) [
                      | inl none ↦ absurd (cc (none))
                      | inr within ↦
                          let again = node_of find list None (entries find one) first.linked k within.0 within.1 in
                          elsewhere.0 (cc (node.1, node.3, again.1, again.3))
                    ])
                    ∙ puts.kept k (λ same. absurd (cc (node.1, ap find same, puts.vacant))));
              })
        ]
      ])

  -- a node is taken out, and its neighbours are linked with each other
  pub record TakesOut (find later : ℕ → Option (Node T)) (taken : ℕ) (gone : Node T) : Type 0 where
    pub held : find taken ≡ Some gone
    pub left : ℕ → Option (Node T)
    pub kept : (k : ℕ) → k ≢ taken → left k ≡ find k
    pub between : ℕ → Option (Node T)
    pub next : (k : ℕ) → gone.previous ≡ Some k → between k ≡ option_map (with_next gone.next) (left k)
    pub next_others : (k : ℕ) → gone.previous ≢ Some k → between k ≡ left k
    pub previous : (k : ℕ) → gone.next ≡ Some k → later k ≡ option_map (with_previous gone.previous) (between k)
    pub previous_others : (k : ℕ) → gone.next ≢ Some k → later k ≡ between k

  -- each other node of its list names its neighbours in place of it
  passes : (find later : ℕ → Option (Node T)) (list : ℕ) (found : List (ℕ × T)) (taken : ℕ) (gone : Node T) (item : T)
      → Linked find list None found → TakesOut find later taken gone → Contains found (taken, item)
      → (k : ℕ) (y : T) → Contains found (k, y) → k ≢ taken → later k ≡ option_map (passed_over taken gone) (find k)
  passes find later list found taken gone item linked takes stood k y has differs =
      let node = node_of find list None found linked k y has in
      let kept : takes.left k ≡ Some node.0 = takes.kept k differs ∙ node.1 in
      let middle : takes.between k ≡ Some (record
      node.0 { next = pass taken gone.next node.0.next }) = elim (cases_some gone.previous k) [
        | inl named ↦ elim (previous_names find list None found linked taken item stood gone node.0 k takes.held
            named node.1) [
              | inl none ↦ absurd (cc (none.0))
              | inr names ↦
                  takes.next k named ∙ ap (option_map (with_next gone.next)) kept
                  ∙ ap (λ next. Some (record node.0 { next = next }))
                  (sym (ap (pass taken gone.next) names ∙ pass_same taken gone.next taken refl))
            ]
        | inr not_named ↦
            takes.next_others k not_named ∙ kept
            ∙ ap (λ next. Some (record node.0 { next = next })) (sym (pass_else taken gone.next node.0.next (λ names.
            not_named (next_names find list None found linked k y has node.0 gone taken node.1 names takes.held))))
      ] in
      let over = ap (option_map (passed_over taken gone)) node.1 in
      elim (cases_some gone.next k) [
        | inl named ↦
            let names : node.0.previous ≡ Some taken = next_names find list None found linked taken item stood gone
            node.0 k takes.held named node.1 in
            takes.previous k named ∙ ap (option_map (with_previous gone.previous)) middle
            ∙ ap (λ previous. Some (record node.0 { previous = previous; next = pass taken gone.next node.0.next }))
            (sym (ap (pass taken gone.previous) names ∙ pass_same taken gone.previous taken refl)) ∙ sym over
        | inr not_named ↦
            takes.previous_others k not_named ∙ middle
            ∙ ap (λ previous. Some (record node.0 { previous = previous; next = pass taken gone.next node.0.next }))
            (sym (pass_else taken gone.previous node.0.previous (λ names.
            elim (previous_names find list None found linked k y has node.0 gone taken node.1 names takes.held) [
              | inl none ↦ absurd (cc (none.0))
              | inr named ↦ not_named named
            ]))) ∙ sym over
      ]

  list_without : (find later : ℕ → Option (Node T)) (list : ℕ) (one : Ends) (found : List (ℕ × T)) (taken : ℕ)
      (gone : Node T) (item : T)
      → IsList find list one found → TakesOut find later taken gone → Contains found (taken, item)
      → IsList later list (record {
        count = one.count - 1;
        first = pass taken gone.next one.first;
        last = pass
            taken gone.previous one.last;
      }) (without taken found)
  list_without find later list one found taken gone item is takes stood =
      let linked = Linked-without find later list None found taken gone is.linked takes.held
      (passes find later list found taken gone item is.linked takes stood) in
      record {
        count = omega (
          arith,
          is.count,
          length-without taken item found
              (HasOnce-linked find list None found is.linked) stood,
        );
        first = ap (pass taken gone.next) is.first
            ∙ sym (first_without find list None found taken gone is.linked takes.held);
        last = ap (pass taken gone.previous) is.last
            ∙ sym (last_without find list None found taken gone is.linked takes.held);
        linked = linked;
      }

  pub store_without : (find later : ℕ → Option (Node T)) (ends : List Ends) (list : ℕ) (one : Ends) (taken : ℕ)
      (gone : Node T) (item : T)
      → IsSound find ends → slice_get ends list ≡ Some one → TakesOut find later taken gone
      → Contains (entries find one) (taken, item)
      → StandsFor later (slice_set ends list (record {
        count = one.count - 1;
        first = pass taken gone.next
            one.first;
        last = pass taken gone.previous one.last;
      }))
      (without_node (map (entries find) ends) taken)
  store_without find later ends list one taken gone item sound at takes stood = stands_for later _ _
      (simp (length-set, length-map)) (λ i other found there seen.
      let first = sound list one at in
      let own = node_of find list None (entries find one) first.linked taken item stood in
      let of_list : gone.list ≡ list = cc (own.1, takes.held, own.3) in
      let seen_is = slice_get-map (without taken) (map (entries find) ends) i
      ∙ ap (option_map (without taken)) (slice_get-map (entries find) ends i) in
      elim (slice_get-set ends list _ i other there) [
        | inl here ↦
            let what : without taken (entries find one) ≡ found = cc (
              seen_is,
              ap (λ n. option_map (without taken) (option_map (entries find) (slice_get ends n))) here.0,
              ap (λ e. option_map (without taken) (option_map (entries find) e)) at,
              seen,
            ) in
            subst (λ n. IsList later n other found) (sym here.0)
            (subst (λ e. IsList later list e found) (sym here.1)
            (subst (IsList later list _) what (list_without find later list one (entries find one) taken gone item
            first takes stood)))
        | inr elsewhere ↦
            let is = sound i other elsewhere.1 in
            let lacks : Lacks taken (entries find other) = Lacks-elsewhere find i None (entries find other)
            is.linked taken gone takes.held (λ same. elsewhere.0 (sym same ∙ of_list)) in
            let what : entries find other ≡ found = sym (without_lacking taken (entries find other) lacks)
            ∙ cc (seen_is, ap (λ e. option_map (without taken) (option_map (entries find) e)) elsewhere.1, seen) in
            subst (IsList later i other) what
            (record {
              count = is.count;
              first = is.first;
              last = is.last;
              linked = Linked-frame find later i None (entries find other) is.linked (λ k y has.
                  let node = node_of find i None (entries find other) is.linked k y has in
                  let differs : k ≢ taken = λ same. Lacks-not k y (entries find other)
                  (subst (λ n. Lacks n (entries find other)) (sym same) lacks) has in
                  takes.previous_others k (λ named.
                  let within = next_in find list None (entries find one) first.linked taken item stood gone k
                  takes.held named in
                  let again = node_of find list None (entries find one) first.linked k within.0 within.1 in
                  elsewhere.0 (cc (node.1, node.3, again.1, again.3)))
                  ∙ takes.next_others k (λ named. elim (previous_names find list None (entries find one)
                  first.linked taken item stood gone node.0 k takes.held named node.1) [
                    | inl none ↦ absurd (cc (none.0))
                    | inr names ↦
                        let within = next_in find i None (entries find other) is.linked k y has node.0 taken node.1
                        names in
                        Lacks-not taken within.0 (entries find other) lacks within.1
                  ])
                  ∙ takes.kept k differs);
            })
      ])
