-- The entries of each list after the calls of a store of lists.
use Rattle.std.proofs.Common.{◌≡◌, ◌≢◌, ◌⊎◌, inl, inr, ℕ, zero, suc, ◌<◌, List, [], ◌∷◌, ◌++◌, length, map, refl, sym}
use Rattle.std.proofs.Common.{ap, subst, ◌∙◌, arith}
use Rattle.std.specs.Prelude.{Contains}
use Rattle.std.proofs.lemmas.Bool.{cases_eq}
use Rattle.std.proofs.lemmas.List.{get_or-set_same, get_or-set_other}
use Rattle.std.proofs.lemmas.List.Elements.{Contains-append_left, Contains-push, Contains-push_cases}
use Rattle.cell_value.specs.Elements.{Contains-cons, Contains-cons_cases, Contains-map, Contains-map_from}
use Rattle.link_store.specs.Lists.{entries_of, without, without_node, with_entry, with_item_at, HasNodesOnce}
use Rattle.link_store.specs.Nodes.{Lacks}
use Rattle.link_store.proofs.Members.{HasOnce, Lacks-not, without_same, without_other}
use Rattle.link_store.proofs.Cursors.{once_from}
use Rattle.link_store.proofs.Replaced.{put, put_here, put_other}
use Rattle.cell_value.specs.Elements.{nothing_in}

module _ {T : Type 0} where
  -- a node has one entry
  one_entry : (found : List (ℕ × T)) (node : ℕ) (x y : T) → HasOnce found → Contains found (node, x)
      → Contains found (node, y) → x ≡ y
  one_entry [] node x y once one two = absurd (nothing_in (node, x) one)
  one_entry (entry ∷ rest) node x y once one two = elim (Contains-cons_cases entry (node, x) rest one) [
    | inl first ↦ elim (Contains-cons_cases entry (node, y) rest two) [
      | inl second ↦ ap (λ (e : ℕ × T). e.1) (sym first ∙ second)
      | inr later ↦ absurd (Lacks-not node y rest
          (subst (λ n. Lacks n rest) (ap (λ (e : ℕ × T). e.0) first) once.0) later)
    ]
    | inr there ↦ elim (Contains-cons_cases entry (node, y) rest two) [
      | inl second ↦ absurd (Lacks-not node x rest
          (subst (λ n. Lacks n rest) (ap (λ (e : ℕ × T). e.0) second) once.0) there)
      | inr later ↦ one_entry rest node x y once.1 there later
    ]
  ]

  pub one_place : (lists : List (List (ℕ × T))) → HasNodesOnce lists → (i j node : ℕ) (x y : T)
      → Contains (entries_of lists i) (node, x) → Contains (entries_of lists j) (node, y)
      → (i ≡ j) × (x ≡ y)
  one_place lists once i j node x y one two =
      let same : i ≡ j = once.one_list i j node x y one two in (
        same,
        one_entry (entries_of lists j) node x y (once_from (entries_of lists j) (once.distinct j))
            (subst (λ k. Contains (entries_of lists k) (node, x)) same one) two,
      )

  -- without a node
  pub entries_without : (lists : List (List (ℕ × T))) (node list : ℕ)
      → entries_of (without_node lists node) list ≡ without node (entries_of lists list)
  entries_without [] node zero = refl
  entries_without [] node (suc list) = refl
  entries_without (found ∷ lists) node zero = refl
  entries_without (found ∷ lists) node (suc list) = entries_without lists node list

  pub left_from : (found : List (ℕ × T)) (node : ℕ) (entry : ℕ × T) → Contains (without node found) entry
      → Contains found entry × (entry.0 ≢ node)
  left_from [] node entry has = absurd (nothing_in entry has)
  left_from (head ∷ rest) node entry has = elim (cases_eq head.0 node) [
    | inl same ↦
        let later = left_from rest node entry (subst (λ es. Contains es entry) (without_same node head rest same)
        has) in
        (Contains-cons head entry rest later.0, later.1)
    | inr differs ↦ elim (Contains-cons_cases head entry (without node rest)
        (subst (λ es. Contains es entry) (without_other node head rest differs) has)) [
          | inl here ↦ ((0, omega arith, here), (λ same. differs (ap (λ (e : ℕ × T). e.0) here ∙ same)))
          | inr there ↦ let later = left_from rest node entry there in (Contains-cons head entry rest later.0, later.1)
        ]
  ]

  left_in : (found : List (ℕ × T)) (node : ℕ) (entry : ℕ × T) → Contains found entry → entry.0 ≢ node
      → Contains (without node found) entry
  left_in [] node entry has differs = absurd (nothing_in entry has)
  left_in (head ∷ rest) node entry has differs = elim (Contains-cons_cases head entry rest has) [
    | inl here ↦
        let other : head.0 ≢ node = λ same. differs (ap (λ (e : ℕ × T). e.0) (sym here) ∙ same) in
        subst (λ es. Contains es entry) (sym (without_other node head rest other)) (0, omega arith, here)
    | inr there ↦ elim (cases_eq head.0 node) [
      | inl same ↦ subst (λ es. Contains es entry) (sym (without_same node head rest same))
          (left_in rest node entry there differs)
      | inr other ↦ subst (λ es. Contains es entry) (sym (without_other node head rest other))
          (Contains-cons head entry (without node rest) (left_in rest node entry there differs))
    ]
  ]

  pub stayed_from : (lists : List (List (ℕ × T))) (node list : ℕ) (entry : ℕ × T)
      → Contains (entries_of (without_node lists node) list) entry
      → Contains (entries_of lists list) entry × (entry.0 ≢ node)
  stayed_from lists node list entry has = left_from (entries_of lists list) node entry
      (subst (λ es. Contains es entry) (entries_without lists node list) has)

  pub stayed_in : (lists : List (List (ℕ × T))) (node list : ℕ) (entry : ℕ × T)
      → Contains (entries_of lists list) entry → entry.0 ≢ node
      → Contains (entries_of (without_node lists node) list) entry
  stayed_in lists node list entry has differs = subst (λ es. Contains es entry)
      (sym (entries_without lists node list)) (left_in (entries_of lists list) node entry has differs)

  -- with one entry more
  module _ (lists : List (List (ℕ × T))) (list node : ℕ) (item : T) (there : list < length lists) where
    pub entries_with : entries_of (with_entry lists list node item) list ≡ entries_of lists list ++ (node, item) ∷ []
    entries_with = get_or-set_same lists list (entries_of lists list ++ (node, item) ∷ []) [] there

    pub entries_beside : (other : ℕ) → other ≢ list
        → entries_of (with_entry lists list node item) other ≡ entries_of lists other
    entries_beside other differs = get_or-set_other lists list other (entries_of lists list ++ (node, item) ∷ [])
        [] differs

    pub pushed_from : (other : ℕ) (entry : ℕ × T) → Contains (entries_of (with_entry lists list node item) other) entry
        → Contains (entries_of lists other) entry ⊎ ((other ≡ list) × (entry ≡ (node, item)))
    pushed_from other entry has = elim (cases_eq other list) [
      | inl same ↦
          elim (Contains-push_cases (entries_of lists list) (node, item) entry
          (subst (λ es. Contains es entry) (ap (entries_of (with_entry lists list node item)) same ∙ entries_with)
          has)) [
            | inl old ↦ inl (subst (λ k. Contains (entries_of lists k) entry) (sym same) old)
            | inr new ↦ inr (same, sym new)
          ]
      | inr differs ↦ inl (subst (λ es. Contains es entry) (entries_beside other differs) has)
    ]

    pub pushed_old : (other : ℕ) (entry : ℕ × T) → Contains (entries_of lists other) entry
        → Contains (entries_of (with_entry lists list node item) other) entry
    pushed_old other entry has = elim (cases_eq other list) [
      | inl same ↦ subst (λ es. Contains es entry)
          (sym (ap (entries_of (with_entry lists list node item)) same ∙ entries_with))
          (Contains-append_left (entries_of lists list) ((node, item) ∷ []) entry
          (subst (λ k. Contains (entries_of lists k) entry) same has))
      | inr differs ↦ subst (λ es. Contains es entry) (sym (entries_beside other differs)) has
    ]

    pub pushed_new : Contains (entries_of (with_entry lists list node item) list) (node, item)
    pushed_new = subst (λ es. Contains es (node, item)) (sym entries_with)
        (Contains-push (entries_of lists list) (node, item))

  -- with another item at a node
  pub entries_put : (lists : List (List (ℕ × T))) (node : ℕ) (item : T) (list : ℕ)
      → entries_of (with_item_at lists node item) list ≡ map (put node item) (entries_of lists list)
  entries_put [] node item zero = refl
  entries_put [] node item (suc list) = refl
  entries_put (found ∷ lists) node item zero = refl
  entries_put (found ∷ lists) node item (suc list) = entries_put lists node item list

  pub put_from : (lists : List (List (ℕ × T))) (node : ℕ) (item : T) (list : ℕ) (entry : ℕ × T)
      → Contains (entries_of (with_item_at lists node item) list) entry
      → ((entry.0 ≢ node) × Contains (entries_of lists list)
      entry) ⊎ ((entry ≡ (node, item)) × ((old : T) × Contains (entries_of lists list) (node, old)))
  put_from lists node item list entry has =
      let was = Contains-map_from (put node item) (entries_of lists list) entry
      (subst (λ es. Contains es entry) (entries_put lists node item list) has) in
      elim (cases_eq was.0.0 node) [
        | inl same ↦ inr (
          sym was.2 ∙ put_here node item was.0 same,
          (was.0.1, subst (λ n. Contains (entries_of lists list) (n, was.0.1)) same was.1),
        )
        | inr differs ↦
            let is : entry ≡ was.0 = sym was.2 ∙ put_other node item was.0 differs in
            inl (
              (λ same. differs (ap (λ (e : ℕ × T). e.0) (sym is) ∙ same)),
              subst
                  (Contains (entries_of lists list)) (sym is) was.1,
            )
      ]

  pub put_old : (lists : List (List (ℕ × T))) (node : ℕ) (item : T) (list : ℕ) (entry : ℕ × T)
      → Contains (entries_of lists list) entry → entry.0 ≢ node
      → Contains (entries_of (with_item_at lists node item) list) entry
  put_old lists node item list entry has differs =
      subst (λ es. Contains es entry) (sym (entries_put lists node item list))
      (subst (Contains (map (put node item) (entries_of lists list))) (put_other node item entry differs)
      (Contains-map (put node item) (entries_of lists list) entry has))

  pub put_new : (lists : List (List (ℕ × T))) (node : ℕ) (item : T) (list : ℕ) (old : T)
      → Contains (entries_of lists list) (node, old)
      → Contains (entries_of (with_item_at lists node item) list) (node, item)
  put_new lists node item list old has =
      subst (λ es. Contains es (node, item)) (sym (entries_put lists node item list))
      (subst (Contains (map (put node item) (entries_of lists list))) (put_here node item (node, old) refl)
      (Contains-map (put node item) (entries_of lists list) (node, old) has))
