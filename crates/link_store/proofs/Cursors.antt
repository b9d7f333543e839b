-- The entries of a list from one of its nodes on.
use Rattle.std.proofs.Common.{◌≡◌, ◌≢◌, inl, inr, ℕ, List, [], ◌∷◌, false, refl, sym, ap, subst, ◌∙◌, arith, map}
use Rattle.std.specs.Prelude.{Option, Some, None, Contains, nat_eq}
use Rattle.std.specs.List.{AllByRecursion, IsDistinct}
use Rattle.std.proofs.lemmas.Bool.{cases_eq, eq-eqb, ne_eqb, false≢true}
use Rattle.cell_value.specs.Elements.{Contains-cons_cases}
use Rattle.link_store.specs.Lists.{entries_of, first_node, node_after}
use Rattle.link_store.specs.Nodes.{Lacks}
use Rattle.link_store.specs.Entries.{entries_from, IsCursor}
use Rattle.link_store.proofs.Members.{HasOnce, Lacks-not, first_stands, node_after_in, node_after_same}
use Rattle.link_store.proofs.Members.{node_after_other}

module _ {T : Type 0} where
  lacks_from : (node : ℕ) (rest : List (ℕ × T))
      → AllByRecursion (λ other. nat_eq node other ≡ false) (map (λ (e : ℕ × T). e.0) rest) → Lacks node rest
  lacks_from node [] apart = tt
  lacks_from node (entry ∷ rest) apart = (
    (λ same. false≢true (sym apart.0 ∙ eq-eqb node entry.0 (sym same))),
    lacks_from node rest apart.1,
  )

  pub once_from : (found : List (ℕ × T)) → IsDistinct nat_eq (map (λ (e : ℕ × T). e.0) found) → HasOnce found
  unfolding IsDistinct
  once_from [] apart = tt
  once_from (entry ∷ rest) apart = (lacks_from entry.0 rest apart.0, once_from rest apart.1)

  from_same : (entry : ℕ × T) (rest : List (ℕ × T)) (node : ℕ) → entry.0 ≡ node
      → entries_from (entry ∷ rest) (Some node) ≡ entry ∷ rest
  from_same entry rest node same = rw (eq-eqb entry.0 node same)

  from_none : (found : List (ℕ × T)) → [] ≡ entries_from found None
  from_none [] = refl
  from_none (entry ∷ rest) = refl

  from_later : (entry : ℕ × T) (rest : List (ℕ × T)) (at : Option ℕ) → ((k : ℕ) → at ≡ Some k → entry.0 ≢ k)
      → entries_from (entry ∷ rest) at ≡ entries_from rest at
  from_later entry rest None differs = from_none rest
  from_later entry rest (Some k) differs = rw (ne_eqb entry.0 k (differs k refl))

  pub from_first : (found : List (ℕ × T)) → entries_from found (first_node found) ≡ found
  from_first [] = refl
  from_first (entry ∷ rest) = from_same entry rest entry.0 refl

  -- a node of the rest differs from the first
  rest_differs : (entry : ℕ × T) (rest : List (ℕ × T)) (k : ℕ) (item : T) → Lacks entry.0 rest
      → Contains rest (k, item) → entry.0 ≢ k
  rest_differs entry rest k item lacks has same = Lacks-not k item rest (subst (λ n. Lacks n rest) same lacks) has

  pub from_next : (found : List (ℕ × T)) (node : ℕ) (item : T) → HasOnce found → Contains found (node, item)
      → entries_from found (Some node) ≡ (node, item) ∷ entries_from found (node_after found node)
  from_next [] node item once has = absurd (omega (arith, has.1))
  from_next (entry ∷ rest) node item once has = elim (cases_eq entry.0 node) [
    | inl same ↦ elim (Contains-cons_cases entry (node, item) rest has) [
      | inl here ↦
          from_same entry rest node same ∙ ap (λ e. e ∷ rest) here
          ∙ ap (λ es. (node, item) ∷ es) (sym (
          ap (entries_from (entry ∷ rest)) (node_after_same entry rest node same)
          ∙ from_later entry rest (first_node rest)
          (λ k is. let first = first_stands rest k is in rest_differs entry rest k first.0 once.0 first.2)
          ∙ from_first rest))
      | inr there ↦ absurd (Lacks-not node item rest (subst (λ n. Lacks n rest) same once.0) there)
    ]
    | inr differs ↦ elim (Contains-cons_cases entry (node, item) rest has) [
      | inl here ↦ absurd (differs (ap (λ (e : ℕ × T). e.0) here))
      | inr there ↦
          from_later entry rest (Some node) (λ k is. λ same. differs (same ∙ cc (is)))
          ∙ from_next rest node item once.1 there
          ∙ ap (λ es. (node, item) ∷ es) (sym (
          ap (entries_from (entry ∷ rest)) (node_after_other entry rest node differs)
          ∙ from_later entry rest (node_after rest node)
          (λ k is. let later = node_after_in rest node k is in rest_differs entry rest k later.0 once.0 later.1)))
    ]
  ]

  -- an iterator at a node: what it gives, and what is left then
  pub cursor_on : (lists : List (List (ℕ × T))) (list node : ℕ) (next after : Option ℕ) (item : T)
      (left : List (ℕ × T)) → IsCursor lists list next
      → entries_from (entries_of lists list) next ≡ left → next ≡ Some node
      → ((one : T) → Contains (entries_of lists list) (node, one) → item ≡ one)
      → ((one : T) → Contains (entries_of lists list) (node, one) → after ≡ node_after (entries_of lists list) node)
      → left ≡ (node, item) ∷ entries_from (entries_of lists list) after
  cursor_on lists list node next after item left cursor view at is goes =
      let there = cursor.stands node at in
      sym view ∙ ap (entries_from (entries_of lists list)) at
      ∙ from_next (entries_of lists list) node there.0
      (once_from (entries_of lists list) (cursor.once.distinct list)) there.1
      ∙ ap (λ (e : T). (node, e) ∷ entries_from (entries_of lists list) (node_after (entries_of lists list) node))
      (sym (is there.0 there.1))
      ∙ ap (λ (o : Option ℕ). (node, item) ∷ entries_from (entries_of lists list) o) (sym (goes there.0 there.1))

  pub cursor_stays : (lists : List (List (ℕ × T))) (list node : ℕ) (next after : Option ℕ)
      → IsCursor lists list next → next ≡ Some node
      → ((one : T) → Contains (entries_of lists list) (node, one) → after ≡ node_after (entries_of lists list) node)
      → IsCursor lists list after
  cursor_stays lists list node next after cursor at goes = record {
    once = cursor.once;
    stands = λ k is.
        let there = cursor.stands node at in
        node_after_in (entries_of lists list) node k (sym (goes there.0 there.1) ∙ is);
  }
