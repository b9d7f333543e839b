-- Which nodes a list of entries has, which come first and last, and what is left without one.
use Rattle.std.proofs.Common.{◌≡◌, ◌≢◌, ◌⊎◌, inl, inr, ℕ, zero, suc, ◌+◌, List, [], ◌∷◌, ◌++◌, length, map, false}
use Rattle.std.proofs.Common.{refl, sym, ap, subst, ◌∙◌, arith}
use Rattle.std.specs.Prelude.{Option, Some, None, Contains, nat_eq, slice_get, IfSome, IfNone}
use Rattle.std.specs.List.{AllByRecursion, IsDistinct}
use Rattle.std.specs.Option.{option_or}
use Rattle.std.proofs.lemmas.Bool.{cases_eq, eq-eqb, ne_eqb}
use Rattle.std.proofs.lemmas.List.Sums.{sum_by-cons}
use Rattle.cell_value.specs.Elements.{Contains-cons, Contains-cons_cases}
use Rattle.link_store.specs.Lists.{entries_of, first_node, node_after, without, without_node, live_nodes}
use Rattle.link_store.specs.Nodes.{Lacks, last_from, pass}

pub pass_same : (node : ℕ) (other : Option ℕ) (k : ℕ) → k ≡ node → pass node other (Some k) ≡ other
pass_same node other k same = rw (eq-eqb k node same)

pub pass_other : (node : ℕ) (other : Option ℕ) (k : ℕ) → k ≢ node → pass node other (Some k) ≡ Some k
pass_other node other k differs = rw (ne_eqb k node differs)

-- to put the same in its place changes nothing
pub pass_equal : (node : ℕ) (other : Option ℕ) → pass node other other ≡ other
pass_equal node None = refl
pass_equal node (Some k) = elim (cases_eq k node) [
  | inl same ↦ pass_same node (Some k) k same
  | inr differs ↦ pass_other node (Some k) k differs
]

pub pass_else : (node : ℕ) (other link : Option ℕ) → link ≢ Some node → pass node other link ≡ link
pass_else node other None differs = refl
pass_else node other (Some k) differs = pass_other node other k (λ same. differs (ap Some same))

pub if_some : (o : Option ℕ) (P : ℕ → Type 0) → ((k : ℕ) → o ≡ Some k → P k) → IfSome o P
if_some None P holds = tt
if_some (Some k) P holds = holds k refl

pub if_none : (o : Option ℕ) (P : Type 0) → (o ≡ None → P) → IfNone o P
if_none None P holds = holds refl
if_none (Some k) P holds = tt

pub cases_some : (o : Option ℕ) (k : ℕ) → (o ≡ Some k) ⊎ (o ≢ Some k)
cases_some None k = inr (λ e. absurd (cc))
cases_some (Some other) k = elim (cases_eq other k) [
  | inl same ↦ inl (ap Some same)
  | inr differs ↦ inr (λ e. differs (cc))
]

module _ {T : Type 0} where
  -- no node twice
  abbrev pub HasOnce : List (ℕ × T) → Type 0
  HasOnce [] = Unit {0}
  HasOnce (entry ∷ rest) = Lacks entry.0 rest × HasOnce rest

  pub without_same : (node : ℕ) (entry : ℕ × T) (rest : List (ℕ × T)) → entry.0 ≡ node
      → without node (entry ∷ rest) ≡ without node rest
  without_same node entry rest same = rw (eq-eqb entry.0 node same)

  pub without_other : (node : ℕ) (entry : ℕ × T) (rest : List (ℕ × T)) → entry.0 ≢ node
      → without node (entry ∷ rest) ≡ entry ∷ without node rest
  without_other node entry rest differs = rw (ne_eqb entry.0 node differs)

  pub without_lacking : (node : ℕ) (found : List (ℕ × T)) → Lacks node found → without node found ≡ found
  without_lacking node [] lacks = refl
  without_lacking node (entry ∷ rest) lacks = without_other node entry rest lacks.0
      ∙ ap (λ r. entry ∷ r) (without_lacking node rest lacks.1)

  pub Lacks-without : (node other : ℕ) (found : List (ℕ × T)) → Lacks node found → Lacks node (without other found)
  Lacks-without node other [] lacks = tt
  Lacks-without node other (entry ∷ rest) lacks = elim (cases_eq entry.0 other) [
    | inl same ↦ subst (Lacks node) (sym (without_same other entry rest same)) (Lacks-without node other rest lacks.1)
    | inr differs ↦ subst (Lacks node) (sym (without_other other entry rest differs))
        (lacks.0, Lacks-without node other rest lacks.1)
  ]

  pub Lacks-push : (node other : ℕ) (item : T) (found : List (ℕ × T)) → Lacks node found → other ≢ node
      → Lacks node (found ++ (other, item) ∷ [])
  Lacks-push node other item [] lacks differs = (differs, tt)
  Lacks-push node other item (entry ∷ rest) lacks differs = (lacks.0, Lacks-push node other item rest lacks.1 differs)

  pub Lacks-not : (node : ℕ) (item : T) (found : List (ℕ × T)) → Lacks node found → Contains found (node, item) → ⊥
  Lacks-not node item [] lacks has = omega (arith, has.1)
  Lacks-not node item (entry ∷ rest) lacks has = elim (Contains-cons_cases entry (node, item) rest has) [
    | inl here ↦ lacks.0 (ap (λ (e : ℕ × T). e.0) here)
    | inr there ↦ Lacks-not node item rest lacks.1 there
  ]

  -- the last of some entries is one of them
  pub last_lacked : (node : ℕ) (before : Option ℕ) (entry : ℕ × T) (rest : List (ℕ × T))
      → Lacks node (entry ∷ rest) → last_from before (entry ∷ rest) ≢ Some node
  last_lacked node before entry [] lacks = λ e. lacks.0 (cc)
  last_lacked node before entry (next ∷ rest) lacks = last_lacked node (Some entry.0) next rest lacks.1

  pub last_push : (before : Option ℕ) (found : List (ℕ × T)) (node : ℕ) (item : T)
      → last_from before (found ++ (node, item) ∷ []) ≡ Some node
  last_push before [] node item = refl
  last_push before (entry ∷ rest) node item = last_push (Some entry.0) rest node item

  -- the last is the one before where there is no entry, or the node of one
  pub last_cases : (before : Option ℕ) (found : List (ℕ × T)) (k : ℕ) → last_from before found ≡ Some k
      → (before ≡ Some k) ⊎ ((item : T) × Contains found (k, item))
  last_cases before [] k is = inl is
  last_cases before (entry ∷ rest) k is = elim (last_cases (Some entry.0) rest k is) [
    | inl here ↦ let same : entry.0 ≡ k = cc in inr (entry.1, (0, omega arith, ap (λ n. (n, entry.1)) same))
    | inr there ↦ inr (there.0, Contains-cons entry (k, there.0) rest there.1)
  ]

  pub node_after_same : (entry : ℕ × T) (rest : List (ℕ × T)) (node : ℕ) → entry.0 ≡ node
      → node_after (entry ∷ rest) node ≡ first_node rest
  node_after_same entry rest node same = rw (eq-eqb entry.0 node same)

  pub node_after_other : (entry : ℕ × T) (rest : List (ℕ × T)) (node : ℕ) → entry.0 ≢ node
      → node_after (entry ∷ rest) node ≡ node_after rest node
  node_after_other entry rest node differs = rw (ne_eqb entry.0 node differs)

  -- what lacks nothing is one shorter without a node that it has
  pub length-without : (node : ℕ) (item : T) (found : List (ℕ × T)) → HasOnce found → Contains found (node, item)
      → length (without node found) + 1 ≡ length found
  length-without node item [] once has = absurd (omega (arith, has.1))
  length-without node item (entry ∷ rest) once has = elim (cases_eq entry.0 node) [
    | inl same ↦
        let rest_is : without node (entry ∷ rest) ≡ rest = without_same node entry rest same
        ∙ without_lacking node rest (subst (λ n. Lacks n rest) same once.0) in
        omega (arith, ap length rest_is)
    | inr differs ↦ elim (Contains-cons_cases entry (node, item) rest has) [
      | inl here ↦ absurd (differs (ap (λ (e : ℕ × T). e.0) here))
      | inr there ↦ omega (
        arith,
        ap length (without_other node entry rest differs),
        length-without node item rest
            once.1 there,
      )
    ]
  ]

  pub first_push : (found : List (ℕ × T)) (node : ℕ) (item : T)
      → first_node (found ++ (node, item) ∷ []) ≡ option_or (first_node found) (Some node)
  first_push [] node item = refl
  first_push (entry ∷ rest) node item = refl

  lacks_key : (node : ℕ) (rest : List (ℕ × T)) → Lacks node rest
      → AllByRecursion (λ other. nat_eq node other ≡ false) (map (λ (e : ℕ × T). e.0) rest)
  lacks_key node [] lacks = tt
  lacks_key node (entry ∷ rest) lacks = (ne_eqb node entry.0 (λ same. lacks.0 (sym same)), lacks_key node rest lacks.1)

  pub IsDistinct-once : (found : List (ℕ × T)) → HasOnce found → IsDistinct nat_eq (map (λ (e : ℕ × T). e.0) found)
  unfolding IsDistinct
  IsDistinct-once [] once = tt
  IsDistinct-once (entry ∷ rest) once = (lacks_key entry.0 rest once.0, IsDistinct-once rest once.1)

  -- the first entry of a list
  pub first_stands : (found : List (ℕ × T)) (node : ℕ) → first_node found ≡ Some node
      → (item : T) × (slice_get found 0 ≡ Some (node, item)) × Contains found (node, item)
  first_stands [] node is = absurd (cc)
  first_stands (entry ∷ rest) node is =
      let same : entry.0 ≡ node = cc (is) in
      (entry.1, ap (λ n. Some (n, entry.1)) same, (0, omega arith, ap (λ n. (n, entry.1)) same))

  -- the node behind another is one of the list's
  pub node_after_in : (found : List (ℕ × T)) (node next : ℕ) → node_after found node ≡ Some next
      → (item : T) × Contains found (next, item)
  node_after_in [] node next is = absurd (cc)
  node_after_in (entry ∷ rest) node next is = elim (cases_eq entry.0 node) [
    | inl same ↦
        let first = first_stands rest next (sym (node_after_same entry rest node same) ∙ is) in
        (first.0, Contains-cons entry (next, first.0) rest first.2)
    | inr differs ↦
        let later = node_after_in rest node next (sym (node_after_other entry rest node differs) ∙ is) in
        (later.0, Contains-cons entry (next, later.0) rest later.1)
  ]

  pub without_none : (node : ℕ) (lists : List (List (ℕ × T))) → ((i : ℕ) → Lacks node (entries_of lists i))
      → without_node lists node ≡ lists
  without_none node [] lacks = refl
  without_none node (found ∷ lists) lacks =
      ap (λ f. f ∷ without_node lists node) (without_lacking node found (lacks 0))
      ∙ ap (λ fs. found ∷ fs) (without_none node lists (λ i. lacks (suc i)))

  -- one live node less
  pub live_nodes-without : (lists : List (List (ℕ × T))) (list node : ℕ) (item : T)
      → HasOnce (entries_of lists list) → Contains (entries_of lists list) (node, item)
      → ((i : ℕ) → i ≢ list → Lacks node (entries_of lists i))
      → live_nodes (without_node lists node) + 1 ≡ live_nodes lists
  live_nodes-without [] list node item once has lacks = absurd (omega (arith, has.1))
  live_nodes-without (found ∷ lists) zero node item once has lacks =
      let rest : without_node lists node ≡ lists = without_none node lists
      (λ i. lacks (suc i) (λ e. omega (arith, e))) in
      omega (
        arith,
        length-without node item found once has,
        ap live_nodes rest,
        sum_by-cons length found lists,
        sum_by-cons length (without node found) (without_node lists node),
      )
  live_nodes-without (found ∷ lists) (suc list) node item once has lacks =
      let same : without node found ≡ found = without_lacking node found (lacks 0 (λ e. omega (arith, e))) in
      omega (
        arith,
        ap length same,
        live_nodes-without lists list node item once has (λ i differs. lacks (suc i) (λ e. differs (omega (arith, e)))),
        sum_by-cons length found lists,
        sum_by-cons length (without node found) (without_node lists node),
      )
