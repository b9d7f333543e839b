-- Areas in the order of their first cells: one more is put where its own has it stand.
use Rattle.std.proofs.Common.{◌≡◌, ◌≢◌, ◌⊎◌, inl, inr, List, [], ◌∷◌, refl, ap, subst, ◌∙◌}
use Rattle.std.specs.Prelude.{Contains}
use Rattle.std.specs.List.{AllByRecursion}
use Rattle.std.specs.List.Sorted.{IsStrictlySortedBy}
use Rattle.std.specs.Ordering.{is_eq, ordering_reverse}
use Rattle.std.specs.declared.cmp.Ordering.{Ordering}
use Rattle.std.specs.declared.cmp.Ordering.TheVariants.{Less, Equal, Greater}
use Rattle.std.proofs.lemmas.Map.Keys.{sorted_head, sorted_tail}
use Rattle.cell_value.specs.Elements.{Contains-cons, Contains-cons_cases, Contains-head, each_from, from_each, nothing_in}
use Rattle.grid_range.specs.Area.{first_cell}
use Rattle.grid_range.specs.ByRows.{same_cell}
use Rattle.grid_range.specs.declared.area.Area.{Area}
use Rattle.merge_ranges.specs.FirstCells.{by_first_total}
use Rattle.merge_ranges.specs.Merges.{by_first_cell}

-- before the first one that it comes before
abbrev put_by : Ordering → Area → Area → List Area → List Area → List Area
put_by Less area first rest behind = area ∷ first ∷ rest
put_by Equal area first rest behind = first ∷ behind
put_by Greater area first rest behind = first ∷ behind

abbrev pub put : Area → List Area → List Area
put area [] = area ∷ []
put area (first ∷ rest) = put_by (by_first_cell area first) area first rest (put area rest)

-- then it is there, and so are the others
has_later : (area x first : Area) (rest behind : List Area) → (area ≡ x → Contains behind x)
    → (Contains rest x → Contains behind x) → (area ≡ x) ⊎ Contains (first ∷ rest) x → Contains (first ∷ behind) x
has_later area x first rest behind its others (inl same) = Contains-cons first x behind (its same)
has_later area x first rest behind its others (inr there) = elim (Contains-cons_cases first x rest there) [
  | inl here ↦ subst (Contains (first ∷ behind)) here (Contains-head first behind)
  | inr later ↦ Contains-cons first x behind (others later)
]

has_put : (area x first : Area) (rest behind : List Area) → (area ≡ x → Contains behind x)
    → (Contains rest x → Contains behind x) → (area ≡ x) ⊎ Contains (first ∷ rest) x → (by : Ordering)
    → Contains (put_by by area first rest behind) x
has_put area x first rest behind its others has Less = elim has [
  | inl same ↦ subst (Contains (area ∷ first ∷ rest)) same (Contains-head area (first ∷ rest))
  | inr there ↦ Contains-cons area x (first ∷ rest) there
]
has_put area x first rest behind its others has Equal = has_later area x first rest behind its others has
has_put area x first rest behind its others has Greater = has_later area x first rest behind its others has

pub put_has : (area x : Area) (areas : List Area) → (area ≡ x) ⊎ Contains areas x → Contains (put area areas) x
put_has area x [] (inl same) = subst (Contains (area ∷ [])) same (Contains-head area [])
put_has area x [] (inr there) = absurd (nothing_in x there)
put_has area x (first ∷ rest) has =
    has_put area x first rest (put area rest) (λ same. put_has area x rest (inl same))
    (λ there. put_has area x rest (inr there)) has (by_first_cell area first)

-- and nothing else is
from_later : (area x first : Area) (rest behind : List Area) → (Contains behind x → (area ≡ x) ⊎ Contains rest x)
    → Contains (first ∷ behind) x → (area ≡ x) ⊎ Contains (first ∷ rest) x
from_later area x first rest behind from has = elim (Contains-cons_cases first x behind has) [
  | inl here ↦ inr (subst (Contains (first ∷ rest)) here (Contains-head first rest))
  | inr later ↦ elim (from later) [
    | inl same ↦ inl same
    | inr there ↦ inr (Contains-cons first x rest there)
  ]
]

from_put : (area x first : Area) (rest behind : List Area) → (Contains behind x → (area ≡ x) ⊎ Contains rest x)
    → (by : Ordering) → Contains (put_by by area first rest behind) x → (area ≡ x) ⊎ Contains (first ∷ rest) x
from_put area x first rest behind from Less has = Contains-cons_cases area x (first ∷ rest) has
from_put area x first rest behind from Equal has = from_later area x first rest behind from has
from_put area x first rest behind from Greater has = from_later area x first rest behind from has

pub put_from : (area x : Area) (areas : List Area) → Contains (put area areas) x → (area ≡ x) ⊎ Contains areas x
put_from area x [] has = Contains-cons_cases area x [] has
put_from area x (first ∷ rest) has =
    from_put area x first rest (put area rest) (λ there. put_from area x rest there) (by_first_cell area first) has

-- in order
abbrev pub InOrder : List Area → Type 0
InOrder = IsStrictlySortedBy by_first_cell

pub order_none : InOrder []
unfolding IsStrictlySortedBy
order_none = tt

order_cons : (area : Area) (areas : List Area) → AllByRecursion (λ other. by_first_cell area other ≡ Less) areas
    → InOrder areas → InOrder (area ∷ areas)
unfolding IsStrictlySortedBy
order_cons area areas before sorted = (before, sorted)

order_by : (area first : Area) (rest : List Area) → InOrder (first ∷ rest) → first_cell area ≢ first_cell first
    → InOrder (put area rest) → (by : Ordering) → by_first_cell area first ≡ by
    → InOrder (put_by by area first rest (put area rest))
order_by area first rest sorted apart behind Less is =
    order_cons area (first ∷ rest) (
      is,
      each_from (λ other. by_first_cell area other ≡ Less) rest (λ other has.
          by_first_total.trans area first other is
          (from_each (λ other. by_first_cell first other ≡ Less) rest (sorted_head by_first_cell first rest sorted)
          other has)),
    )
    sorted
order_by area first rest sorted apart behind Equal is =
    absurd (apart (same_cell (first_cell area) (first_cell first) (ap is_eq is)))
order_by area first rest sorted apart behind Greater is =
    order_cons first (put area rest) (each_from (λ other. by_first_cell first other ≡ Less) (put area rest)
    (λ other has. elim (put_from area other rest has) [
      | inl same ↦ subst (λ other. by_first_cell first other ≡ Less) same
          (by_first_total.antisymm first area ∙ ap ordering_reverse is)
      | inr there ↦ from_each (λ other. by_first_cell first other ≡ Less) rest
          (sorted_head by_first_cell first rest sorted) other there
    ])) behind

pub put_order : (area : Area) (areas : List Area) → InOrder areas
    → ((other : Area) → Contains areas other → first_cell area ≢ first_cell other) → InOrder (put area areas)
put_order area [] sorted apart = order_cons area [] tt sorted
put_order area (first ∷ rest) sorted apart =
    order_by area first rest sorted (apart first (Contains-head first rest))
    (put_order area rest (sorted_tail by_first_cell first rest sorted)
    (λ other has. apart other (Contains-cons first other rest has))) (by_first_cell area first) refl
