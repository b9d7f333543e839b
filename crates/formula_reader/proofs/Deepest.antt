-- The brackets that are open at once, item by item.
use Rattle.std.proofs.Common.{◌≡◌, ℕ, ◌+◌, suc, ◌<◌, ◌≤◌, max, List, [], ◌∷◌, length, drop, get_or, drop-cons, refl, sym, ◌∙◌, ap, arith}
use Rattle.formula_reader.specs.declared.limits.Counted.{Counted}
use Rattle.formula_reader.specs.declared.limits.Counted.TheVariants.{Cells, Opens, Closes, Other}
use Rattle.formula_reader.specs.Limits.{depth_behind, deepest}

pub at_most_one_more : (counted : Counted) (n : ℕ) → depth_behind counted n ≤ n + 1
at_most_one_more Cells n = omega arith
at_most_one_more Opens n = omega arith
at_most_one_more Closes n = omega arith
at_most_one_more Other n = omega arith

-- of items of any type, by how many are open behind one
module _ {X : Type 0} (behind : X → ℕ → ℕ) where
  deepest_from : (n : ℕ) (items : List X) → n ≤ deepest behind n items
  deepest_from n [] = omega arith
  deepest_from n (item ∷ later) = omega arith

  item_here : (items : List X) (i : ℕ) (item : X) → i < length items → item ≡ get_or items i item
      → drop i items ≡ item ∷ drop (i + 1) items
  item_here items i item less is =
      let next : i + 1 ≡ suc i = omega arith in
      rw next (drop-cons items i item less ∙ ap (λ (x : X). x ∷ drop (suc i) items) (sym is))

  maxes : (most n d m x : ℕ) → x ≡ max n m → d ≤ m → n ≤ most → max (max most d) m ≡ max most x
  maxes most n d m x e less held = omega (arith, e, less, held)

  -- the item at this place is taken
  pub deepest_on : (n most i : ℕ) (items : List X) (item : X) → n ≤ most → i < length items → item ≡ get_or items i item
      → max (max most (behind item n)) (deepest behind (behind item n) (drop (i + 1) items))
      ≡ max most (deepest behind n (drop i items))
  deepest_on n most i items item held less is =
      rw (item_here items i item less is)
      (maxes most n (behind item n) (deepest behind (behind item n) (drop (i + 1) items))
      (deepest behind n (item ∷ drop (i + 1) items)) refl
      (deepest_from (behind item n) (drop (i + 1) items)) held)
