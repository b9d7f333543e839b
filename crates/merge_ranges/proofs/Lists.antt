-- Lists of merges: that no two have a cell in common.
use Rattle.std.proofs.Common.{◌≡◌, refl, Bool, false, List, [], ◌∷◌}
use Rattle.std.specs.Prelude.{Option, Some, None}
use Rattle.std.specs.List.{IsDistinct}
use Rattle.std.specs.List.{AllByRecursion, filter_map, cons_option}
use Rattle.std.proofs.lemmas.Map.Keys.{IsDistinct-head, IsDistinct-tail, IsDistinct-cons}
use Rattle.cell_value.specs.Elements.{IsDistinct-none}

module _ {X Y : Type 0} (h : X → Option Y) where
  -- elements that are apart come apart
  module _ (e : X → X → Bool) (f : Y → Y → Bool) (Good : X → Type 0)
      (keeps : (x z : X) (y w : Y) → Good x → Good z → e x z ≡ false → h x ≡ Some y → h z ≡ Some w
      → f y w ≡ false) where
    apart_from : (x : X) (y : Y) → Good x → h x ≡ Some y → (zs : List X) → AllByRecursion Good zs
        → AllByRecursion (λ z. e x z ≡ false) zs
        → AllByRecursion (λ w. f y w ≡ false) (filter_map h zs)
    apart_from x y good is [] all far = tt
    apart_from x y good is (z ∷ zs) all far =
        elim (h z) as (λ o. h z ≡ o → AllByRecursion (λ w. f y w ≡ false) (cons_option o (filter_map h zs))) [
          | None ↦ λ _. apart_from x y good is zs all.1 far.1
          | Some w ↦ λ goes. (keeps x z y w good all.0 far.0 is goes, apart_from x y good is zs all.1 far.1)
        ] refl

    pub distinct-filter_map : (xs : List X) → AllByRecursion Good xs → IsDistinct e xs → IsDistinct f (filter_map h xs)
    distinct-filter_map [] all d = IsDistinct-none f
    distinct-filter_map (x ∷ xs) all d =
        let rest = distinct-filter_map xs all.1 (IsDistinct-tail e x xs d) in
        elim (h x) as (λ o. h x ≡ o → IsDistinct f (cons_option o (filter_map h xs))) [
          | None ↦ λ _. rest
          | Some y ↦ λ is. IsDistinct-cons f y (filter_map h xs)
              (apart_from x y all.0 is xs all.1 (IsDistinct-head e x xs d)) rest
        ] refl
