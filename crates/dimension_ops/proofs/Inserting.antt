-- A sheet is put into a list of shared sheets.
use Rattle.std.proofs.Common.{◌≡◌, ℕ, zero, suc, refl, ap, List, [], ◌∷◌}
use Rattle.std.specs.Prelude.{map}
use Rattle.std.specs.List.{insert}

pub map-insert : {X Y : Type 0} (f : X → Y) (xs : List X) (at : ℕ) (x : X)
    → map f (insert xs at x) ≡ insert (map f xs) at (f x)
map-insert f xs zero x = refl
map-insert f [] (suc at) x = refl
map-insert f (y ∷ ys) (suc at) x = ap (λ list. f y ∷ list) (map-insert f ys at x)
