-- Copies of a list of shared sheets or spreadsheets share what each holds.
use Rattle.std.proofs.Common.{◌≡◌, refl, ap, ◌∙◌, List, [], ◌∷◌}
use Rattle.std.specs.Prelude.{map}
use Rattle.std.specs.List.{AllZip}

pub seen_same : {X Y : Type 0} (value : X → Y) (xs ys : List X) → AllZip (λ x y. value y ≡ value x) xs ys
    → map value ys ≡ map value xs
seen_same value [] [] all = refl
seen_same value [] (y ∷ ys) all = absurd all
seen_same value (x ∷ xs) [] all = absurd all
seen_same value (x ∷ xs) (y ∷ ys) all = ap (λ z. z ∷ map value ys) all.0
    ∙ ap (λ zs. value x ∷ zs) (seen_same value xs ys all.1)
