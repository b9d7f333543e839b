-- A list that goes one element further.
use Rattle.std.proofs.Common.{◌≡◌, ℕ, ◌+◌, ◌<◌, List, [], ◌∷◌, ◌++◌, length, take, get_or, ap, ◌∙◌}
use Rattle.std.specs.Prelude.{flat_map}
use Rattle.std.proofs.lemmas.List.{take_more, append-nil}
use Rattle.std.proofs.lemmas.Grind.{flat_map-append}

module _ {X Y : Type 0} (f : X → List Y) where
  one_piece : (x : X) → flat_map f (x ∷ []) ≡ f x
  one_piece x = append-nil (f x)

  -- one piece more
  pub flat_map_more : (xs : List X) (i : ℕ) (x : X) → i < length xs
      → flat_map f (take (i + 1) xs) ≡ flat_map f (take i xs) ++ f (get_or xs i x)
  flat_map_more xs i x within =
      ap (flat_map f) (take_more xs i x within)
      ∙ flat_map-append f (take i xs) (get_or xs i x ∷ [])
      ∙ ap (λ l. flat_map f (take i xs) ++ l) (one_piece (get_or xs i x))
