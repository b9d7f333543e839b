-- Quotes: what stands in quotes ends at one place.
use Rattle.std.proofs.Common.{◌≡◌, ℕ, List, [], ◌∷◌, ◌++◌, get_or, refl, sym, ap, ◌∙◌, inl, inr, append_assoc}
use Rattle.std.specs.Prelude.{◌≢◌}
use Rattle.std.specs.List.{flat_map}
use Rattle.std.proofs.lemmas.Bool.{ne_eqb, eq-eqb, cases_eq}
use Rattle.a1_notation.specs.Quoted.{doubled, quoted, IsUpToQuote}

-- of any quote
module _ (q : ℕ) where
  pub doubled_yes : (x : ℕ) → x ≡ q → doubled q x ≡ q ∷ q ∷ []
  doubled_yes x e = rw (eq-eqb x q e) refl

  pub doubled_no : (x : ℕ) → x ≢ q → doubled q x ≡ x ∷ []
  doubled_no x ne = rw (ne_eqb x q ne) refl

  -- a byte of a content is one byte, and a closing quote alone is none
  one_doubled : (x y : ℕ) (r s : List ℕ) → doubled q x ++ r ≡ doubled q y ++ s → (x ≡ y) × (r ≡ s)
  one_doubled x y r s e = elim (cases_eq x q) [
    | inl quote ↦ elim (cases_eq y q) [
      | inl quote' ↦
          let pairs : q ∷ q ∷ r ≡ q ∷ q ∷ s = rw (doubled_yes x quote, doubled_yes y quote') at e in
          (quote ∙ sym quote', cc)
      | inr other' ↦
          let heads : q ∷ q ∷ r ≡ y ∷ s = rw (doubled_yes x quote, doubled_no y other') at e in
          let same : y ≡ q = cc in
          absurd (other' same)
    ]
    | inr other ↦ elim (cases_eq y q) [
      | inl quote' ↦
          let heads : x ∷ r ≡ q ∷ q ∷ s = rw (doubled_no x other, doubled_yes y quote') at e in
          let same : x ≡ q = cc in
          absurd (other same)
      | inr other' ↦
          let heads : x ∷ r ≡ y ∷ s = rw (doubled_no x other, doubled_no y other') at e in
          (cc, cc)
    ]
  ]

  -- nothing, or a quote that isn't doubled
  abbrev pub Ends : List ℕ → Type 0
  Ends [] = Unit {0}
  Ends (c ∷ rest) = (c ≡ q) × (get_or rest 0 0 ≢ q)

  no_end_inside : (y : ℕ) (ys r s : List ℕ) → Ends r → r ≡ flat_map (doubled q) (y ∷ ys) ++ s → ⊥
  no_end_inside y ys r s ends e =
      elim (cases_eq y q) [
        | inl quote ↦ at_quote r ends (rw (doubled_yes y quote) at e)
        | inr other ↦ at_other other r ends (rw (doubled_no y other) at e)
      ]
    where
      at_quote : (r : List ℕ) → Ends r → r ≡ q ∷ q ∷ (flat_map (doubled q) ys ++ s) → ⊥
      at_quote [] ends e = cc
      at_quote (c ∷ rest) ends e =
          let same : rest ≡ q ∷ (flat_map (doubled q) ys ++ s) = cc in
          ends.1 (rw same refl)

      at_other : y ≢ q → (r : List ℕ) → Ends r → r ≡ y ∷ (flat_map (doubled q) ys ++ s) → ⊥
      at_other other [] ends e = cc
      at_other other (c ∷ rest) ends e =
          let same : c ≡ y = cc in
          other (sym same ∙ ends.0)

  -- a text has one content up to a quote that isn't doubled
  pub one_content : (xs ys r s : List ℕ) → Ends r → Ends s
      → flat_map (doubled q) xs ++ r ≡ flat_map (doubled q) ys ++ s → (xs ≡ ys) × (r ≡ s)
  one_content [] [] r s ends ends' e = (refl, e)
  one_content [] (y ∷ ys) r s ends ends' e = absurd (no_end_inside y ys r s ends e)
  one_content (x ∷ xs) [] r s ends ends' e = absurd (no_end_inside x xs s r ends' (sym e))
  one_content (x ∷ xs) (y ∷ ys) r s ends ends' e =
      let first = one_doubled x y (flat_map (doubled q) xs ++ r) (flat_map (doubled q) ys ++ s)
      (sym (append_assoc (doubled q x) (flat_map (doubled q) xs) r) ∙ e
      ∙ append_assoc (doubled q y) (flat_map (doubled q) ys) s) in
      let rest = one_content xs ys r s ends ends' first.1 in
      (rw (first.0, rest.0) refl, rest.1)

  -- what is quoted, from behind its opening quote
  pub behind_opening : (inside content rest : List ℕ) → q ∷ inside ≡ quoted q content ++ rest
      → inside ≡ flat_map (doubled q) content ++ (q ∷ rest)
  behind_opening inside content rest e =
      let same : inside ≡ flat_map (doubled q) content ++ (q ∷ []) ++ rest = cc in
      same ∙ append_assoc (flat_map (doubled q) content) (q ∷ []) rest

  -- and with it
  pub with_opening : (inside content rest : List ℕ) → inside ≡ flat_map (doubled q) content ++ (q ∷ rest)
      → q ∷ inside ≡ quoted q content ++ rest
  with_opening inside content rest e =
      ap (λ t. q ∷ t) (e ∙ sym (append_assoc (flat_map (doubled q) content) (q ∷ []) rest))

  -- one content stands there, before one rest
  pub up_to_quote_is_one : (inside content rest content' rest' : List ℕ) → IsUpToQuote q inside content rest
      → IsUpToQuote q inside content' rest' → (content ≡ content') × (rest ≡ rest')
  up_to_quote_is_one inside content rest content' rest' a b =
      let same = one_content content content' (q ∷ rest) (q ∷ rest') (refl, a.closed) (refl, b.closed)
      (sym (behind_opening inside content rest a.parts) ∙ behind_opening inside content' rest' b.parts) in
      let tail : q ∷ rest ≡ q ∷ rest' = same.1 in
      (same.0, cc)
