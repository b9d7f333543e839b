-- A list in which two parts that stand side by side changed places.
use Rattle.std.proofs.Common.{◌≡◌, inl, inr, ℕ, ◌+◌, ◌-◌, ◌<◌, ◌≤◌, List, ◌++◌, length, sym, ap, subst, ◌∙◌, arith}
use Rattle.std.proofs.Common.{get_or, take, drop}
use Rattle.std.proofs.lemmas.Bool.{cases_lt}
use Rattle.std.proofs.lemmas.List.{take-append-drop, take_at, length-append, length-take, length-drop, get_or-take}
use Rattle.std.proofs.lemmas.List.{get_or-drop, get_or_append_left, get_or-append_right}
use Rattle.std.specs.List.Sorted.{IsPermutation}
use Rattle.std.proofs.lemmas.List.Sorted.{IsPermutation-append_comm, IsPermutation-put_mid}
use Rattle.cell_store.specs.Turning.{source}
use Rattle.cell_store.specs.TurningLaws.{source_first, source_second, source_third, source_last}

module _ (xs ys : List ℕ) (start middle end : ℕ) (some : start ≤ middle) (order : middle ≤ end)
    (within : end ≤ length xs)
    (is : ys ≡ drop (middle - start) (take (end - start) (drop start xs)) ++ take (middle - start)
    (take (end - start) (drop start xs))) where
  length_part : length (take (end - start) (drop start xs)) ≡ end - start
  length_part = simp (length-take, length-drop) (omega arith)

  length_turned : length ys ≡ end - start
  length_turned = omega (
    arith,
    ap length is,
    length_part,
    length-append (drop (middle - start) (take (end - start) (drop start xs)))
        (take (middle - start) (take (end - start) (drop start xs))),
    ap length (take-append-drop (middle - start) (take (end - start) (drop start xs))),
    length-append (take (middle - start) (take (end - start) (drop start xs)))
        (drop (middle - start) (take (end - start) (drop start xs))),
  )

  -- the whole list then
  abbrev pub turned : List ℕ
  turned = take start xs ++ (ys ++ drop (end - start) (drop start xs))

  pub length-turned : length turned ≡ length xs
  length-turned = simp (length-append, length-take, length-drop) (omega (arith, length_turned))

  -- an index in the part
  part_at : (j : ℕ) → j < end - start → get_or (take (end - start) (drop start xs)) j 0 ≡ get_or xs (start + j) 0
  part_at j l = get_or-take (end - start) (drop start xs) j 0 l ∙ get_or-drop start xs j 0

  in_part : (j : ℕ) → j < end - start → get_or ys j 0 ≡ get_or xs (source start middle end (start + j)) 0
  in_part j l = elim (cases_lt j (end - middle)) [
    | inl second ↦
        ap (λ zs. get_or zs j 0) is
        ∙ get_or_append_left (drop (middle - start) (take (end - start) (drop start xs))) _ 0 j
        (simp (length-drop) (omega (arith, length_part)))
        ∙ get_or-drop (middle - start) (take (end - start) (drop start xs)) j 0
        ∙ part_at (middle - start + j) (omega arith)
        ∙ ap (λ i. get_or xs i 0) (omega (arith, source_second start middle end (start + j)))
    | inr third ↦
        ap (λ zs. get_or zs j 0) is
        ∙ get_or-append_right (drop (middle - start) (take (end - start) (drop start xs)))
        (take (middle - start) (take (end - start) (drop start xs))) (end - middle) j 0
        (simp (length-drop) (omega (arith, length_part))) third
        ∙ get_or-take (middle - start) (take (end - start) (drop start xs)) (j - (end - middle)) 0 (omega arith)
        ∙ part_at (j - (end - middle)) (omega arith)
        ∙ ap (λ i. get_or xs i 0) (omega (arith, source_third start middle end (start + j)))
  ]

  pub turned_at : (i : ℕ) → get_or turned i 0 ≡ get_or xs (source start middle end i) 0
  turned_at i = elim (cases_lt i start) [
    | inl before ↦
        get_or_append_left (take start xs) (ys ++ drop (end - start) (drop start xs)) 0 i
        (simp (length-take) (omega arith))
        ∙ get_or-take start xs i 0 before
        ∙ ap (λ j. get_or xs j 0) (sym (source_first start middle end i before))
    | inr past ↦
        get_or-append_right (take start xs) (ys ++ drop (end - start) (drop start xs)) start i 0
        (simp (length-take) (omega arith)) past
        ∙ elim (cases_lt i end) [
          | inl inside ↦
              get_or_append_left ys _ 0 (i - start) (omega (arith, length_turned))
              ∙ in_part (i - start) (omega arith)
              ∙ ap (λ j. get_or xs (source start middle end j) 0) (omega arith)
          | inr behind ↦
              get_or-append_right ys (drop (end - start) (drop start xs)) (end - start) (i - start) 0 length_turned
              (omega arith)
              ∙ get_or-drop (end - start) (drop start xs) (i - start - (end - start)) 0
              ∙ get_or-drop start xs (end - start + (i - start - (end - start))) 0
              ∙ ap (λ j. get_or xs j 0) (omega (arith, source_last start middle end i))
        ]
  ]

  pub turned_numbers : IsPermutation xs turned
  turned_numbers =
      IsPermutation-put_mid start (end - start) xs ys
      (subst (IsPermutation (take (end - start) (drop start xs))) (sym is)
      (subst (λ zs. IsPermutation zs (drop (middle - start) (take (end - start) (drop start xs)) ++ take
      (middle - start) (take (end - start) (drop start xs))))
      (take-append-drop (middle - start) (take (end - start) (drop start xs)))
      (IsPermutation-append_comm (take (middle - start) (take (end - start) (drop start xs)))
      (drop (middle - start) (take (end - start) (drop start xs))))))

  -- what a vector has then, whose numbers are cut at their old length
  module _ (was : List ℕ) (count : ℕ) (same : xs ≡ was) (long : count ≡ length was) where
    cut : take count (turned ++ drop (length turned) was) ≡ turned
    cut = take_at turned (drop (length turned) was) count (length-turned ∙ ap length same ∙ sym long)

    pub order_after : (i : ℕ) → get_or (take count (turned ++ drop (length turned) was)) i 0 ≡ get_or was
        (source start middle end i) 0
    order_after i = ap (λ zs. get_or zs i 0) cut ∙ turned_at i ∙ ap (λ zs. get_or zs (source start middle end i) 0) same

    pub numbers_after : IsPermutation was (take count (turned ++ drop (length turned) was))
    numbers_after = subst (IsPermutation was) (sym cut) (subst (λ zs. IsPermutation zs turned) same turned_numbers)
