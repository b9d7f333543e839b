-- A list that goes on with each index at itself, and an order of such lists.
use Rattle.std.proofs.Common.{◌≡◌, ◌⊎◌, inl, inr, ℕ, ◌-◌, ◌<◌, ◌≤◌, ◌++◌, List, [], cond, get_or, length, refl, sym, ap, ◌∙◌, arith}
use Rattle.std.specs.List.{range_with_len}
use Rattle.std.proofs.lemmas.Bool.{cases_lt, le-ltb, lt-ltb}
use Rattle.std.proofs.lemmas.Bool.Decides.{nat_tests}
use Rattle.std.proofs.lemmas.List.{append-nil, length-append, get_or_append_left, get_or-append_right}
use Rattle.std.proofs.lemmas.List.FromFn.{get_or-range_with_len, length-range_with_len}
use Rattle.cell_store.specs.Table.{most_lines}
use Rattle.cell_store.specs.Turning.{source}
use Rattle.shared_grid.specs.Orders.{AreNumbers, LineOrder, IsOrder, continued, entry}

module _ (xs : List ℕ) where
  pub entry_behind : (i : ℕ) → length xs ≤ i → entry xs i ≡ i
  entry_behind i past = ap (λ b. cond b (get_or xs i 0) i) (le-ltb i (length xs) past)

  pub entry_listed : (i : ℕ) → i < length xs → entry xs i ≡ get_or xs i 0
  entry_listed i less = ap (λ b. cond b (get_or xs i 0) i) (lt-ltb i (length xs) less)

  pub continued_itself : (long : ℕ) → long ≡ length xs → continued xs long ≡ xs
  continued_itself long is =
      let none : long - length xs ≡ 0 = omega arith in
      ap (λ n. xs ++ range_with_len (length xs) n) none ∙ append-nil xs

  module _ (long : ℕ) (within : length xs ≤ long) where
    abbrev rest : List ℕ
    rest = range_with_len (length xs) (long - length xs)

    pub length-continued : length (continued xs long) ≡ long
    length-continued = omega (arith, length-append xs rest, length-range_with_len (length xs) (long - length xs))

    pub continued-entry : (i : ℕ) → i < long → get_or (continued xs long) i 0 ≡ entry xs i
    continued-entry i there = elim (cases_lt i (length xs)) [
      | inl less ↦ get_or_append_left xs rest 0 i less ∙ sym (entry_listed i less)
      | inr past ↦
          let ranged = get_or-range_with_len (length xs) (long - length xs) (i - length xs) 0 (omega arith) in
          let is : get_or rest (i - length xs) 0 ≡ i = omega (arith, ranged) in
          get_or-append_right xs rest (length xs) i 0 refl (omega arith) ∙ is ∙ sym (entry_behind i past)
    ]

-- a list that goes on behind numbers with each index at itself
pub numbers_on : (xs ys : List ℕ) → AreNumbers xs → length xs ≤ length ys
    → ((i : ℕ) → i < length xs → get_or ys i 0 ≡ get_or xs i 0)
    → ((i : ℕ) → length xs ≤ i → i < length ys → get_or ys i 0 ≡ i) → AreNumbers ys
numbers_on xs ys are more first behind = record {
  within = λ i there. elim (cases_lt i (length xs)) [
    | inl old ↦ omega (arith, first i old, are.within i old)
    | inr new ↦ omega (arith, behind i (omega arith) there)
  ];
  apart = λ i j one two same. elim (cases_lt i (length xs)) [
    | inl low ↦ elim (cases_lt j (length xs)) [
      | inl both ↦ are.apart i j low both (sym (first i low) ∙ same ∙ first j both)
      | inr last ↦ absurd (omega (arith, first i low, are.within i low, behind j (omega arith) two, same))
    ]
    | inr high ↦ elim (cases_lt j (length xs)) [
      | inl second ↦ absurd (omega (arith, first j second, are.within j second, behind i (omega arith) one, same))
      | inr both ↦ omega (arith, behind i (omega arith) one, behind j (omega arith) two, same)
    ]
  ];
}

-- of the longer list the first are those of the shorter one
module _ (xs : List ℕ) (kept long : ℕ) (within : length xs ≤ kept) (more : kept ≤ long) where
  pub same_entry : (i : ℕ) → i < kept → get_or (continued xs long) i 0 ≡ get_or (continued xs kept) i 0
  same_entry i there = continued-entry xs long (omega arith) i (omega arith)
      ∙ sym (continued-entry xs kept within i there)

  own_entry : (i : ℕ) → kept ≤ i → i < long → get_or (continued xs long) i 0 ≡ i
  own_entry i past there = continued-entry xs long (omega arith) i there ∙ entry_behind xs i (omega arith)

  numbers_longer : AreNumbers (continued xs kept) → AreNumbers (continued xs long)
  numbers_longer are =
      let shorter = length-continued xs kept within in
      let longer = length-continued xs long (omega arith) in
      numbers_on (continued xs kept) (continued xs long) are (omega (arith, shorter, longer))
      (λ i there. same_entry i (omega (arith, there, shorter)))
      (λ i past there. own_entry i (omega (arith, past, shorter)) (omega (arith, there, longer)))

-- the order of the lists continued
abbrev pub order_of : List ℕ → List ℕ → ℕ → ℕ → LineOrder
order_of numbers places kept count =
    record { numbers = continued numbers kept; places = continued places kept; count = count }

module _ (numbers places : List ℕ) (kept count : ℕ) (within : length numbers ≤ kept)
    (even : length places ≡ length numbers) (is : IsOrder (order_of numbers places kept count)) where
  pub order_longer : (long count' : ℕ) → kept ≤ long → count' ≤ long → long ≤ most_lines
      → IsOrder (order_of numbers places long count')
  order_longer long count' more there most =
      let shorter = length-continued numbers kept within in
      let longer = length-continued numbers long (omega arith) in
      record {
        count = omega (arith, there, longer);
        most = omega (arith, most, longer);
        each = numbers_longer numbers kept long within more is.each;
        long = omega (arith, longer, length-continued places long (omega arith));
        noted = λ i less. elim (cases_lt i kept) [
          | inl old ↦
              let number : ℕ = get_or (continued numbers kept) i 0 in
              let small : get_or (continued numbers kept) i 0 < kept =
              omega (arith, is.each.within i (omega (arith, old, shorter)), shorter) in
              ap (λ n. get_or (continued places long) n 0) (same_entry numbers kept long within more i old)
              ∙ same_entry places kept long (omega arith) more number small
              ∙ is.noted i (omega (arith, old, shorter))
          | inr new ↦
              let inside : i < long = omega (arith, less, longer) in
              ap (λ n. get_or (continued places long) n 0) (own_entry numbers kept long within more i new inside)
              ∙ own_entry places kept long (omega arith) more i new inside
        ];
      }

none : (list : List ℕ) → list ≡ [] → (i : ℕ) → i < length (continued list 0) → ⊥
none list is i there = omega (arith, there, length-continued list 0 (omega (arith, ap length is)), ap length is)

-- lines that all have their places as numbers
pub own_numbers : (numbers places : List ℕ) (count : ℕ) → numbers ≡ [] → places ≡ [] → count ≤ most_lines
    → IsOrder (order_of numbers places count count)
own_numbers numbers places count no_numbers no_places most =
    let empty = ap length no_numbers in
    let empty_too = ap length no_places in
    order_longer numbers places 0 0 (omega (arith, empty)) (omega (arith, empty, empty_too)) (record {
      count = omega (arith, length-continued numbers 0 (omega (arith, empty)));
      most = omega (arith, length-continued numbers 0 (omega (arith, empty)));
      each = record {
        within = λ i there. absurd (none numbers no_numbers i there);
        apart = λ i j one two same. absurd (none numbers no_numbers i one);
      };
      long = omega (
        arith,
        length-continued numbers 0 (omega (arith, empty)),
        length-continued places 0 (omega (arith, empty_too)),
      );
      noted = λ i there. absurd (none numbers no_numbers i there);
    }) count count (omega arith) (omega arith) most

-- two parts of which one is empty stay where they are
pub still : (start middle end i : ℕ) → (start ≡ middle) ⊎ (middle ≡ end) → source start middle end i ≡ i
still start middle end i (inl same) = grind (arith, nat_tests)
still start middle end i (inr same) = grind (arith, nat_tests)
