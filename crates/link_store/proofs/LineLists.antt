-- The lines of one axis after a list was added, and after a change.
use Rattle.std.proofs.Common.{◌≡◌, ◌≢◌, inl, inr, ℕ, zero, suc, ◌+◌, ◌-◌, ◌<◌, List, [], ◌∷◌, ◌++◌, length, refl, sym}
use Rattle.std.proofs.Common.{ap, subst, ◌∙◌, arith, get_or, eqb}
use Rattle.std.specs.Prelude.{Contains, nat_eq}
use Rattle.std.specs.List.{range_with_len}
use Rattle.std.specs.List.Sorted.{IsPermutation}
use Rattle.std.proofs.lemmas.Bool.{cases_lt, cases_order, eq-eqb, ne_eqb, false≢true}
use Rattle.std.proofs.lemmas.Grind.{get_or_default_zero}
use Rattle.std.proofs.lemmas.Bool.Decides.{nat_tests}
use Rattle.std.proofs.lemmas.List.Elements.{All-contains, Contains-get_or}
use Rattle.std.proofs.lemmas.Map.Keys.{IsDistinct-IsPermutation, apart_from_distinct}
use Rattle.cell_store.specs.Table.{most_lines}
use Rattle.cell_value.specs.Elements.{nothing_in}
use Rattle.link_store.proofs.Elements.{Contains-range, IsDistinct-range}
use Rattle.std.proofs.lemmas.List.{length-append, get_or_append_left, get_or-append_right, get_or_past}
use Rattle.std.proofs.lemmas.List.FromFn.{length-range_with_len, get_or-range_with_len}
use Rattle.std.proofs.lemmas.List.Sorted.{IsPermutation-append_left, length_permutation, All-permutation}
use Rattle.std.proofs.lemmas.List.Sorted.{Contains-permutation}
use Rattle.std.proofs.lemmas.List.Sums.{position_or_len_is, sum_by-append}
use Rattle.link_store.specs.declared.lines.Lines.{Lines}
use Rattle.link_store.specs.Lists.{entries_of, live_nodes}
use Rattle.link_store.specs.Crossings.{place_in}
use Rattle.link_store.specs.Lines.{AreLines, AreSameLines, HasSameEntries, list_of}

pub range_more : (a n : ℕ) → range_with_len a (suc n) ≡ range_with_len a n ++ (a + n) ∷ []
range_more a zero = ap (λ k. k ∷ []) (omega arith)
range_more a (suc n) =
    let same : a + 1 + n ≡ a + suc n = omega arith in
    ap (λ xs. a ∷ xs) (range_more (a + 1) n ∙ ap (λ k. range_with_len (a + 1) n ++ k ∷ []) same)

module _ {E : Type 0} where
  -- as many lists as numbers
  pub links_as_lists : (lines : Lines E) → AreLines lines → length lines.links ≡ length lines.lists.items
  links_as_lists lines are = omega (
    arith,
    length_permutation (range_with_len 0 (length lines.links)) lines.lists.items are.each_list,
    length-range_with_len 0 (length lines.links),
  )

  -- the list of a line is there
  pub list_within : (lines : Lines E) → AreLines lines → (index : ℕ) → index < length lines.lists.items
      → list_of lines index < length lines.links
  list_within lines are index within =
      All-contains (λ list. list < length lines.links) lines.lists.items (list_of lines index)
      (All-permutation (λ list. list < length lines.links) (range_with_len 0 (length lines.links))
      lines.lists.items are.each_list
      (λ k d less. omega (
        arith,
        get_or-range_with_len 0 (length lines.links) k d
            (omega (arith, length-range_with_len 0 (length lines.links))),
        length-range_with_len 0 (length lines.links),
      )))
      (Contains-get_or lines.lists.items index 0 within)

  -- two lines have two lists
  lists_apart : (lines : Lines E) → AreLines lines → (i j : ℕ) → i < j → j < length lines.lists.items
      → list_of lines i ≢ list_of lines j
  lists_apart lines are i j order within same =
      false≢true (sym (apart_from_distinct nat_eq lines.lists.items i j 0
      (IsDistinct-IsPermutation nat_eq (λ x y. grind (arith, nat_tests)) (range_with_len 0 (length lines.links))
      lines.lists.items are.each_list
      (IsDistinct-range 0 (length lines.links))) order within) ∙ eq-eqb (list_of lines i) (list_of lines j) same)

  pub same_line : (lines : Lines E) → AreLines lines → (i j : ℕ) → i < length lines.lists.items
      → j < length lines.lists.items → list_of lines i ≡ list_of lines j → i ≡ j
  same_line lines are i j one two same = elim (cases_order i j) [
    | inl equal ↦ equal
    | inr rest ↦ elim rest [
      | inl less ↦ absurd (lists_apart lines are i j less two same)
      | inr more ↦ absurd (lists_apart lines are j i more one (sym same))
    ]
  ]

  -- where the line of a list stands
  pub place_is : (lines : Lines E) → AreLines lines → (list line : ℕ) → line < lines.count
      → list ≡ list_of lines line → place_in lines list ≡ line
  place_is lines are list line there is =
      position_or_len_is (λ other. eqb other list) lines.lists.items line 0 (omega (arith, are.count))
      (λ k less. ne_eqb (list_of lines k) list (λ same.
      let equal = same_line lines are k line (omega (arith, are.count)) (omega (arith, are.count)) (same ∙ is) in
      omega arith))
      (λ less. eq-eqb (list_of lines line) list (sym is))

  -- a list that has an entry is a line's
  pub line_of : (lines : Lines E) → AreLines lines → (list : ℕ) (entry : ℕ × E)
      → Contains (entries_of lines.links list) entry
      → (line : ℕ) × (line < lines.count) × (list_of lines line ≡ list)
  line_of lines are list entry has =
      let there : list < length lines.links = elim (cases_lt list (length lines.links)) [
        | inl less ↦ less
        | inr past ↦ absurd (nothing_in entry (subst (λ es. Contains es entry)
            (get_or_past lines.links list [] past) has))
      ] in
      let at = Contains-permutation (range_with_len 0 (length lines.links)) lines.lists.items list are.each_list
      (Contains-range (length lines.links) list there) in
      let is : list_of lines at.0 ≡ list = sym (get_or_default_zero lines.lists.items at.0 list at.1) ∙ at.2 in
      elim (cases_lt at.0 lines.count) [
        | inl less ↦ (at.0, less, is)
        | inr past ↦ absurd (nothing_in entry (subst (λ es. Contains es entry)
            (ap (entries_of lines.links) (sym is) ∙ are.spare at.0 past at.1) has))
      ]

  entries_push : (lists : List (List (ℕ × E))) (list : ℕ) → entries_of (lists ++ [] ∷ []) list ≡ entries_of lists list
  entries_push [] zero = refl
  entries_push [] (suc list) = refl
  entries_push (found ∷ lists) zero = refl
  entries_push (found ∷ lists) (suc list) = entries_push lists list

  module _ (before after : Lines E) (number : ℕ) (are : AreLines before) (links : after.links ≡ before.links ++ [] ∷ [])
      (lists : after.lists.items ≡ before.lists.items ++ number ∷ [])
      (numbered : number ≡ length before.lists.items) (count : after.count ≡ before.count) where
    longer : length after.lists.items ≡ length before.lists.items + 1
    longer = omega (arith, ap length lists, length-append before.lists.items (number ∷ []))

    pub entries_added : HasSameEntries before after
    entries_added = record {
      entries = λ list. ap (λ all. entries_of all list) links ∙ entries_push before.links list;
      live = ap live_nodes links ∙ omega (arith, sum_by-append length before.links ([] ∷ []));
    }

    list_kept : (index : ℕ) → index < length before.lists.items → list_of after index ≡ list_of before index
    list_kept index within = ap (λ xs. get_or xs index 0) lists
        ∙ get_or_append_left before.lists.items (number ∷ []) 0 index within

    pub same_added : AreSameLines before after
    same_added = record { count = count; lists = λ line there. list_kept line (omega (arith, are.count)) }

    pub lines_added : length before.lists.items < most_lines → AreLines after
    lines_added room = record {
      count = omega (arith, are.count, longer);
      most = omega (arith, longer);
      each_list = subst (λ n. IsPermutation (range_with_len 0 n) after.lists.items) (sym (ap length links ∙ more))
          (subst (IsPermutation (range_with_len 0 (suc (length before.links)))) (sym lists)
          (subst (λ xs. IsPermutation xs (before.lists.items ++ number ∷ []))
          (sym (range_more 0 (length before.links) ∙ ap (λ n. range_with_len 0 (length before.links) ++ n ∷ []) next))
          (IsPermutation-append_left (number ∷ []) (range_with_len 0 (length before.links)) before.lists.items
          are.each_list)));
      spare = λ index past within.
          let first : index < length before.lists.items + 1 = omega (arith, longer) in
          entries_added.entries (list_of after index) ∙ elim (cases_lt index (length before.lists.items)) [
            | inl old ↦ ap (entries_of before.links) (list_kept index old) ∙ are.spare index (omega (arith, count)) old
            | inr new ↦
                let first : index - length before.lists.items ≡ 0 = omega arith in
                ap (entries_of before.links) (ap (λ xs. get_or xs index 0) lists
                ∙ get_or-append_right before.lists.items (number ∷ []) (length before.lists.items) index 0 refl new
                ∙ ap (λ i. get_or (number ∷ []) i 0) first ∙ numbered)
                ∙ get_or_past before.links (length before.lists.items) [] (omega (arith, links_as_lists before are))
          ];
    }
      where
        more : length (before.links ++ [] ∷ []) ≡ suc (length before.links)
        more = omega (arith, length-append before.links ([] ∷ []))

        next : 0 + length before.links ≡ number
        next = omega (arith, links_as_lists before are)
