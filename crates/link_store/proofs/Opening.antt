-- Lists of no line that come to stand before a line.
use Rattle.std.proofs.Common.{◌≡◌, ◌≢◌, inl, inr, ℕ, ◌+◌, ◌-◌, ◌<◌, ◌≤◌, List, [], length, refl, sym, ap, subst, ◌∙◌}
use Rattle.std.proofs.Common.{arith, get_or}
use Rattle.std.specs.Prelude.{Some}
use Rattle.std.specs.Option.{unwrap_or}
use Rattle.std.specs.List.{range_with_len}
use Rattle.std.specs.List.Sorted.{IsPermutation}
use Rattle.std.proofs.lemmas.Bool.Decides.{nat_tests}
use Rattle.std.proofs.lemmas.List.Sorted.{IsPermutation-trans}
use Rattle.grid_range.specs.declared.change.Change.TheVariants.{Insert}
use Rattle.grid_range.specs.Tracking.{place_of, start_opened}
use Rattle.link_store.specs.declared.lines.Lines.{Lines}
use Rattle.link_store.specs.Lists.{entries_of}
use Rattle.std.proofs.lemmas.Bool.{cases_eq, cases_lt}
use Rattle.link_store.specs.Lines.{OpenedFrom, AreLines, AreMoved, AreSameLines, line_entries, list_of}

-- where a number stood that is at an index
abbrev pub StoodAt : List ℕ → List ℕ → ℕ → ℕ → ℕ → ℕ → Type 0
StoodAt before after at inserted count index = (old : ℕ) × OpenedFrom at inserted count index
    old × (get_or after index 0 ≡ get_or before old 0)

pub opened_none : (xs : List ℕ) (inserted count index : ℕ) → StoodAt xs xs count inserted count index
opened_none xs inserted count index = elim (cases_lt index count) [
  | inl first ↦ (index, inl (first, refl), refl)
  | inr past ↦ elim (cases_lt index (count + inserted)) [
    | inl inside ↦ (index, inr (inl (past, inside, past, inside)), refl)
    | inr last ↦ (index, inr (inr (inr (last, refl))), refl)
  ]
]

-- the list of one line more went on
pub opened_more : (before items next : List ℕ) (line inserted count : ℕ) → 0 < inserted → line < count
    → get_or next line 0 ≡ get_or items (line + inserted) 0 → get_or next (line + inserted) 0 ≡ get_or items line 0
    → ((k : ℕ) → k ≢ line → k ≢ line + inserted → get_or next k 0 ≡ get_or items k 0)
    → ((index : ℕ) → StoodAt before items (line + 1) inserted count index)
    → (index : ℕ) → StoodAt before next line inserted count index
opened_more before items next line inserted count some there left right others stood index =
    elim (cases_eq index line) [
      | inl here ↦
          let from = stood (line + inserted) in (
            from.0,
            inr (inl (omega arith, omega arith, omega (arith, from.1), omega (arith, from.1))),
            ap
                (λ k. get_or next k 0) here ∙ left ∙ from.2,
          )
      | inr differs ↦ elim (cases_eq index (line + inserted)) [
        | inl landed ↦
            let from = stood line in (
              from.0,
              inr (inr (inl (omega arith, omega arith, omega (arith, from.1)))),
              ap (λ k. get_or next k 0)
                  landed ∙ right ∙ from.2,
            )
        | inr elsewhere ↦
            let from = stood index in (
              from.0,
              elim from.1 [
                | inl first ↦ inl (omega arith, first.1)
                | inr later ↦ elim later [
                  | inl spare ↦ inr (inl (omega arith, omega arith, spare.2, spare.3))
                  | inr beyond ↦ elim beyond [
                    | inl went ↦ inr (inr (inl (omega arith, went.1, went.2)))
                    | inr stays ↦ inr (inr (inr stays))
                  ]
                ]
              ],
              others index differs elsewhere ∙ from.2,
            )
      ]
    ]

-- where a line goes, and what comes to a place
opened_before : (at n line : ℕ) → line < at → place_of (Insert at n) line ≡ Some line
opened_before at n line h = let is : start_opened at n line ≡ line = grind (arith, nat_tests) in ap Some is

opened_behind : (at n line : ℕ) → at ≤ line → place_of (Insert at n) line ≡ Some (line + n)
opened_behind at n line h = let is : start_opened at n line ≡ line + n = grind (arith, nat_tests) in ap Some is

module _ {E : Type 0} (before middle after : Lines E) (at n : ℕ) (are : AreLines middle)
    (same : AreSameLines before middle)
    (links : after.links ≡ middle.links) (count : after.count ≡ before.count + n)
    (long : length after.lists.items ≡ length middle.lists.items)
    (room : before.count + n ≤ length middle.lists.items) (inside : at ≤ before.count)
    (order : (index : ℕ) → index < length middle.lists.items
    → StoodAt middle.lists.items after.lists.items at n middle.count index) where
  pub lines_opened : IsPermutation middle.lists.items after.lists.items → AreLines after
  lines_opened numbers = record {
    count = omega (arith, count, long);
    most = omega (arith, are.most, long);
    each_list = subst (λ n. IsPermutation (range_with_len 0 n) after.lists.items) (sym (ap length links))
        (IsPermutation-trans (range_with_len 0 (length middle.links)) middle.lists.items after.lists.items
        are.each_list numbers);
    spare = λ index past less.
        let from = order index (omega (arith, long)) in
        let stays : from.0 ≡ index = omega (arith, from.1, count, same.count) in
        ap (λ all. entries_of all (list_of after index)) links
        ∙ ap (entries_of middle.links) (from.2 ∙ ap (list_of middle) stays)
        ∙ are.spare index (omega (arith, count, same.count)) (omega (arith, long));
  }

  before_at : (place : ℕ) → place < at → list_of after place ≡ list_of before place
  before_at place less =
      let from = order place (omega arith) in
      let stays : from.0 ≡ place = omega (arith, from.1, same.count) in
      from.2 ∙ ap (list_of middle) stays ∙ same.lists place (omega arith)

  behind_at : (line : ℕ) → at ≤ line → line < before.count → list_of after (line + n) ≡ list_of before line
  behind_at line past less =
      let from = order (line + n) (omega arith) in
      let came : from.0 ≡ line = omega (arith, from.1, same.count) in
      from.2 ∙ ap (list_of middle) came ∙ same.lists line less

  new_at : (place : ℕ) → at ≤ place → place < at + n → line_entries after place ≡ []
  new_at place past less =
      let from = order place (omega arith) in
      let spare : middle.count ≤ from.0 = omega (arith, from.1, same.count) in
      ap (λ all. entries_of all (list_of after place)) links ∙ ap (entries_of middle.links) from.2
      ∙ are.spare from.0 spare (omega (arith, from.1, same.count))

  pub moved_opened : AreMoved (Insert at n) before after
  moved_opened = record {
    count = count;
    going = λ line place there goes. elim (cases_lt line at) [
      | inl first ↦
          let is : place ≡ line = ap (λ o. unwrap_or o place) (sym goes ∙ opened_before at n line first) in
          ap (list_of after) is ∙ before_at line first
      | inr past ↦
          let is : place ≡ line + n = ap (λ o. unwrap_or o place) (sym goes ∙ opened_behind at n line past) in
          ap (list_of after) is ∙ behind_at line past there
    ];
    coming = λ place there. elim (cases_lt place at) [
      | inl first ↦ inl (record {
        line = place;
        there = omega arith;
        goes = opened_before at n place first;
        list_is = before_at place first;
      })
      | inr past ↦ elim (cases_lt place (at + n)) [
        | inl new ↦ inr (new_at place past new)
        | inr later ↦
            let here : place - n + n ≡ place = omega arith in
            inl (record {
              line = place - n;
              there = omega (arith, count);
              goes = opened_behind at n (place - n) (omega arith) ∙ ap Some here;
              list_is = ap (list_of after) (sym here) ∙ behind_at (place - n) (omega arith) (omega (arith, count));
            })
      ]
    ];
  }
