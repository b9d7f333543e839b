-- The lines after a change, where two parts of their numbers changed places.
use Rattle.std.proofs.Common.{◌≡◌, ◌⊎◌, inl, inr, ℕ, ◌+◌, ◌<◌, ◌≤◌, List, length, sym, ap, subst, ◌∙◌, arith}
use Rattle.std.proofs.Common.{get_or}
use Rattle.std.specs.Prelude.{Some}
use Rattle.std.proofs.lemmas.Bool.{cases_lt}
use Rattle.std.proofs.lemmas.Bool.Decides.{nat_tests}
use Rattle.grid_range.specs.declared.change.Change.{Change}
use Rattle.grid_range.specs.declared.change.Change.TheVariants.{Insert, Delete, Move}
use Rattle.grid_range.specs.Change.{Fits, count_after}
use Rattle.grid_range.specs.Tracking.{place_of, span_moved, start_opened}
use Rattle.grid_range.specs.TrackingLaws.{PlacesStayApart, PlacesStayBelow}
use Rattle.cell_store.specs.Turning.{source}
use Rattle.cell_store.specs.TurningLaws.{source_within, goes_below, deleted_place, moved_back, moved_on}
use Rattle.shared_grid.specs.Orders.{LineOrder}
use Rattle.shared_grid.specs.Orders.{AreMoved, AreNumbers, IsOrder, number_of, parts_of}

-- what stands at each place after the change, by the parts that changed places
pub record Turns (change : Change) (count start middle end : ℕ) : Type 0 where
  pub order : (start ≤ middle) × (middle ≤ end)
  pub within : (all : ℕ) → count ≤ all → count_after change count ≤ all → end ≤ all
  pub coming : (place : ℕ) → place < count_after change count
      → ((source start middle end place < count) × (place_of change (source start middle end place) ≡ Some place))
      ⊎ (count ≤ source start middle end place)
  pub going : (line place : ℕ) → line < count → place_of change line ≡ Some place
      → (place < count_after change count) × (source start middle end place ≡ line)

unmoved : (start end to p : ℕ) → start ≤ to → to ≤ end → (span_moved p (p + 1) start end to).0 ≡ p
unmoved start end to p low high = grind (arith, nat_tests)

same_source : (p : ℕ) → source 0 0 0 p ≡ p
same_source p = grind (arith, nat_tests)

inserted_before : (at inserted count p : ℕ) → at ≤ count → p < at
    → start_opened at inserted (source at count (count + inserted) p) ≡ p
inserted_before at inserted count p order before = grind (arith, nat_tests)

inserted_behind : (at inserted count p : ℕ) → at ≤ count → at + inserted ≤ p → p < count + inserted
    → start_opened at inserted (source at count (count + inserted) p) ≡ p
inserted_behind at inserted count p order behind there = grind (arith, nat_tests)

fresh : (at inserted count p : ℕ) → at ≤ count → at ≤ p → p < at + inserted
    → count ≤ source at count (count + inserted) p
fresh at inserted count p order low high = grind (arith, nat_tests)

old_source : (at inserted count p : ℕ) → at ≤ count → (p < at) ⊎ (at + inserted ≤ p) → p < count + inserted
    → source at count (count + inserted) p < count
old_source at inserted count p order (inl before) there = grind (arith, nat_tests)
old_source at inserted count p order (inr behind) there = grind (arith, nat_tests)

inserted_line : (at inserted count line : ℕ) → at ≤ count → line < count
    → source at count (count + inserted) (start_opened at inserted line) ≡ line
inserted_line at inserted count line order there = grind (arith, nat_tests)

module _ (apart : PlacesStayApart) (below : PlacesStayBelow) where
  turns_insert : (at inserted count : ℕ) → Fits (Insert at inserted) count
      → Turns (Insert at inserted) count at count (count + inserted)
  turns_insert at inserted count fits = record {
    order = (fits.0, omega arith);
    within = λ all _ room. room;
    coming = λ p there. elim (cases_lt p at) [
      | inl before ↦ inl (
        old_source at inserted count p fits.0 (inl before) there,
        ap Some (inserted_before at inserted count p fits.0 before),
      )
      | inr past ↦ elim (cases_lt p (at + inserted)) [
        | inl less ↦ inr (fresh at inserted count p fits.0 past less)
        | inr behind ↦ inl (
          old_source at inserted count p fits.0 (inr behind) there,
          ap Some (inserted_behind at inserted count p fits.0 behind there),
        )
      ]
    ];
    going = λ line place there goes.
        let is : start_opened at inserted line ≡ place = cc in (
          goes_below below (Insert at inserted) count line place fits there goes,
          ap (source at count (count + inserted)) (sym is) ∙ inserted_line at inserted count line fits.0 there,
        );
  }

  -- where each place has a line that goes there
  turns_old : (change : Change) (count start middle end : ℕ) → Fits change count → start ≤ middle → middle ≤ end
      → end ≤ count
      → ((p : ℕ) → p < count_after change count
      → (source start middle end p < count) × (place_of change (source start middle end p) ≡ Some p))
      → Turns change count start middle end
  turns_old change count start middle end fits one two last came = record {
    order = (one, two);
    within = λ all room _. omega arith;
    coming = λ p there. inl (came p there);
    going = λ line place there goes.
        let less = goes_below below change count line place fits there goes in (
          less,
          apart change count (source start middle end place) line place fits (came place less).0 there
              (came place less).1 goes,
        );
  }

  turns_move : (start end to count : ℕ) → Fits (Move start end to) count
      → (parts : ℕ × ℕ × ℕ) → parts ≡ parts_of (Move start end to) count
      → Turns (Move start end to) count parts.0 parts.1 parts.2
  turns_move start end to count fits parts is = elim (cases_lt to start) [
    | inl back ↦
        let parts_are : parts ≡ (to, start, end) = is ∙ grind (arith, nat_tests) in
        subst (λ (p : ℕ × ℕ × ℕ). Turns (Move start end to) count p.0 p.1 p.2) (sym parts_are)
        (turns_old (Move start end to) count to start end fits (omega arith) (omega arith) fits.1 (λ p there. (
          source_within to start end p count (omega arith) (omega arith) fits.1 there,
          ap Some (moved_back start end to p fits.0 back),
        )))
    | inr low ↦ elim (cases_lt end to) [
      | inl on ↦
          let parts_are : parts ≡ (start, end, to) = is ∙ grind (arith, nat_tests) in
          subst (λ (p : ℕ × ℕ × ℕ). Turns (Move start end to) count p.0 p.1 p.2) (sym parts_are)
          (turns_old (Move start end to) count start end to fits (omega arith) (omega arith) fits.2 (λ p there. (
            source_within start end to p count (omega arith) (omega arith) fits.2 there,
            ap Some (moved_on start end to p fits.0 on),
          )))
      | inr high ↦
          let parts_are : parts ≡ (0, 0, 0) = is ∙ grind (arith, nat_tests) in
          subst (λ (p : ℕ × ℕ × ℕ). Turns (Move start end to) count p.0 p.1 p.2) (sym parts_are)
          (turns_old (Move start end to) count 0 0 0 fits (omega arith) (omega arith) (omega arith) (λ p there. (
            omega (arith, same_source p),
            ap (place_of (Move start end to)) (same_source p) ∙ ap Some (unmoved start end to p low high),
          )))
    ]
  ]

  pub turns : (change : Change) (count : ℕ) → Fits change count
      → (parts : ℕ × ℕ × ℕ) → parts ≡ parts_of change count
      → Turns change count parts.0 parts.1 parts.2
  turns (Insert at inserted) count fits parts is =
      subst (λ (p : ℕ × ℕ × ℕ). Turns (Insert at inserted) count p.0 p.1 p.2) (sym is)
      (turns_insert at inserted count fits)
  turns (Delete start end) count fits parts is =
      subst (λ (p : ℕ × ℕ × ℕ). Turns (Delete start end) count p.0 p.1 p.2) (sym is)
      (turns_old (Delete start end) count start end count fits (omega arith) fits.1 (omega arith) (λ p there. (
        source_within start end count p count (omega arith) fits.1 (omega arith) (omega arith),
        deleted_place start end count p fits.0 fits.1 there,
      )))
  turns (Move start end to) count fits parts is = turns_move start end to count fits parts is

-- the lines with these numbers, of which those of the first part and of the second changed places
module _ (change : Change) (before after : LineOrder) (numbers : List ℕ) (start middle end : ℕ)
    (are : AreNumbers numbers)
    (is : IsOrder before) (turned : Turns change before.count start middle end)
    (long : length before.numbers ≤ length numbers)
    (first : (index : ℕ) → index < length before.numbers → get_or numbers index 0 ≡ number_of before index)
    (room : count_after change before.count ≤ length numbers)
    (count : after.count ≡ count_after change before.count)
    (order : (index : ℕ) → index < length numbers
    → number_of after index ≡ get_or numbers (source start middle end index) 0) where
  pub are_moved : AreMoved change before after
  are_moved = record {
    count = count;
    going = λ line place there goes.
        let stood = turned.going line place there goes in
        order place (omega arith)
        ∙ ap (λ i. get_or numbers i 0) stood.1
        ∙ first line (omega (arith, is.count));
    coming = λ place there.
        let inside : place < count_after change before.count = omega (arith, count) in
        let at : place < length numbers = omega arith in
        elim (turned.coming place inside) [
          | inl stayed ↦ inl (record {
            line = source start middle end place;
            there = stayed.0;
            goes = stayed.1;
            number_is = order place at ∙ first (source start middle end place) (omega (arith, stayed.0, is.count));
          })
          | inr spare ↦ inr (λ line less same.
              let stood : source start middle end place < length numbers =
              source_within start middle end place (length numbers) turned.order.0 turned.order.1
              (turned.within (length numbers) (omega (arith, is.count)) room) at in
              let one : line ≡ source start middle end place =
              are.apart line (source start middle end place) (omega (arith, is.count)) stood
              (first line (omega (arith, is.count)) ∙ same ∙ order place at) in
              omega arith)
        ];
  }
