-- Lines after a change, where two parts of their lists changed places.
use Rattle.std.proofs.Common.{◌≡◌, ◌⊎◌, inl, inr, ℕ, ◌<◌, ◌≤◌, [], length, sym, ap, subst, ◌∙◌, arith}
use Rattle.std.specs.Prelude.{Some, slice_index}
use Rattle.std.specs.List.{range_with_len}
use Rattle.std.specs.List.Sorted.{IsPermutation}
use Rattle.std.proofs.lemmas.Bool.Decides.{nat_tests}
use Rattle.std.proofs.lemmas.List.Sorted.{IsPermutation-trans}
use Rattle.grid_range.specs.declared.change.Change.{Change}
use Rattle.grid_range.specs.declared.change.Change.TheVariants.{Delete, Move}
use Rattle.grid_range.specs.Change.{Fits, count_after}
use Rattle.grid_range.specs.Tracking.{place_of}
use Rattle.grid_range.specs.TrackingLaws.{PlacesStayApart, PlacesStayBelow}
use Rattle.cell_store.specs.Turning.{source}
use Rattle.cell_store.specs.TurningLaws.{source_last, source_within, goes_below, deleted_place, moved_back, moved_on}
use Rattle.link_store.specs.declared.lines.Lines.{Lines}
use Rattle.link_store.specs.Lists.{entries_of}
use Rattle.link_store.specs.Lines.{AreLines, AreMoved, line_entries, list_of}

-- what stands at each place after the change, by the parts that changed places
pub record Turns (change : Change) (count all start middle end : ℕ) (Gone : ℕ → Type 0) : Type 0 where
  pub fits : count_after change count ≤ all
  pub coming : (place : ℕ) → place < count_after change count
      → ((source start middle end place < count) × (place_of change (source start middle end place) ≡ Some place))
      ⊎ ((count ≤ source start middle end place) × (source start middle end place < all))
  pub going : (line place : ℕ) → line < count → place_of change line ≡ Some place
      → (place < all) × (source start middle end place ≡ line)
  pub spare : (index : ℕ) → count_after change count ≤ index → index < all
      → (source start middle end index < all) × ((count ≤ source start middle end index) ⊎ Gone
      (source start middle end index))

-- no line
abbrev pub Nothing : ℕ → Type 0
Nothing line = ⊥

pub turns_delete : PlacesStayApart → PlacesStayBelow → (start end count all : ℕ) → Fits (Delete start end) count
    → count ≤ all
    → Turns (Delete start end) count all start end count (λ line. (start ≤ line) × (line < end))
turns_delete apart below start end count all fits room = record {
  fits = omega arith;
  coming = λ p there. inl (grind (arith, nat_tests), deleted_place start end count p fits.0 fits.1 there);
  going = λ line p there goes.
      let less = goes_below below (Delete start end) count line p fits there goes in (
        omega arith,
        apart (Delete start end) count (source start end count p) line p fits (grind (arith, nat_tests)) there
            (deleted_place start end count p fits.0 fits.1 less) goes,
      );
  spare = λ i past inside. grind (arith, nat_tests);
}

pub turns_back : PlacesStayApart → PlacesStayBelow → (start end to count all : ℕ) → Fits (Move start end to) count
    → to < start → count ≤ all
    → Turns (Move start end to) count all to start end Nothing
turns_back apart below start end to count all fits order room =
    let back : (p : ℕ) → place_of (Move start end to) (source to start end p) ≡ Some p = λ p. ap Some
    (moved_back start end to p fits.0 order) in
    record {
      fits = room;
      coming = λ p there. inl (source_within to start end p count (omega arith) (omega arith) fits.1 there, back p);
      going = λ line p there goes.
          let less = goes_below below (Move start end to) count line p fits there goes in (
            omega arith,
            apart (Move start end to) count (source to start end p) line p fits
                (source_within to start end p count (omega arith) (omega arith) fits.1 less) there (back p) goes,
          );
      spare = λ i past inside.
          let same = source_last to start end i (omega arith) (omega arith) (omega arith) in
          (omega arith, inl (omega arith));
    }

pub turns_on : PlacesStayApart → PlacesStayBelow → (start end to count all : ℕ) → Fits (Move start end to) count
    → end < to → count ≤ all
    → Turns (Move start end to) count all start end to Nothing
turns_on apart below start end to count all fits order room =
    let back : (p : ℕ) → place_of (Move start end to) (source start end to p) ≡ Some p = λ p. ap Some
    (moved_on start end to p fits.0 order) in
    record {
      fits = room;
      coming = λ p there. inl (source_within start end to p count (omega arith) (omega arith) fits.2 there, back p);
      going = λ line p there goes.
          let less = goes_below below (Move start end to) count line p fits there goes in (
            omega arith,
            apart (Move start end to) count (source start end to p) line p fits
                (source_within start end to p count (omega arith) (omega arith) fits.2 less) there (back p) goes,
          );
      spare = λ i past inside.
          let same = source_last start end to i (omega arith) (omega arith) (omega arith) in
          (omega arith, inl (omega arith));
    }

module _ {E : Type 0} where
  -- the lists of two parts changed places, and those of the second are of no line from now on
  pub record IsTurned (before after : Lines E) (start middle end : ℕ) : Type 0 where
    pub links : after.links ≡ before.links
    pub long : length after.lists.items ≡ length before.lists.items
    pub numbers : IsPermutation before.lists.items after.lists.items
    pub order : (index : ℕ) → index < length before.lists.items
        → slice_index after.lists.items index ≡ slice_index before.lists.items (source start middle end index)

  module _ (change : Change) (before after : Lines E) (start middle end : ℕ) (Gone : ℕ → Type 0) (are : AreLines before)
      (turns : Turns change before.count (length before.lists.items) start middle end Gone)
      (is : IsTurned before after start middle end)
      (count : after.count ≡ count_after change before.count) where
    pub lines_turned : ((line : ℕ) → Gone line → line_entries before line ≡ []) → AreLines after
    lines_turned empty = record {
      count = omega (arith, turns.fits, count, is.long);
      most = omega (arith, are.most, is.long);
      each_list = subst (λ n. IsPermutation (range_with_len 0 n) after.lists.items) (sym (ap length is.links))
          (IsPermutation-trans (range_with_len 0 (length before.links)) before.lists.items after.lists.items
          are.each_list is.numbers);
      spare = λ index past inside.
          let old : index < length before.lists.items = omega (arith, is.long) in
          let stood = turns.spare index (omega (arith, count)) old in
          ap (λ all. entries_of all (list_of after index)) is.links ∙ ap (entries_of before.links) (is.order index old)
          ∙ elim stood.1 [
            | inl spare ↦ are.spare (source start middle end index) spare stood.0
            | inr gone ↦ empty (source start middle end index) gone
          ];
    }

    pub moved_turned : AreMoved change before after
    moved_turned = record {
      count = count;
      going = λ line place there goes.
          let stood = turns.going line place there goes in
          is.order place stood.0 ∙ ap (list_of before) stood.1;
      coming = λ place there.
          let inside : place < count_after change before.count = omega (arith, count) in
          let at = is.order place (omega (arith, turns.fits)) in
          elim (turns.coming place inside) [
            | inl stayed ↦ inl (record {
              line = source start middle end place;
              there = stayed.0;
              goes = stayed.1;
              list_is = at;
            })
            | inr spare ↦ inr (ap (λ all. entries_of all (list_of after place)) is.links
                ∙ ap (entries_of before.links) at
                ∙ are.spare (source start middle end place) spare.0 spare.1)
          ];
    }
