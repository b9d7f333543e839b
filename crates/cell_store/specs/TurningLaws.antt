-- Laws of lists in which two parts changed places.
use Rattle.std.proofs.Common.{◌≡◌, inl, inr, ℕ, ◌+◌, ◌-◌, ◌<◌, ◌≤◌, nat_lt, cond, subst, arith}
use Rattle.std.specs.Prelude.{Some, None, IfSome}
use Rattle.std.specs.Option.{option_map}
use Rattle.std.proofs.lemmas.Bool.{cases_lt}
use Rattle.std.proofs.lemmas.Bool.Decides.{nat_tests}
use Rattle.grid_range.specs.declared.change.Change.{Change}
use Rattle.grid_range.specs.declared.change.Change.TheVariants.{Delete}
use Rattle.grid_range.specs.Change.{Fits, count_after}
use Rattle.grid_range.specs.Tracking.{place_of, closed_up, span_moved}
use Rattle.grid_range.specs.TrackingLaws.{PlacesStayBelow}
use Rattle.cell_store.specs.Turning.{source}

-- where an index past the start, and past both parts, stood
pub source_first : (start middle end i : ℕ) → i < start → source start middle end i ≡ i
source_first start middle end i h = grind (arith, nat_tests)

pub source_second : (start middle end i : ℕ) → start ≤ i → i < start + (end - middle)
    → source start middle end i ≡ i + (middle - start)
source_second start middle end i l h = grind (arith, nat_tests)

pub source_third : (start middle end i : ℕ) → start ≤ middle → middle ≤ end → start + (end - middle) ≤ i → i < end
    → source start middle end i ≡ i - (end - middle)
source_third start middle end i s m l h = grind (arith, nat_tests)

pub source_last : (start middle end i : ℕ) → start ≤ middle → middle ≤ end → end ≤ i → source start middle end i ≡ i
source_last start middle end i s m l = grind (arith, nat_tests)

pub source_within : (start middle end i all : ℕ) → start ≤ middle → middle ≤ end → end ≤ all → i < all
    → source start middle end i < all
source_within start middle end i all s m l h = elim (cases_lt i start) [
  | inl first ↦ omega (arith, source_first start middle end i first)
  | inr past ↦ elim (cases_lt i end) [
    | inr last ↦ omega (arith, source_last start middle end i s m last)
    | inl inside ↦ elim (cases_lt i (start + (end - middle))) [
      | inl second ↦ omega (arith, source_second start middle end i past second)
      | inr third ↦ omega (arith, source_third start middle end i s m third inside)
    ]
  ]
]

-- where a line goes is below the number of lines
pub goes_below : PlacesStayBelow → (change : Change) (count line place : ℕ) → Fits change count → line < count
    → place_of change line ≡ Some place
    → place < count_after change count
goes_below below change count line place fits there goes =
    subst (λ o. IfSome o (λ p. p < count_after change count)) goes (below change count line fits there)

-- where a span that has a line begins
pub chosen : (a b p : ℕ) → a < b → a ≡ p
    → option_map (λ (s : ℕ × ℕ). s.0) (cond (nat_lt a b) (Some (a, b)) None) ≡ Some p
chosen a b p less is = grind (arith, nat_tests)

-- the line at a place once lines were deleted, or moved before others, or behind them
pub deleted_place : (start end count p : ℕ) → start < end → end ≤ count → p < count - (end - start)
    → place_of (Delete start end) (source start end count p) ≡ Some p
deleted_place start end count p some order there =
    chosen (closed_up start end (source start end count p)) (closed_up start end (source start end count p + 1)) p
    (grind (arith, nat_tests)) (grind (arith, nat_tests))

pub moved_back : (start end to p : ℕ) → start < end → to < start
    → (span_moved (source to start end p) (source to start end p + 1) start end to).0 ≡ p
moved_back start end to p some order = grind (arith, nat_tests)

pub moved_on : (start end to p : ℕ) → start < end → end < to
    → (span_moved (source start end to p) (source start end to p + 1) start end to).0 ≡ p
moved_on start end to p some order = grind (arith, nat_tests)
