-- Which rows of a sheet hold something, from the places that are listed.
use Rattle.std.proofs.Common.{◌≡◌, ℕ, ◌+◌, ◌-◌, ◌<◌, ◌≤◌, ◌⊎◌, inl, inr, List, length, arith}
use Rattle.std.specs.Prelude.{Some, slice_get}
use Rattle.cell_store.specs.Places.{AreFilledPlaces}
use Rattle.cell_store.specs.Table.{Table}
use Rattle.grid_range.specs.declared.band.Band.TheVariants.{Whole, Span}
use Rattle.values_api.specs.Rows.{IsLastRow, IsRowBehind}
use Rattle.values_api.specs.Tables.{IsStored}
use Rattle.values_api.proofs.Stored.{is_last}

below_or : (low high : ℕ) → (low < high) ⊎ (high ≤ low)
below_or low high = grind arith

module _ {T : Type 0} (sheet first end : ℕ) (table : Table T) (places : List (ℕ × ℕ))
    (are : AreFilledPlaces (record { sheet = sheet; rows = Span first end; cols = Whole }) table places) where
  -- the row of the last place that is listed
  pub last_listed : (place : ℕ × ℕ) → slice_get places (length places - 1) ≡ Some place → IsLastRow table end place.0
  last_listed place is =
      let last = is_last (record { sheet = sheet; rows = Span first end; cols = Whole }) table places are place is in
      record {
        holds = record { col = place.1; stored = last.stored };
        there = last.held.0.1;
        last = λ r c stored before. elim (below_or r first) [
          | inl lt ↦ let from = last.held.0.0 in omega (arith, lt, from)
          | inr from ↦ elim (last.last r c ((from, before), tt) stored) [
            | inl lt ↦ omega (arith, lt)
            | inr same ↦ omega (arith, same.0)
          ]
        ];
      }

-- ---- the row behind the last one

pub behind_last : {T : Type 0} (table : Table T) (end row : ℕ) → ((r c : ℕ) → IsStored table r c → r < end)
    → IsLastRow table end row → IsRowBehind table (row + 1)
behind_last table end row before is = record {
  behind = λ r c stored. let le = is.last r c stored (before r c stored) in omega (arith, le);
  least = λ other behind. let lt = behind row is.holds.col is.holds.stored in omega (arith, lt);
}
