-- What a write did can be told: the rows and the columns of cells that have a value, and how many cells that are. It
-- can't be that there is nothing to be told.
use Rattle.std.proofs.Common.{ℕ, ◌<◌, List, length, refl, arith}
use Rattle.std.specs.Prelude.{◌≢◌, Option}
use Rattle.std.specs.List.{range_with_len}
use Rattle.std.specs.Option.{IsSome}
use Rattle.cell_value.specs.declared.cell.Block.{Block}
use Rattle.cell_value.specs.declared.entered.Input.{Input}
use Rattle.grid_range.specs.declared.area.Area.{Area}
use Rattle.values_api.specs.AllPlaces.{all_places, places_have}
use Rattle.values_api.specs.Blocks.{AreCells, AreLines, IsWritten, area_written}
use Rattle.values_api.specs.declared.writing.WrittenCells.{WrittenCells}
use Rattle.answered_calls.proofs.Picked.{ArePicked, pairs_in_order, places_apart, range_has, range_in_order, some_picked}

abbrev IsBelow : ℕ → ℕ → Type 0
IsBelow one other = one < other

abbrev AreApart : ℕ × ℕ → ℕ × ℕ → Type 0
AreApart one other = one ≢ other

lines_are : (IsLine : ℕ → Type 0) (count : ℕ) → ((line : ℕ) → IsLine line → line < count) → (lines : List ℕ)
    → ArePicked IsBelow IsLine (range_with_len 0 count) lines → AreLines IsLine lines
lines_are IsLine count below lines picked = record {
  in_order = pairs_in_order IsBelow lines picked.in_order;
  exactly = λ line. (
    λ has. ((picked.exactly line).0 has).1,
    λ is. let there = below line is in
        (picked.exactly line).1 (range_has 0 count line (omega arith) (omega (arith, there)), is),
  );
}

module _ (area : Area) (block : Block) (values : ℕ → ℕ → Option Input) (rows cols : ℕ)
    (within : (row col : ℕ) → IsSome (values row col) → (row < rows) × (col < cols)) where
  -- a row, a column and a cell that have a value
  abbrev HasRow : ℕ → Type 0
  HasRow row = (col : ℕ) × IsSome (values row col)

  abbrev HasColumn : ℕ → Type 0
  HasColumn col = (row : ℕ) × IsSome (values row col)

  abbrev HasCell : ℕ × ℕ → Type 0
  HasCell place = IsSome (values place.0 place.1)

  cells_are : (cells : List (ℕ × ℕ)) → ArePicked AreApart HasCell (all_places rows cols) cells → AreCells values cells
  cells_are cells picked = record {
    exactly = λ row col. (
      λ has. ((picked.exactly (row, col)).0 has).1,
      λ some. let (there, beyond) = within row col some in
          (picked.exactly (row, col)).1 (places_have rows cols row col there beyond, some),
    );
    once = pairs_in_order AreApart cells picked.in_order;
  }

  pub some_counts : ¬ ((counts : WrittenCells) → ¬ (IsWritten area block values counts))
  some_counts none =
      some_picked IsBelow HasRow (range_with_len 0 rows) (range_in_order 0 rows) (λ with_row rows_picked.
      some_picked IsBelow HasColumn (range_with_len 0 cols) (range_in_order 0 cols) (λ with_col cols_picked.
      some_picked AreApart HasCell (all_places rows cols) (places_apart rows cols) (λ cells picked.
      none (record { area = area_written area block; rows = with_row; cols = with_col; cells = length cells }) (record {
        area_is = refl;
        rows_are = lines_are HasRow rows (λ row has. (within row has.0 has.1).0) with_row rows_picked;
        cols_are = lines_are HasColumn cols (λ col has. (within has.0 col has.1).1) with_col cols_picked;
        cells_are = record { cells = cells; are = cells_are cells picked; many = refl };
      }))))
