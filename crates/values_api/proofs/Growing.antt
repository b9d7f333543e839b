-- A rectangle that grows by a line beside it.
use Rattle.std.proofs.Common.{◌≡◌, ℕ, ◌+◌, ◌-◌, ◌<◌, ◌≤◌, ◌⊎◌, inl, inr, arith, refl, subst, true, false}
use Rattle.std.specs.Prelude.{Contains, nat_lt}
use Rattle.std.proofs.lemmas.Bool.{ltb-true, ltb-false}
use Rattle.values_api.specs.declared.table.Rectangle.{Rectangle}
use Rattle.values_api.specs.declared.table.Stored.{Stored}
use Rattle.values_api.specs.Tables.{AreStored, HasBefore, HasCells, HasNear, IsClosed, IsGrown, IsIn, IsLeast, IsListed, LiesWithin}
use Rattle.cell_store.specs.Table.{most_lines}

module _ (stored : Stored) (are : AreStored stored) (rectangle : Rectangle) (cells : HasCells rectangle) where
  pub grown_up : HasBefore stored.by_rows rectangle.top rectangle.left rectangle.right
      → IsGrown stored rectangle (record rectangle { top = rectangle.top - 1 })
  grown_up before = record {
    has_cells = record { rows = omega arith; cols = omega arith };
    fewer = omega arith;
    holds = record { top = omega arith; bottom = omega arith; left = omega arith; right = omega arith };
    least = λ other within closed.
        let there = closed before.before before.near.at before.near.has
        (record { top = omega arith; bottom = omega arith; left = omega arith; right = omega arith }) in
        record { top = omega arith; bottom = omega arith; left = omega arith; right = omega arith };
  }

  pub grown_down : HasNear stored.by_rows rectangle.bottom rectangle.left rectangle.right
      → IsGrown stored rectangle (record rectangle { bottom = rectangle.bottom + 1 })
  grown_down near =
      let here : rectangle.bottom < stored.rows = are.rows rectangle.bottom near.at near.has in
      record {
        has_cells = record { rows = omega arith; cols = omega arith };
        fewer = omega arith;
        holds = record { top = omega arith; bottom = omega arith; left = omega arith; right = omega arith };
        least = λ other within closed.
            let there = closed rectangle.bottom near.at near.has
            (record { top = omega arith; bottom = omega arith; left = omega arith; right = omega arith }) in
            record { top = omega arith; bottom = omega arith; left = omega arith; right = omega arith };
      }

  pub grown_left : HasBefore stored.by_cols rectangle.left rectangle.top rectangle.bottom
      → IsGrown stored rectangle (record rectangle { left = rectangle.left - 1 })
  grown_left before = record {
    has_cells = record { rows = omega arith; cols = omega arith };
    fewer = omega arith;
    holds = record { top = omega arith; bottom = omega arith; left = omega arith; right = omega arith };
    least = λ other within closed.
        let there = closed before.near.at before.before ((are.same before.near.at before.before).1 before.near.has)
        (record { top = omega arith; bottom = omega arith; left = omega arith; right = omega arith }) in
        record { top = omega arith; bottom = omega arith; left = omega arith; right = omega arith };
  }

  pub grown_right : HasNear stored.by_cols rectangle.right rectangle.top rectangle.bottom
      → IsGrown stored rectangle (record rectangle { right = rectangle.right + 1 })
  grown_right near =
      let has = (are.same near.at rectangle.right).1 near.has in
      let here : rectangle.right < stored.cols = are.cols near.at rectangle.right has in
      record {
        has_cells = record { rows = omega arith; cols = omega arith };
        fewer = omega arith;
        holds = record { top = omega arith; bottom = omega arith; left = omega arith; right = omega arith };
        least = λ other within closed.
            let there = closed near.at rectangle.right has
            (record { top = omega arith; bottom = omega arith; left = omega arith; right = omega arith }) in
            record { top = omega arith; bottom = omega arith; left = omega arith; right = omega arith };
      }

  pub row_fits : HasNear stored.by_rows rectangle.bottom rectangle.left rectangle.right → rectangle.bottom < stored.rows
  row_fits near = are.rows rectangle.bottom near.at near.has

  pub col_fits : HasNear stored.by_cols rectangle.right rectangle.top rectangle.bottom → rectangle.right < stored.cols
  col_fits near = are.cols near.at rectangle.right ((are.same near.at rectangle.right).1 near.has)

  -- one number is below another, or not
  side : (one other : ℕ) → (one < other) ⊎ (other ≤ one)
  side one other = elim (nat_lt one other) as (λ b. nat_lt one other ≡ b → (one < other) ⊎ (other ≤ one)) [
    | true ↦ λ is. inl (ltb-true one other is)
    | false ↦ λ is. inr (ltb-false one other is)
  ] refl

  pub none_beside : ¬ (HasBefore stored.by_rows rectangle.top rectangle.left rectangle.right)
      → ¬ (HasNear stored.by_rows rectangle.bottom rectangle.left rectangle.right)
      → ¬ (HasBefore stored.by_cols rectangle.left rectangle.top rectangle.bottom)
      → ¬ (HasNear stored.by_cols rectangle.right rectangle.top rectangle.bottom)
      → IsClosed (IsListed stored) rectangle
  none_beside above below before behind row col has near = record {
    top = elim (side row rectangle.top) [
      | inl out ↦ absurd (above (record {
        before = row;
        next = omega arith;
        near = record { at = col; from_there = near.left; to_there = near.right; has = has };
      }))
      | inr there ↦ there
    ];
    bottom = elim (side row rectangle.bottom) [
      | inl there ↦ there
      | inr out ↦
          let same : row ≡ rectangle.bottom = omega arith in
          absurd (below (record {
            at = col;
            from_there = near.left;
            to_there = near.right;
            has = subst (λ r. Contains stored.by_rows (r, col)) same has;
          }))
    ];
    left = elim (side col rectangle.left) [
      | inl out ↦ absurd (before (record {
        before = col;
        next = omega arith;
        near = record { at = row; from_there = near.top; to_there = near.bottom; has = (are.same row col).0 has };
      }))
      | inr there ↦ there
    ];
    right = elim (side col rectangle.right) [
      | inl there ↦ there
      | inr out ↦
          let same : col ≡ rectangle.right = omega arith in
          absurd (behind (record {
            at = row;
            from_there = near.top;
            to_there = near.bottom;
            has = subst (λ c. Contains stored.by_cols (c, row)) same ((are.same row col).0 has);
          }))
    ];
  }

-- ---- from a cell to its table

-- a stored cell's lines have a line behind them that a number can be
pub record IsCellFew (row col : ℕ) : Type 0 where
  pub row_few : row < most_lines
  pub col_few : col < most_lines

pub cell_few : (stored : Stored) → AreStored stored → (row col : ℕ) → IsListed stored row col → IsCellFew row col
cell_few stored are row col has =
    let there = are.rows row col has in
    let there' = are.cols row col has in
    record { row_few = omega arith; col_few = omega arith }

pub one_cell : (stored : Stored) (row col : ℕ)
    → let cell : Rectangle = record { top = row; bottom = row + 1; left = col; right = col + 1 } in
    IsIn cell row col × IsLeast (IsListed stored) row col cell
one_cell stored row col = (
  record { top = omega arith; bottom = omega arith; left = omega arith; right = omega arith },
  (λ other has closed. record { top = has.top; bottom = omega arith; left = has.left; right = omega arith }),
)

pub has_cells_of : (rectangle : Rectangle) (row col : ℕ) → IsIn rectangle row col → HasCells rectangle
has_cells_of rectangle row col has = record { rows = omega arith; cols = omega arith }

pub still_in : (one other : Rectangle) (row col : ℕ) → LiesWithin one other → IsIn one row col → IsIn other row col
still_in one other row col within has =
    record { top = omega arith; bottom = omega arith; left = omega arith; right = omega arith }

pub still_least : (stored : Stored) (one grown : Rectangle) (row col : ℕ) → IsGrown stored one grown
    → IsLeast (IsListed stored) row col one → IsLeast (IsListed stored) row col grown
still_least stored one grown row col is least other has closed = is.least other (least other has closed) closed
