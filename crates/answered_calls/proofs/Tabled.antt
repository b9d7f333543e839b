-- The table that an area is in can be told: the least rectangle around its last cell that no cell is beside.
use Rattle.std.proofs.Common.{ℕ, zero, suc, ◌+◌, ◌-◌, ◌<◌, ◌≤◌, max, min, inl, inr, subst, arith}
use Rattle.std.specs.Prelude.{Option, None, Some}
use Rattle.std.proofs.lemmas.Bool.{cases_eq, cases_lt}
use Rattle.grid_range.specs.Area.{Holds}
use Rattle.grid_range.specs.declared.area.Area.{Area}
use Rattle.cell_store.specs.Table.{HasItemsInside, Table}
use Rattle.values_api.specs.Tables.{IsClosed, IsIn, IsNear, IsStored, IsTable, IsTableIn, LiesWithin}
use Rattle.values_api.specs.declared.table.Rectangle.{Rectangle}

-- ---- the least rectangle

-- the cells that both have
abbrev shared : Rectangle → Rectangle → Rectangle
shared one other = record {
  top = max one.top other.top;
  bottom = min one.bottom other.bottom;
  left = max one.left other.left;
  right = min one.right other.right;
}

both_in : (one other : Rectangle) (row col : ℕ) → IsIn one row col → IsIn other row col
    → IsIn (shared one other) row col
both_in one other row col is is' = record {
  top = let a = is.top in let b = is'.top in omega (arith, a, b);
  bottom = let a = is.bottom in let b = is'.bottom in omega (arith, a, b);
  left = let a = is.left in let b = is'.left in omega (arith, a, b);
  right = let a = is.right in let b = is'.right in omega (arith, a, b);
}

near_one : (one other : Rectangle) (row col : ℕ) → IsNear (shared one other) row col → IsNear one row col
near_one one other row col near = record {
  top = let a = near.top in omega (arith, a);
  bottom = let a = near.bottom in omega (arith, a);
  left = let a = near.left in omega (arith, a);
  right = let a = near.right in omega (arith, a);
}

near_other : (one other : Rectangle) (row col : ℕ) → IsNear (shared one other) row col → IsNear other row col
near_other one other row col near = record {
  top = let a = near.top in omega (arith, a);
  bottom = let a = near.bottom in omega (arith, a);
  left = let a = near.left in omega (arith, a);
  right = let a = near.right in omega (arith, a);
}

-- how many lines it has, rows and columns
abbrev lines : Rectangle → ℕ
lines one = one.bottom - one.top + (one.right - one.left)

-- one that doesn't lie in the other has more lines than they share
within_or_fewer : (one other : Rectangle) (row col most : ℕ) → IsIn one row col → IsIn other row col
    → lines one ≤ suc most → ¬ (lines (shared one other) ≤ most) → LiesWithin one other
within_or_fewer one other row col most is is' few not_fewer = record {
  top = elim (cases_lt one.top other.top) [
    | inl apart ↦ absurd (not_fewer (omega (arith, few, apart, a, b, c, d, a', b', c', d')))
    | inr within ↦ within
  ];
  bottom = elim (cases_lt other.bottom one.bottom) [
    | inl apart ↦ absurd (not_fewer (omega (arith, few, apart, a, b, c, d, a', b', c', d')))
    | inr within ↦ within
  ];
  left = elim (cases_lt one.left other.left) [
    | inl apart ↦ absurd (not_fewer (omega (arith, few, apart, a, b, c, d, a', b', c', d')))
    | inr within ↦ within
  ];
  right = elim (cases_lt other.right one.right) [
    | inl apart ↦ absurd (not_fewer (omega (arith, few, apart, a, b, c, d, a', b', c', d')))
    | inr within ↦ within
  ];
}
  where
    a : one.top ≤ row
    a = is.top

    b : row < one.bottom
    b = is.bottom

    c : one.left ≤ col
    c = is.left

    d : col < one.right
    d = is.right

    a' : other.top ≤ row
    a' = is'.top

    b' : row < other.bottom
    b' = is'.bottom

    c' : other.left ≤ col
    c' = is'.left

    d' : col < other.right
    d' = is'.right

module _ (IsFilled : ℕ → ℕ → Type 0) where
  both_closed : (one other : Rectangle) → IsClosed IsFilled one → IsClosed IsFilled other
      → IsClosed IsFilled (shared one other)
  both_closed one other closed closed' row col filled near =
      both_in one other row col (closed row col filled (near_one one other row col near))
      (closed' row col filled (near_other one other row col near))

  module _ (row col : ℕ) (none : (found : Rectangle) → ¬ (IsTable IsFilled row col found)) where
    -- no rectangle around the cell is closed, however few lines it has
    none_closed : (most : ℕ) (one : Rectangle) → IsIn one row col → lines one ≤ most → ¬ (IsClosed IsFilled one)
    none_closed zero one is few closed =
        let top = is.top in
        let bottom = is.bottom in
        let no : ⊥ = omega (arith, few, top, bottom) in no
    none_closed (suc most) one is few closed = none one (record {
      has_cell = is;
      closed = closed;
      least = λ other is' closed'. within_or_fewer one other row col most is is' few (λ fewer.
          none_closed most (shared one other) (both_in one other row col is is') fewer
          (both_closed one other closed closed'));
    })

  -- around a cell there is a table, where all that is filled is in so many rows and columns
  pub some_around : (rows cols : ℕ) → ((r c : ℕ) → IsFilled r c → (r < rows) × (c < cols)) → (row col : ℕ)
      → IsFilled row col → ¬ ((found : Rectangle) → ¬ (IsTable IsFilled row col found))
  some_around rows cols inside row col filled none =
      let whole : Rectangle = record { top = 0; bottom = rows; left = 0; right = cols } in
      let there : (r c : ℕ) → IsFilled r c → IsIn whole r c = λ r c is. record {
        top = omega arith;
        bottom = (inside r c is).0;
        left = omega arith;
        right = (inside r c is).1;
      } in
      none_closed row col none (lines whole) whole (there row col filled) (omega arith) (λ r c is near. there r c is)

-- ---- the last cell

-- without a last number that has it none has it, where all that have it are below a bound
none_without_last : (P : ℕ → Type 0) (most : ℕ) → ((at : ℕ) → P at → at < most)
    → ((last : ℕ) → P last → ¬ ((at : ℕ) → P at → at ≤ last)) → (at : ℕ) → ¬ (P at)
none_without_last P zero below none at is = let there = below at is in let no : ⊥ = omega (arith, there) in no
none_without_last P (suc most) below none at is =
    let not_most : ¬ (P most) = λ last.
    none most last (λ other has. let there = below other has in omega (arith, there)) in
    none_without_last P most (λ other has. elim (cases_eq other most) [
      | inl same ↦ absurd (not_most (subst P same has))
      | inr apart ↦ let there = below other has in omega (arith, there, apart)
    ]) none at is

module _ {T : Type 0} (area : Area) (table : Table T) (inside : HasItemsInside table)
    (none : (found : Option Rectangle) → ¬ (IsTableIn area table found)) where
  abbrev HasCell : ℕ → ℕ → Type 0
  HasCell row col = Holds area row col × IsStored table row col

  abbrev HasRow : ℕ → Type 0
  HasRow row = (col : ℕ) × HasCell row col

  -- the last one of the last row would have a table around it
  not_last : (row : ℕ) → ((at : ℕ) → HasRow at → at ≤ row) → (col : ℕ) → HasCell row col
      → ¬ ((at : ℕ) → HasCell row at → at ≤ col)
  not_last row last_row col has last_col =
      some_around (IsStored table) table.rows table.cols (λ r c stored. (inside r c stored)) row col has.1 (λ found is.
      none (Some found) (
        row,
        col,
        record {
          held = has.0;
          stored = has.1;
          last = λ r c holds stored. elim (cases_eq r row) [
            | inl same ↦ inr (same, last_col c (subst (λ n. HasCell n c) same (holds, stored)))
            | inr apart ↦ let below = last_row r (c, (holds, stored)) in inl (omega (arith, below, apart))
          ];
        },
        is,
      ))

  no_rows : (row : ℕ) → ¬ (HasRow row)
  no_rows = none_without_last HasRow table.rows (λ row has. (inside row has.0 has.1.1).0) (λ row has last_row.
      none_without_last (HasCell row) table.cols (λ col cell. (inside row col cell.1).1) (not_last row last_row) has.0
      has.1)

  no_table : ⊥
  no_table = none None (λ row col holds stored. no_rows row (col, (holds, stored)))

pub some_table : {T : Type 0} (area : Area) (table : Table T) → HasItemsInside table
    → ¬ ((found : Option Rectangle) → ¬ (IsTableIn area table found))
some_table area table inside none = no_table area table inside none
