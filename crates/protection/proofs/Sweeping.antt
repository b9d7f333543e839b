-- Cells that no range has, for the sweep over an area.
use Rattle.std.proofs.Common.{◌≡◌, ℕ, ◌+◌, ◌<◌, ◌≤◌, false, not, ◌↔◌, List, All, length, get_or, suc, zero, refl, subst, arith, ⊎_elim}
use Rattle.std.proofs.lemmas.Bool.{cases_lt}
use Rattle.std.proofs.lemmas.List.{get_or_default}
use Rattle.std.proofs.lemmas.List.Sorted.{All-permutation}
use Rattle.std.specs.List.Sorted.{IsPermutation, IsNonDecreasingBy}
use Rattle.grid_range.specs.declared.area.Area.{Area}
use Rattle.grid_range.specs.declared.band.Band.{Band}
use Rattle.grid_range.specs.declared.band.Band.TheVariants.{Whole, From, Span}
use Rattle.grid_range.specs.Band.{HasLine, first_line, end_line}
use Rattle.protection.specs.Denial.{HasCell, IsOutside, DeniesSome}
use Rattle.protection.specs.declared.range.Protection.{Protection}
use Rattle.protection.specs.Editors.{may_edit}
use Rattle.protection.specs.Sweep.{IsFreeColumn, IsFreeCell, IsBetween, HasNoFreeBelow, first_col}

-- the last line of a band is the one before its end
pub HasLine-last : (band : Band) (line count : ℕ) → HasLine band line → ¬ (HasLine band (line + 1))
    → end_line band count ≡ line + 1
HasLine-last Whole line count has not = absurd (not tt)
HasLine-last (From start) line count has not = absurd (not (omega arith))
HasLine-last (Span start end) line count has not =
    ⊎_elim (λ (lt : line + 1 < end). absurd (not (omega arith, lt))) (λ (le : end ≤ line + 1). omega arith)
    (cases_lt (line + 1) end)

-- a line of a band is between its ends
pub HasLine-ends : (band : Band) (line count : ℕ) → HasLine band line → line < count
    → (first_line band ≤ line) × (line < end_line band count)
HasLine-ends Whole line count has lt = (omega arith, lt)
HasLine-ends (From start) line count has lt = (has, lt)
HasLine-ends (Span start end) line count has lt = has

-- a band that has a line has those from its first line on
pub HasLine-before : (band : Band) (line past : ℕ) → first_line band ≤ line → line ≤ past
    → HasLine band past → HasLine band line
HasLine-before Whole line past from le has = tt
HasLine-before (From start) line past from le has = from
HasLine-before (Span start end) line past from le has = (from, omega arith)

-- and those up to its end
pub HasLine-behind : (band : Band) (first line count : ℕ) → HasLine band first → first ≤ line
    → line < end_line band count → HasLine band line
HasLine-behind Whole first line count has le lt = tt
HasLine-behind (From start) first line count has le lt = omega arith
HasLine-behind (Span start end) first line count has le lt = (omega arith, lt)

-- its end is behind its lines, and isn't one of them where it is less than the number of lines
pub HasLine-end : (band : Band) (line count : ℕ) → HasLine band line → line < count
    → line < end_line band count
HasLine-end band line count has lt = (HasLine-ends band line count has lt).1

pub HasLine-not_end : (band : Band) (count : ℕ) → end_line band count < count
    → ¬ (HasLine band (end_line band count))
HasLine-not_end Whole count lt has = absurd (omega arith)
HasLine-not_end (From start) count lt has = absurd (omega arith)
HasLine-not_end (Span start end) count lt has = absurd (omega arith)

-- a range that begins no later than one that has a cell, and hasn't that cell, hasn't those behind it
pub HasCell-past : (sheet row reached past : ℕ) (one range : Area) → first_col one ≤ first_col range
    → HasCell sheet row reached range → reached ≤ past → ¬ (HasCell sheet row reached one)
    → ¬ (HasCell sheet row past one)
HasCell-past sheet row reached past one range order has le not there =
    let from = HasLine-ends range.cols reached (reached + 1) has.1.1 (omega arith) in
    not (there.0, (there.1.0, HasLine-before one.cols reached past (omega arith) le there.1.1))

-- what holds of each range before a place and at it
pub at_each : (P : Area → Type 0) (ranges : List Area) (i : ℕ) (e : Area) → i < length ranges
    → ((k : ℕ) (d : Area) → k < i → P (get_or ranges k d)) → P (get_or ranges i e)
    → (k : ℕ) (d : Area) → k < i + 1 → P (get_or ranges k d)
at_each P ranges i e there before here k d below = ⊎_elim
    (λ (less : k < i). before k d less)
    (λ (last : i ≤ k). let at : k ≡ i = omega arith in
    rw at (subst P (get_or_default ranges i e d there) here))
    (cases_lt k i)

-- a pass over the first ranges: the columns before `reached` are covered, and if that is one of the
-- columns that are asked for, none of those ranges has it
pub record Passed (sheet row : ℕ) (cols : ℕ × ℕ) (ranges : List Area) (i reached : ℕ) : Type 0 where
  pub begun : cols.0 ≤ reached
  pub covered : (col : ℕ) → cols.0 ≤ col → col < reached → ¬ (IsOutside sheet row col ranges)
  pub not_had : (k : ℕ) (d : Area) → k < i → reached < cols.1
      → ¬ (HasCell sheet row reached (get_or ranges k d))

-- one range more, which has that column
pub Passed-covers : (sheet row : ℕ) (cols : ℕ × ℕ) (ranges : List Area) (i reached : ℕ) (e : Area)
    → IsNonDecreasingBy first_col ranges → i < length ranges → reached < cols.1
    → HasCell sheet row reached (get_or ranges i e) → Passed sheet row cols ranges i reached
    → Passed sheet row cols ranges (i + 1) (end_line (get_or ranges i e).cols cols.1)
Passed-covers sheet row cols ranges i reached e order there room has passed =
    let band = (get_or ranges i e).cols in
    let more : reached < end_line band cols.1 = HasLine-end band reached cols.1 has.1.1 room in
    let begun : cols.0 ≤ reached = passed.begun in
    record {
      begun = omega arith;
      covered = λ col from below out. ⊎_elim
          (λ (old : col < reached). passed.covered col from old out)
          (λ (new : reached ≤ col). out i e there
          (has.0, (has.1.0, HasLine-behind band reached col cols.1 has.1.1 new below)))
          (cases_lt col reached);
      not_had = at_each
          (λ one. end_line band cols.1 < cols.1 → ¬ (HasCell sheet row (end_line band cols.1) one))
          ranges i e there
          (λ k d less short. HasCell-past sheet row reached (end_line band cols.1) (get_or ranges k d)
          (get_or ranges i d) (order k i d (omega arith) there)
          (subst (λ (one : Area). HasCell sheet row reached one) (get_or_default ranges i e d there) has)
          (omega arith) (passed.not_had k d less room))
          (λ short there. HasLine-not_end band cols.1 short there.1.1);
    }

-- one that hasn't
pub Passed-skips : (sheet row : ℕ) (cols : ℕ × ℕ) (ranges : List Area) (i reached : ℕ) (e : Area)
    → i < length ranges → ¬ (HasCell sheet row reached (get_or ranges i e))
    → Passed sheet row cols ranges i reached → Passed sheet row cols ranges (i + 1) reached
Passed-skips sheet row cols ranges i reached e there not passed = record {
  begun = passed.begun;
  covered = passed.covered;
  not_had = at_each (λ one. reached < cols.1 → ¬ (HasCell sheet row reached one)) ranges i e there
      passed.not_had (λ room. not);
}

-- the same ranges in another order have the same free cells
pub IsFreeCell-same : (sheet : ℕ) (rows cols : ℕ × ℕ) (one other : List Area) → IsPermutation one other
    → IsFreeCell sheet rows cols one → IsFreeCell sheet rows cols other
IsFreeCell-same sheet rows cols one other same free = (
  free.0,
  free.1,
  (
    free.2.0,
    free.2.1,
    All-permutation (λ range. ¬ (HasCell sheet free.0 free.2.0 range)) one other same free.2.2,
  ),
)

-- where no cell right below a range is free, a free column of a row is free in the row above it
IsFreeColumn-above : (sheet row : ℕ) (rows cols : ℕ × ℕ) (ranges : List Area)
    → All (HasNoFreeBelow sheet rows cols ranges) ranges → IsBetween rows row → IsBetween rows (row + 1)
    → IsFreeColumn sheet (row + 1) cols ranges → IsFreeColumn sheet row cols ranges
IsFreeColumn-above sheet row rows cols ranges none at below free = (
  free.0,
  free.1,
  λ k d lt has.
      none k d lt row free.0 has (free.2 k d lt) at below free.1 free.2,
)

-- and so in the first row
pub IsFreeColumn-first : (n row sheet : ℕ) (rows cols : ℕ × ℕ) (ranges : List Area)
    → All (HasNoFreeBelow sheet rows cols ranges) ranges → row ≡ rows.0 + n → row < rows.1
    → IsFreeColumn sheet row cols ranges → IsFreeColumn sheet rows.0 cols ranges
IsFreeColumn-first zero row sheet rows cols ranges none is lt free =
    let first : row ≡ rows.0 = omega arith in
    subst (λ (line : ℕ). IsFreeColumn sheet line cols ranges) first free
IsFreeColumn-first (suc n) row sheet rows cols ranges none is lt free =
    let next : row ≡ rows.0 + n + 1 = omega arith in
    IsFreeColumn-first n (rows.0 + n) sheet rows cols ranges none refl (omega arith)
    (IsFreeColumn-above sheet (rows.0 + n) rows cols ranges none (omega arith, omega arith) (omega arith, omega arith)
    (subst (λ (line : ℕ). IsFreeColumn sheet line cols ranges) next free))

-- these are the lines that both bands have among `count`
abbrev pub AreShared : Band → Band → ℕ → ℕ × ℕ → Type 0
AreShared one other count ends =
    (line : ℕ) → IsBetween ends line ↔ ((line < count) × HasLine one line × HasLine other line)

-- a protection that keeps the user off denies him just the cells that no range has
pub DeniesSome-from_free : (user owner : List ℕ) (area : Area) (rows cols : ℕ) (protection : Protection)
    (down across : ℕ × ℕ) → protection.area.sheet ≡ area.sheet → may_edit user owner protection ≡ false
    → AreShared protection.area.rows area.rows rows down
    → AreShared protection.area.cols area.cols cols across
    → IsFreeCell area.sheet down across protection.unprotected
    → DeniesSome user owner area rows cols protection
DeniesSome-from_free user owner area rows cols protection down across on off rows_are cols_are free = record {
  row = free.0;
  col = free.2.0;
  row_there = ((rows_are free.0).0 free.1).0;
  col_there = ((cols_are free.2.0).0 free.2.1).0;
  asked = (((rows_are free.0).0 free.1).2, ((cols_are free.2.0).0 free.2.1).2);
  denied = record {
    kept_off = off;
    covered = (on, (((rows_are free.0).0 free.1).1, ((cols_are free.2.0).0 free.2.1).1));
    not_opened = free.2.2;
  };
}

pub IsFreeCell-from_denial : (user owner : List ℕ) (area : Area) (rows cols : ℕ) (protection : Protection)
    (down across : ℕ × ℕ) → AreShared protection.area.rows area.rows rows down
    → AreShared protection.area.cols area.cols cols across
    → DeniesSome user owner area rows cols protection
    → IsFreeCell area.sheet down across protection.unprotected
IsFreeCell-from_denial user owner area rows cols protection down across rows_are cols_are some = (
  some.row,
  (rows_are some.row).1 (some.row_there, some.denied.covered.1.0, some.asked.0),
  (
    some.col,
    (cols_are some.col).1 (some.col_there, some.denied.covered.1.1, some.asked.1),
    some.denied.not_opened,
  ),
)
