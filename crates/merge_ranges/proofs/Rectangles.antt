-- What the tests of bands and areas say of their lines and cells.
use Rattle.std.proofs.Common.{◌≡◌, ℕ, ◌-◌, ◌<◌, ◌≤◌, inl, inr, arith, refl, sym, ap, ◌∙◌, Bool, true, false}
use Rattle.std.specs.Prelude.{◌&&◌, not, nat_le, nat_lt, max}
use Rattle.std.proofs.lemmas.Bool.{false≢true, cases_Bool, and_parts, and_from, ltb-true, lt-ltb}
use Rattle.std.proofs.lemmas.Bool.Decides.{nat_tests}
use Rattle.grid_range.specs.declared.area.Area.{Area}
use Rattle.grid_range.specs.declared.band.Band.{Band}
use Rattle.grid_range.specs.declared.band.Band.TheVariants.{Whole, From, Span}
use Rattle.grid_range.specs.Band.{HasLine, first_line}
use Rattle.merge_ranges.specs.EndsLaws.{line_between, rises}
use Rattle.merge_ranges.specs.Merges.{HasEnds, IsRectangle, Overlap, HoldsAll}
use Rattle.merge_ranges.specs.Calls.{Cuts}
use Rattle.merge_ranges.specs.Tests.{has_all, has_cell_of, has_some, past_line, holds_all, cuts}

pub line_there : (band : Band) (line : ℕ) → HasEnds band → HasLine band line
    → (first_line band ≤ line) × (line < past_line band)
line_there Whole line h has = absurd h
line_there (From start) line h has = absurd h
line_there (Span start end) line h has = (has.0, has.1)

all_lines : (band : Band) (first past line : ℕ) → has_all band first past ≡ true → first ≤ line → line < past
    → HasLine band line
all_lines Whole first past line h a b = tt
all_lines (From start) first past line h a b = grind (arith, nat_tests)
all_lines (Span start end) first past line h a b =
    let low : nat_le start first ≡ true = (and_parts (nat_le start first) (nat_le past end) h).0 in
    let high : nat_le past end ≡ true = (and_parts (nat_le start first) (nat_le past end) h).1 in
    (grind (arith, nat_tests), grind (arith, nat_tests))

from_all : (band : Band) (first past : ℕ) → first < past → HasLine band first → HasLine band (past - 1)
    → has_all band first past ≡ true
from_all Whole first past l a b = refl
from_all (From start) first past l a b = grind (arith, nat_tests)
from_all (Span start end) first past l a b =
    let low : start ≤ first = a.0 in
    let high : past - 1 < end = b.1 in
    and_from (nat_le start first) (nat_le past end) (grind (arith, nat_tests)) (grind (arith, nat_tests))

some_line : (band : Band) (first past : ℕ) → first < past → has_some band first past ≡ true
    → (line : ℕ) × (first ≤ line) × (line < past) × HasLine band line
some_line Whole first past l h = (first, omega arith, l, tt)
some_line (From start) first past l h =
    let low : start < past = grind (arith, nat_tests) in
    (max start first, omega arith, omega arith, omega arith)
some_line (Span start end) first past l h =
    let front = and_parts (nat_lt start end && nat_lt start past) (nat_lt first end) h in
    let inner = and_parts (nat_lt start end) (nat_lt start past) front.0 in
    let a : nat_lt start end ≡ true = inner.0 in
    let b : nat_lt start past ≡ true = inner.1 in
    let d : nat_lt first end ≡ true = front.1 in
    let one : start < end = grind (arith, nat_tests) in
    let two : start < past = grind (arith, nat_tests) in
    let three : first < end = grind (arith, nat_tests) in
    (max start first, omega arith, omega arith, (omega arith, omega arith))

from_some : (band : Band) (first past line : ℕ) → first ≤ line → line < past → HasLine band line
    → has_some band first past ≡ true
from_some Whole first past line a b has = refl
from_some (From start) first past line a b has = grind (arith, nat_tests)
from_some (Span start end) first past line a b has =
    let low : start ≤ line = has.0 in
    let high : line < end = has.1 in
    and_from (nat_lt start end && nat_lt start past) (nat_lt first end)
    (and_from (nat_lt start end) (nat_lt start past) (grind (arith, nat_tests)) (grind (arith, nat_tests)))
    (grind (arith, nat_tests))

module _ (area merge : Area) (is : IsRectangle merge) where
  pub holds_all_cells : holds_all area merge ≡ true → HoldsAll area merge
  holds_all_cells h row col held =
      let both = and_parts (has_all area.rows (first_line merge.rows) (past_line merge.rows))
      (has_all area.cols (first_line merge.cols) (past_line merge.cols)) h in
      let rows = line_there merge.rows row is.0 held.0 in
      let cols = line_there merge.cols col is.1 held.1 in (
        all_lines area.rows (first_line merge.rows) (past_line merge.rows) row both.0 rows.0 rows.1,
        all_lines area.cols (first_line merge.cols) (past_line merge.cols) col both.1 cols.0 cols.1,
      )

  pub all_cells_hold : HoldsAll area merge → holds_all area merge ≡ true
  all_cells_hold all =
      let low = rises merge.rows is.0 in
      let left = rises merge.cols is.1 in
      let row : HasLine merge.rows (first_line merge.rows) =
      line_between merge.rows (first_line merge.rows) is.0 (omega arith) (omega arith) in
      let col : HasLine merge.cols (first_line merge.cols) =
      line_between merge.cols (first_line merge.cols) is.1 (omega arith) (omega arith) in
      let last_row : HasLine merge.rows (past_line merge.rows - 1) =
      line_between merge.rows (past_line merge.rows - 1) is.0 (omega arith) (omega arith) in
      let last_col : HasLine merge.cols (past_line merge.cols - 1) =
      line_between merge.cols (past_line merge.cols - 1) is.1 (omega arith) (omega arith) in
      let front = all (first_line merge.rows) (first_line merge.cols) (row, col) in
      let back = all (past_line merge.rows - 1) (past_line merge.cols - 1) (last_row, last_col) in
      and_from (has_all area.rows (first_line merge.rows) (past_line merge.rows))
      (has_all area.cols (first_line merge.cols) (past_line merge.cols))
      (from_all area.rows (first_line merge.rows) (past_line merge.rows) low front.0 back.0)
      (from_all area.cols (first_line merge.cols) (past_line merge.cols) left front.1 back.1)

  touching : has_cell_of area merge ≡ true → Overlap area merge
  touching h =
      let both = and_parts (has_some area.rows (first_line merge.rows) (past_line merge.rows))
      (has_some area.cols (first_line merge.cols) (past_line merge.cols)) h in
      let (row, a, b, has) = some_line area.rows (first_line merge.rows) (past_line merge.rows)
      (rises merge.rows is.0) both.0 in
      let (col, d, e, also) = some_line area.cols (first_line merge.cols) (past_line merge.cols)
      (rises merge.cols is.1) both.1 in
      record {
        row = row;
        col = col;
        one_holds = (has, also);
        other_holds =
            (line_between merge.rows row is.0 a b, line_between merge.cols col is.1 d e);
      }

  pub from_touching : Overlap area merge → has_cell_of area merge ≡ true
  from_touching meets =
      let rows = line_there merge.rows meets.row is.0 meets.other_holds.0 in
      let cols = line_there merge.cols meets.col is.1 meets.other_holds.1 in
      and_from (has_some area.rows (first_line merge.rows) (past_line merge.rows))
      (has_some area.cols (first_line merge.cols) (past_line merge.cols))
      (from_some area.rows (first_line merge.rows) (past_line merge.rows) meets.row rows.0 rows.1 meets.one_holds.0)
      (from_some area.cols (first_line merge.cols) (past_line merge.cols) meets.col cols.0 cols.1 meets.one_holds.1)

  pub cuts_cells : cuts area merge ≡ true → Cuts area merge
  cuts_cells h =
      let both = and_parts (has_cell_of area merge) (not (holds_all area merge)) h in
      (touching both.0, (λ all. false≢true (sym (ap not (all_cells_hold all)) ∙ both.1)))

  pub from_cuts : Cuts area merge → cuts area merge ≡ true
  from_cuts (meets, sticks) = and_from (has_cell_of area merge) (not (holds_all area merge)) (from_touching meets)
      (elim (cases_Bool (holds_all area merge)) [
        | inl all ↦ absurd (sticks (holds_all_cells all))
        | inr some ↦ ap not some
      ])

-- two rectangles have a cell in common; the test is symmetrical
abbrev pub meets : Area → Area → Bool
meets one other =
    (nat_lt (first_line one.rows) (past_line other.rows) && nat_lt (first_line other.rows) (past_line one.rows))
    && (nat_lt (first_line one.cols) (past_line other.cols) && nat_lt (first_line other.cols) (past_line one.cols))

turn_and : (a b : Bool) → (a && b) ≡ (b && a)
turn_and true true = refl
turn_and true false = refl
turn_and false true = refl
turn_and false false = refl

pub meets_turned : (one other : Area) → meets one other ≡ meets other one
meets_turned one other =
    ap (λ b. b && (nat_lt (first_line one.cols) (past_line other.cols) && nat_lt (first_line other.cols)
    (past_line one.cols)))
    (turn_and (nat_lt (first_line one.rows) (past_line other.rows))
    (nat_lt (first_line other.rows) (past_line one.rows)))
    ∙ ap (λ b. (nat_lt (first_line other.rows) (past_line one.rows) && nat_lt (first_line one.rows)
    (past_line other.rows)) && b)
    (turn_and (nat_lt (first_line one.cols) (past_line other.cols))
    (nat_lt (first_line other.cols) (past_line one.cols)))

-- a line that two stretches share
shared : (a b c d : ℕ) → a < b → c < d → a < d → c < b → (line : ℕ) × (a ≤ line) × (line < b) × (c ≤ line) × (line < d)
shared a b c d ab cd ad cb = (max a c, omega arith, omega arith, omega arith, omega arith)

pub meeting : (one other : Area) → IsRectangle one → IsRectangle other → meets one other ≡ true → Overlap one other
meeting one other is also h =
    let both = and_parts (nat_lt (first_line one.rows) (past_line other.rows) && nat_lt (first_line other.rows)
    (past_line one.rows)) (nat_lt (first_line one.cols) (past_line other.cols) && nat_lt (first_line other.cols)
    (past_line one.cols)) h in
    let rows = and_parts (nat_lt (first_line one.rows) (past_line other.rows))
    (nat_lt (first_line other.rows) (past_line one.rows)) both.0 in
    let cols = and_parts (nat_lt (first_line one.cols) (past_line other.cols))
    (nat_lt (first_line other.cols) (past_line one.cols)) both.1 in
    let (row, a, b, c, d) = shared (first_line one.rows) (past_line one.rows) (first_line other.rows)
    (past_line other.rows) (rises one.rows is.0) (rises other.rows also.0)
    (ltb-true _ _ rows.0) (ltb-true _ _ rows.1) in
    let (col, e, f, g, h) = shared (first_line one.cols) (past_line one.cols) (first_line other.cols)
    (past_line other.cols) (rises one.cols is.1) (rises other.cols also.1)
    (ltb-true _ _ cols.0) (ltb-true _ _ cols.1) in
    record {
      row = row;
      col = col;
      one_holds = (line_between one.rows row is.0 a b, line_between one.cols col is.1 e f);
      other_holds = (line_between other.rows row also.0 c d, line_between other.cols col also.1 g h);
    }

pub from_meeting : (one other : Area) → IsRectangle one → IsRectangle other → Overlap one other → meets one other ≡ true
from_meeting one other is also o =
    let a = line_there one.rows o.row is.0 o.one_holds.0 in
    let b = line_there other.rows o.row also.0 o.other_holds.0 in
    let c = line_there one.cols o.col is.1 o.one_holds.1 in
    let d = line_there other.cols o.col also.1 o.other_holds.1 in
    and_from _ _
    (and_from _ _ (lt-ltb (first_line one.rows) (past_line other.rows) (omega arith))
    (lt-ltb (first_line other.rows) (past_line one.rows) (omega arith)))
    (and_from _ _ (lt-ltb (first_line one.cols) (past_line other.cols) (omega arith))
    (lt-ltb (first_line other.cols) (past_line one.cols) (omega arith)))

pub apart : (one other : Area) → IsRectangle one → IsRectangle other → ¬ (Overlap one other) → meets one other ≡ false
apart one other is also none = elim (cases_Bool (meets one other)) [
  | inl h ↦ absurd (none (meeting one other is also h))
  | inr h ↦ h
]

pub not_overlapping : (one other : Area) → IsRectangle one → IsRectangle other → meets one other ≡ false
    → ¬ (Overlap one other)
not_overlapping one other is also none o = false≢true (sym none ∙ from_meeting one other is also o)

-- two rectangles with the same first cell have it in common
pub same_first_meets : (one other : Area) → IsRectangle one → IsRectangle other
    → ◌≡◌ {A = ℕ × ℕ} (first_line one.rows, first_line one.cols) (first_line other.rows, first_line other.cols)
    → meets one other ≡ true
same_first_meets one other is also same =
    let rows : first_line one.rows ≡ first_line other.rows = ap (λ (p : ℕ × ℕ). p.0) same in
    let cols : first_line one.cols ≡ first_line other.cols = ap (λ (p : ℕ × ℕ). p.1) same in
    let a = rises one.rows is.0 in
    let b = rises other.rows also.0 in
    let c = rises one.cols is.1 in
    let d = rises other.cols also.1 in
    and_from _ _
    (and_from _ _ (lt-ltb (first_line one.rows) (past_line other.rows) (omega arith))
    (lt-ltb (first_line other.rows) (past_line one.rows) (omega arith)))
    (and_from _ _ (lt-ltb (first_line one.cols) (past_line other.cols) (omega arith))
    (lt-ltb (first_line other.cols) (past_line one.cols) (omega arith)))
