-- How many parts of an area become merges, and which cells these cover.
use Rattle.std.proofs.Common.{◌≡◌, ℕ, ◌+◌, ◌-◌, ◌<◌, ◌∙◌, arith, refl, suc, zero, sym, ap, Bool, true, false, List, [], ◌∷◌, length, map}
use Rattle.std.specs.Prelude.{◌&&◌, ◌||◌, ◌==◌, not, nat_le, nat_lt, cond, filter, Option, None, Some, unwrap_or, if◌then◌else◌}
use Rattle.std.specs.List.{list_any, range_with_len}
use Rattle.std.specs.Option.{is_some, option_map_or}
use Rattle.std.proofs.Math.Path.{fun_ext}
use Rattle.std.proofs.lemmas.Bool.{false≢true}
use Rattle.std.proofs.lemmas.Bool.Decides.{nat_tests}
use Rattle.std.proofs.lemmas.List.FromFn.{length-map-range_with_len}
use Rattle.grid_range.specs.Area.{band_on, with_band}
use Rattle.grid_range.specs.Band.{first_line}
use Rattle.grid_range.specs.declared.area.Area.{Area}
use Rattle.grid_range.specs.declared.axis.Axis.{Axis}
use Rattle.grid_range.specs.declared.axis.Axis.TheVariants.{Rows, Columns}
use Rattle.grid_range.specs.declared.band.Band.{Band}
use Rattle.grid_range.specs.declared.band.Band.TheVariants.{Whole, From, Span}
use Rattle.merge_ranges.specs.Merges.{HasEnds, IsRectangle, covers, is_covered}
use Rattle.merge_ranges.specs.Tests.{has_many_cells, has_many_lines, line_count, line_of, lines_of, past_line}
use Rattle.ref_rewrite.specs.declared.cell_content.Content.{Content}
use Rattle.world_model.specs.Updating.{no_updates}
use Rattle.values_api.specs.Updates.{cleared}
use Rattle.json_requests.specs.declared.request.MergeType.TheVariants as merge
use Rattle.request_kinds.specs.MergeCells.{behind_cleared, behind_first, covered_cleared}

-- ---- tests of numbers

test_same : (one other : Bool) → (one ≡ true → other ≡ true) → (other ≡ true → one ≡ true) → one ≡ other
test_same true true to from = refl
test_same false false to from = refl
test_same true false to from = absurd (false≢true (to refl))
test_same false true to from = absurd (false≢true (from refl))

-- a line of a band behind its first one
pub later_line : (first past line : ℕ) → (nat_le first line && nat_lt line past && not (line == first))
    ≡ (nat_le (first + 1) line && nat_lt line past)
later_line first past line = test_same _ _
    (λ is. grind (arith, nat_tests))
    (λ is. grind (arith, nat_tests))

-- a line is that one
one_line : (line other : ℕ) → (nat_le line other && nat_lt other (line + 1)) ≡ (line == other)
one_line line other = test_same _ _
    (λ is. grind (arith, nat_tests))
    (λ is. grind (arith, nat_tests))

first_or_later : (first count line : ℕ)
    → (first == line || (nat_le (first + 1) line && nat_lt line (first + 1 + count)))
    ≡ (nat_le first line && nat_lt line (first + suc count))
first_or_later first count line = test_same _ _
    (λ is. grind (arith, nat_tests))
    (λ is. grind (arith, nat_tests))

none_between : (first line : ℕ) → (nat_le first line && nat_lt line (first + 0)) ≡ false
none_between first line = test_same _ _
    (λ is. grind (arith, nat_tests))
    (λ is. grind (arith, nat_tests))

-- ---- lines that are tested alike

module _ {X : Type 0} (test : X → Bool) (made : ℕ → X) where
  -- all are kept, or none
  kept_alike : (kept : Bool) → ((line : ℕ) → test (made line) ≡ kept) → (first count : ℕ)
      → filter test (map made (range_with_len first count))
      ≡ cond kept (map made (range_with_len first count)) []
  kept_alike true alike first zero = refl
  kept_alike false alike first zero = refl
  kept_alike true alike first (suc count) =
      ap (λ b. cond b (made first ∷ filter test (map made (range_with_len (first + 1) count)))
      (filter test (map made (range_with_len (first + 1) count)))) (alike first)
      ∙ ap (λ others. made first ∷ others) (kept_alike true alike (first + 1) count)
  kept_alike false alike first (suc count) =
      ap (λ b. cond b (made first ∷ filter test (map made (range_with_len (first + 1) count)))
      (filter test (map made (range_with_len (first + 1) count)))) (alike first)
      ∙ kept_alike false alike (first + 1) count

  -- one of them is the line
  one_among : (held : Bool) (line : ℕ) → ((other : ℕ) → test (made other) ≡ (held && other == line))
      → (first count : ℕ) → list_any test (map made (range_with_len first count))
      ≡ (held && (nat_le first line && nat_lt line (first + count)))
  one_among true line alike first zero = sym (none_between first line)
  one_among false line alike first zero = refl
  one_among true line alike first (suc count) =
      ap (λ b. b || list_any test (map made (range_with_len (first + 1) count))) (alike first)
      ∙ ap (λ b. first == line || b) (one_among true line alike (first + 1) count)
      ∙ first_or_later first count line
  one_among false line alike first (suc count) =
      ap (λ b. b || list_any test (map made (range_with_len (first + 1) count))) (alike first)
      ∙ one_among false line alike (first + 1) count

-- ---- how many parts there are

or_false : (b : Bool) → (b || false) ≡ b
or_false true = refl
or_false false = refl

and_false : (b : Bool) → (b && false) ≡ false
and_false true = refl
and_false false = refl

none_later : (line : ℕ) → nat_lt (line + 1) (line + 1) ≡ false
none_later line = test_same _ _ (λ is. grind (arith, nat_tests)) (λ is. grind (arith, nat_tests))

abbrev many_across : Axis → Area → Bool
many_across Rows area = has_many_lines area.cols
many_across Columns area = has_many_lines area.rows

many_in_line : (axis : Axis) (area : Area) (line : ℕ) → has_many_cells (line_of axis area line) ≡ many_across axis area
many_in_line Rows area line = ap (λ b. b || has_many_lines area.cols) (none_later line)
many_in_line Columns area line =
    ap (λ b. has_many_lines area.rows || b) (none_later line) ∙ or_false (has_many_lines area.rows)

-- all lines of an area become parts, or none
abbrev each_line : Axis → Area → List Area
each_line axis area =
    map (line_of axis area) (range_with_len (first_line (band_on axis area)) (line_count (band_on axis area)))

lines_are : (axis : Axis) (area : Area) → lines_of axis area ≡ cond (many_across axis area) (each_line axis area) []
lines_are axis area =
    kept_alike has_many_cells (line_of axis area) (many_across axis area) (many_in_line axis area)
    (first_line (band_on axis area)) (line_count (band_on axis area))

length_if : {X : Type 0} (b : Bool) (xs : List X) → length (cond b xs []) ≡ (if b then length xs else 0)
length_if true xs = refl
length_if false xs = refl

pub lines_count : (axis : Axis) (area : Area)
    → length (lines_of axis area) ≡ (if many_across axis area then line_count (band_on axis area) else 0)
lines_count axis area =
    ap length (lines_are axis area) ∙ length_if (many_across axis area) (each_line axis area)
    ∙ ap (λ n. if many_across axis area then n else 0)
    (length-map-range_with_len (line_of axis area) (first_line (band_on axis area)) (line_count (band_on axis area)))

pub whole_count : (area : Area)
    → length (filter has_many_cells (area ∷ [])) ≡ (if has_many_cells area then 1 else 0)
whole_count area = go (has_many_cells area)
  where
    go : (b : Bool) → length (cond b (area ∷ []) []) ≡ (if b then 1 else 0)
    go true = refl
    go false = refl

-- ---- which cells they cover

module _ (sheet top bottom left right row col : ℕ) (high : top < bottom) (wide : left < right) where
  abbrev of_lines : Area
  of_lines = record { sheet = sheet; rows = Span top bottom; cols = Span left right }

  abbrev in_rows : Bool
  in_rows = nat_le top row && nat_lt row bottom

  abbrev in_cols : Bool
  in_cols = nat_le left col && nat_lt col right

  abbrev below : Bool
  below = nat_le (top + 1) row && nat_lt row bottom

  abbrev beside : Bool
  beside = nat_le (left + 1) col && nat_lt col right

  in_column : (other : ℕ) → covers (line_of Columns of_lines other) row col
      ≡ ((in_rows && not (row == top)) && other == col)
  in_column other =
      ap (λ b. (in_rows && b) && not (row == top && col == other)) (one_line other col)
      ∙ turned (other == col) (col == other) in_rows (row == top) (same_turned other col)
    where
      same_turned : (one two : ℕ) → (one == two) ≡ (two == one)
      same_turned one two = test_same _ _ (λ is. grind (arith, nat_tests)) (λ is. grind (arith, nat_tests))

      turned : (b b' held first : Bool) → b ≡ b'
          → ((held && b) && not (first && b')) ≡ ((held && not first) && b)
      turned true true true true same = refl
      turned true true true false same = refl
      turned true true false first same = refl
      turned false false true true same = refl
      turned false false true false same = refl
      turned false false false first same = refl
      turned true false held first same = absurd (false≢true (sym same))
      turned false true held first same = absurd (false≢true same)

  in_row : (other : ℕ) → covers (line_of Rows of_lines other) row col ≡ ((in_cols && not (col == left)) && other == row)
  in_row other =
      ap (λ b. (b && in_cols) && not (row == other && col == left)) (one_line other row)
      ∙ turned (other == row) (row == other) in_cols (col == left) (same_turned other row)
    where
      same_turned : (one two : ℕ) → (one == two) ≡ (two == one)
      same_turned one two = test_same _ _ (λ is. grind (arith, nat_tests)) (λ is. grind (arith, nat_tests))

      turned : (b b' held first : Bool) → b ≡ b'
          → ((b && held) && not (b' && first)) ≡ ((held && not first) && b)
      turned true true true true same = refl
      turned true true true false same = refl
      turned true true false first same = refl
      turned false false true true same = refl
      turned false false true false same = refl
      turned false false false first same = refl
      turned true false held first same = absurd (false≢true (sym same))
      turned false true held first same = absurd (false≢true same)

  few_below : nat_lt (top + 1) bottom ≡ false → below ≡ false
  few_below few = test_same _ _ (λ is. grind (arith, nat_tests)) (λ is. absurd (false≢true is))

  few_beside : nat_lt (left + 1) right ≡ false → beside ≡ false
  few_beside few = test_same _ _ (λ is. grind (arith, nat_tests)) (λ is. absurd (false≢true is))

  pub columns_cover : is_covered (lines_of Columns of_lines) row col ≡ (below && in_cols)
  columns_cover =
      ap (list_any (λ merge. covers merge row col)) (lines_are Columns of_lines)
      ∙ go (nat_lt (top + 1) bottom) refl
    where
      all : list_any (λ merge. covers merge row col) (each_line Columns of_lines) ≡ (below && in_cols)
      all =
          one_among (λ merge. covers merge row col) (line_of Columns of_lines) (in_rows && not (row == top)) col
          in_column left
          (right - left)
          ∙ ap (λ b. b && (nat_le left col && nat_lt col (left + (right - left)))) (later_line top bottom row)
          ∙ ap (λ past. below && (nat_le left col && nat_lt col past)) (omega (arith, wide))

      go : (many : Bool) → many ≡ nat_lt (top + 1) bottom
          → list_any (λ merge. covers merge row col) (cond many (each_line Columns of_lines) []) ≡ (below && in_cols)
      go true is = all
      go false is = ap (λ b. b && in_cols) (sym (few_below (sym is)))

  pub rows_cover : is_covered (lines_of Rows of_lines) row col ≡ (in_rows && beside)
  rows_cover =
      ap (list_any (λ merge. covers merge row col)) (lines_are Rows of_lines)
      ∙ go (nat_lt (left + 1) right) refl
    where
      swapped : (one other : Bool) → (one && other) ≡ (other && one)
      swapped true true = refl
      swapped true false = refl
      swapped false true = refl
      swapped false false = refl

      all : list_any (λ merge. covers merge row col) (each_line Rows of_lines) ≡ (in_rows && beside)
      all =
          one_among (λ merge. covers merge row col) (line_of Rows of_lines) (in_cols && not (col == left))
          row in_row top
          (bottom - top)
          ∙ ap (λ b. b && (nat_le top row && nat_lt row (top + (bottom - top)))) (later_line left right col)
          ∙ ap (λ past. beside && (nat_le top row && nat_lt row past)) (omega (arith, high))
          ∙ swapped beside in_rows

      go : (many : Bool) → many ≡ nat_lt (left + 1) right
          → list_any (λ merge. covers merge row col) (cond many (each_line Rows of_lines) []) ≡ (in_rows && beside)
      go true is = all
      go false is = sym (ap (λ b. in_rows && b) (few_beside (sym is)) ∙ and_false in_rows)

  pub whole_covers : is_covered (filter has_many_cells (of_lines ∷ [])) row col
      ≡ (below && in_cols || in_rows && beside)
  whole_covers = go (nat_lt (top + 1) bottom) (nat_lt (left + 1) right) refl refl
    where
      parted : (rows cols first first' : Bool) → ((rows && cols) && not (first && first'))
          ≡ ((rows && not first) && cols || rows && (cols && not first'))
      parted false cols first first' = refl
      parted true false true first' = refl
      parted true false false first' = refl
      parted true true true true = refl
      parted true true true false = refl
      parted true true false first' = refl

      all : covers of_lines row col ≡ (below && in_cols || in_rows && beside)
      all =
          parted in_rows in_cols (row == top) (col == left)
          ∙ ap (λ b. b && in_cols || in_rows && (in_cols && not (col == left))) (later_line top bottom row)
          ∙ ap (λ b. below && in_cols || in_rows && b) (later_line left right col)

      go : (tall broad : Bool) → tall ≡ nat_lt (top + 1) bottom → broad ≡ nat_lt (left + 1) right
          → list_any (λ merge. covers merge row col) (cond (tall || broad) (of_lines ∷ []) [])
          ≡ (below && in_cols || in_rows && beside)
      go true broad is is' = or_false (covers of_lines row col) ∙ all
      go false true is is' = or_false (covers of_lines row col) ∙ all
      go false false is is' =
          sym (ap (λ b. b && in_cols || in_rows && beside) (few_below (sym is))
          ∙ ap (λ b. in_rows && b) (few_beside (sym is')) ∙ and_false in_rows)

  abbrev emptied_if : Bool → Option (Option Content)
  emptied_if b = if b then Some None else None

  pub rows_cleared : behind_cleared Rows of_lines row col ≡ emptied_if (below && in_cols)
  rows_cleared = go (nat_lt (top + 1) bottom) refl
    where
      go : (many : Bool) → many ≡ nat_lt (top + 1) bottom
          → option_map_or cleared
          (if many then Some (with_band Rows of_lines (Span (top + 1) bottom)) else None) no_updates
          row col ≡ emptied_if (below && in_cols)
      go true is = refl
      go false is = ap (λ b. emptied_if (b && in_cols)) (sym (few_below (sym is)))

  pub columns_cleared : behind_cleared Columns of_lines row col ≡ emptied_if (in_rows && beside)
  columns_cleared = go (nat_lt (left + 1) right) refl
    where
      go : (many : Bool) → many ≡ nat_lt (left + 1) right
          → option_map_or cleared
          (if many then Some (with_band Columns of_lines (Span (left + 1) right)) else None) no_updates
          row col ≡ emptied_if (in_rows && beside)
      go true is = refl
      go false is = ap emptied_if (sym (ap (λ b. in_rows && b) (few_beside (sym is)) ∙ and_false in_rows))

-- ---- the cells that they cover are those behind the first row, or column, or both

pub columns_emptied : (area : Area) → IsRectangle area → covered_cleared merge.Columns area ≡ behind_cleared Rows area
columns_emptied area is = fun_ext (λ row. fun_ext (λ col. go area.rows area.cols is.0 is.1 row col))
  where
    go : (rows cols : Band) → HasEnds rows → HasEnds cols → (row col : ℕ)
        → covered_cleared merge.Columns (record area { rows = rows; cols = cols }) row col
        ≡ behind_cleared Rows (record area { rows = rows; cols = cols }) row col
    go Whole cols has has' row col = absurd has
    go (From top) cols has has' row col = absurd has
    go (Span top bottom) Whole has has' row col = absurd has'
    go (Span top bottom) (From left) has has' row col = absurd has'
    go (Span top bottom) (Span left right) has has' row col =
        ap (λ b. if b then Some None else None) (columns_cover area.sheet top bottom left right row col has has')
        ∙ sym (rows_cleared area.sheet top bottom left right row col has has')

pub rows_emptied : (area : Area) → IsRectangle area → covered_cleared merge.Rows area ≡ behind_cleared Columns area
rows_emptied area is = fun_ext (λ row. fun_ext (λ col. go area.rows area.cols is.0 is.1 row col))
  where
    go : (rows cols : Band) → HasEnds rows → HasEnds cols → (row col : ℕ)
        → covered_cleared merge.Rows (record area { rows = rows; cols = cols }) row col
        ≡ behind_cleared Columns (record area { rows = rows; cols = cols }) row col
    go Whole cols has has' row col = absurd has
    go (From top) cols has has' row col = absurd has
    go (Span top bottom) Whole has has' row col = absurd has'
    go (Span top bottom) (From left) has has' row col = absurd has'
    go (Span top bottom) (Span left right) has has' row col =
        ap (λ b. if b then Some None else None) (rows_cover area.sheet top bottom left right row col has has')
        ∙ sym (columns_cleared area.sheet top bottom left right row col has has')

pub whole_emptied : (area : Area) → IsRectangle area → (row col : ℕ) (held : Option Content)
    → unwrap_or (covered_cleared merge.All area row col) held
    ≡ unwrap_or (behind_cleared Columns area row col) (unwrap_or (behind_cleared Rows area row col) held)
whole_emptied area is row col held = go area.rows area.cols is.0 is.1
  where
    emptied : Bool → Option (Option Content)
    emptied b = if b then Some None else None

    either : (one other : Bool) → unwrap_or (emptied (one || other)) held
        ≡ unwrap_or (emptied other) (unwrap_or (emptied one) held)
    either true true = refl
    either true false = refl
    either false true = refl
    either false false = refl

    joined : (one other : Bool) (whole first second : Option (Option Content)) → whole ≡ emptied (one || other)
        → first ≡ emptied one → second ≡ emptied other
        → unwrap_or whole held ≡ unwrap_or second (unwrap_or first held)
    joined one other whole first second is is' is'' =
        ap (λ u. unwrap_or u held) is ∙ either one other
        ∙ ap (λ u. unwrap_or u (unwrap_or (emptied one) held)) (sym is'')
        ∙ ap (λ u. unwrap_or second (unwrap_or u held)) (sym is')

    go : (rows cols : Band) → HasEnds rows → HasEnds cols
        → unwrap_or (covered_cleared merge.All (record area { rows = rows; cols = cols }) row col) held
        ≡ unwrap_or (behind_cleared Columns (record area { rows = rows; cols = cols }) row col)
        (unwrap_or (behind_cleared Rows (record area { rows = rows; cols = cols }) row col) held)
    go Whole cols has has' = absurd has
    go (From top) cols has has' = absurd has
    go (Span top bottom) Whole has has' = absurd has'
    go (Span top bottom) (From left) has has' = absurd has'
    go (Span top bottom) (Span left right) has has' =
        let own : Area = record area { rows = Span top bottom; cols = Span left right } in
        joined ((nat_le (top + 1) row && nat_lt row bottom) && (nat_le left col && nat_lt col right))
        ((nat_le top row && nat_lt row bottom) && (nat_le (left + 1) col && nat_lt col right))
        (covered_cleared merge.All own row col) (behind_cleared Rows own row col) (behind_cleared Columns own row col)
        (ap emptied (whole_covers area.sheet top bottom left right row col has has'))
        (rows_cleared area.sheet top bottom left right row col has has')
        (columns_cleared area.sheet top bottom left right row col has has')

-- ---- the lines behind the first one

if_some : {X : Type 0} (many : Bool) (x y : X) → (if many then Some x else None) ≡ Some y → y ≡ x
if_some true x y same = ap (λ o. unwrap_or o x) (sym same)
if_some false x y same = absurd (false≢true (ap is_some same))

of_sheet : (on : Axis) (area : Area) (band : Band) → (with_band on area band).sheet ≡ area.sheet
of_sheet Rows area band = refl
of_sheet Columns area band = refl

-- they are of the area's sheet
pub behind_sheet : (on : Axis) (area rest : Area) → behind_first on area ≡ Some rest → rest.sheet ≡ area.sheet
behind_sheet on area rest is =
    let band : Band = band_on on area in
    ap (λ (own : Area). own.sheet)
    (if_some (has_many_lines band) (with_band on area (Span (first_line band + 1) (past_line band))) rest is)
    ∙ of_sheet on area (Span (first_line band + 1) (past_line band))

pub behind_is : (on : Axis) (area : Area) (rest : Option Area) → behind_first on area ≡ rest
    → behind_cleared on area ≡ option_map_or cleared rest no_updates
behind_is on area rest is = ap (λ found. option_map_or cleared found no_updates) is
