-- The cells of an area that are lent, from what is stored and the values that are known.
use Rattle.std.proofs.Common.{◌≡◌, ℕ, ◌+◌, ◌-◌, ◌*◌, ◌<◌, Bool, cond, List, [], ◌∷◌, ◌++◌, length, map, refl, ap, sym, ◌∙◌, arith, Contains, Option, Some, None}
use Rattle.std.specs.Prelude.{flat_map, filter, unwrap_or, IsSomeAnd}
use Rattle.std.specs.Option.{is_some}
use Rattle.std.proofs.lemmas.List.{map-append}
use Rattle.std.proofs.lemmas.List.Kept.{IsStrictlySortedBy-filter}
use Rattle.cell_value.specs.declared.cell.Value.{Value}
use Rattle.cell_value.specs.Elements.{Contains-head, Contains-cons, Contains-filter, Contains-filter_from}
use Rattle.grid_range.specs.declared.area.Area.{Area}
use Rattle.grid_range.specs.declared.band.Band.{Band}
use Rattle.grid_range.specs.declared.band.Band.TheVariants.{Whole, From, Span}
use Rattle.grid_range.specs.Area.{by_rows}
use Rattle.grid_range.specs.Band.{HasLine, first_line, end_line}
use Rattle.ref_rewrite.specs.declared.cell_content.Content.{Content}
use Rattle.cell_calc.specs.declared.cells.StoredCell.{StoredCell}
use Rattle.cell_calc.specs.Lent.{filled_from}
use Rattle.cell_calc.specs.Book.{Place, lines_of, places_of}
use Rattle.cell_calc.specs.Contents.{Contents, AreSound, AreStoredCells, AreStoredPlaces, AreOnSheet, cell_place}
use Rattle.cell_calc.specs.Known.{value_known, value_read, value_stored, book_read, place_among, filled_at, cell_read}
use Rattle.cell_calc.proofs.ReadsDecide.{has_lines}
use Rattle.cell_calc.proofs.Filled.{sorted_alike, all_rows}
use Rattle.cell_calc.proofs.Rectangle.{by_row, never_below, below_on, range_has, cells_have, cells_only, cells_sorted, kept, made_by_row}

-- a line of a band that is among so many
in_lines : (band : Band) (count line : ℕ) → HasLine band line → line < count → Contains (lines_of band count) line
in_lines Whole count line has less = range_has 0 (count - 0) line (omega arith) (omega (arith, less))
in_lines (From start) count line has less = range_has start (count - start) line has (omega (arith, has, less))
in_lines (Span start end) count line has less = range_has start (end - start) line has.0 (omega (arith, has.0, has.1))

within_size : (size : Option (ℕ × ℕ)) (row column : ℕ) → IsSomeAnd size (λ s. (row < s.0) × (column < s.1))
    → (row < (unwrap_or size (0, 0)).0) × (column < (unwrap_or size (0, 0)).1)
within_size None row column within = absurd within
within_size (Some size) row column within = within

nothing_before : (first width : ℕ) → 0 ≡ (first - first) * width
nothing_before first width =
    let none : first - first ≡ 0 = omega arith in
    let nought : 0 * width ≡ 0 = omega arith in
    sym (ap (λ n. n * width) none ∙ nought)

-- nothing is read where nothing is stored
stored_alone : (content : Option Content) (place : ℕ) (known : Value)
    → cond (is_some content) (filled_at place (value_stored content known)) []
    ≡ filled_at place (value_stored content known)
stored_alone None place known = refl
stored_alone (Some content) place known = refl

-- how many cells some rows have
module _ (read : Place → Value) (sheet : ℕ) (columns : List ℕ) where
  row_long : (row : ℕ) (some : List ℕ)
      → length (map read (map (λ column. record { sheet = sheet; row = row; column = column }) some)) ≡ length some
  row_long row [] = refl
  row_long row (column ∷ some) = omega (arith, row_long row some)

  appended : (xs ys : List Value) → length (xs ++ ys) ≡ length xs + length ys
  appended [] ys = omega arith
  appended (x ∷ xs) ys = omega (arith, appended xs ys)

  pub rows_long : (rows : List ℕ)
      → length
      (map read (flat_map (λ row. map (λ column. record { sheet = sheet; row = row; column = column }) columns) rows))
      ≡ length rows * length columns
  rows_long [] = omega arith
  rows_long (row ∷ rows) =
      let here = map (λ column. record { sheet = sheet; row = row; column = column }) columns in
      let later = flat_map (λ row. map (λ column. record { sheet = sheet; row = row; column = column }) columns) rows in
      ap length (map-append read here later) ∙ appended (map read here) (map read later)
      ∙ omega (arith, row_long row columns, rows_long rows)

module _ (contents : Contents) (known : Place → Option Value) (sound : AreSound contents) (area : Area) where
  abbrev size : ℕ × ℕ
  size = unwrap_or (contents.size area.sheet) (0, 0)

  abbrev row_count : ℕ
  row_count = end_line area.rows size.0 - first_line area.rows

  abbrev column_count : ℕ
  column_count = end_line area.cols size.1 - first_line area.cols

  abbrev rows : List ℕ
  rows = lines_of area.rows size.0

  abbrev columns : List ℕ
  columns = lines_of area.cols size.1

  abbrev on_sheet : ℕ × ℕ → Place
  on_sheet cell = record { sheet = area.sheet; row = cell.0; column = cell.1 }

  abbrev is_stored : ℕ × ℕ → Bool
  is_stored cell = is_some (contents.content (on_sheet cell))

  places_are : (places : List (ℕ × ℕ)) → AreStoredPlaces contents area places
      → places ≡ filter is_stored (by_row rows columns)
  places_are places are =
      sorted_alike by_rows never_below below_on places (filter is_stored (by_row rows columns)) are.in_order
      (IsStrictlySortedBy-filter by_rows is_stored (by_row rows columns)
      (cells_sorted (first_line area.rows) row_count (first_line area.cols) column_count))
      (λ cell has.
      let is = (are.exactly cell.0 cell.1).0 has in
      let within = within_size (contents.size area.sheet) cell.0 cell.1 (sound.inside (on_sheet cell) is.1) in
      Contains-filter is_stored (by_row rows columns) cell
      (cells_have rows columns cell.0 cell.1 (in_lines area.rows size.0 cell.0 is.0.0 within.0)
      (in_lines area.cols size.1 cell.1 is.0.1 within.1)) is.1)
      (λ cell has.
      let found = Contains-filter_from is_stored (by_row rows columns) cell has in
      let own = cells_only rows columns cell found.0 in
      (are.exactly cell.0 cell.1).1
      ((has_lines area.rows size.0 cell.0 own.0, has_lines area.cols size.1 cell.1 own.1), found.1))

  abbrev read : Place → Value
  read = value_read contents known

  -- what is read in a row and a column of the sheet, if it isn't blank, with its place among the area's cells
  abbrev entry : ℕ × ℕ → List (ℕ × Value)
  entry cell = filled_at (place_among area column_count cell.0 cell.1) (read (on_sheet cell))

  -- what is read in cells that are stored
  read_each : (cells : List StoredCell) → AreOnSheet contents area.sheet cells
      → flat_map (cell_read known area column_count) cells ≡ flat_map entry (map cell_place cells)
  read_each [] stored = refl
  read_each (cell ∷ cells) stored =
      ap (λ content. filled_at (place_among area column_count cell.row cell.column)
      (value_stored content (value_known known (on_sheet (cell_place cell))))
      ++ flat_map (cell_read known area column_count) cells)
      (sym (stored cell (Contains-head cell cells)))
      ∙ ap (λ l. entry (cell_place cell) ++ l)
      (read_each cells (λ other has. stored other (Contains-cons cell other cells has)))

  -- the cells that are lent
  pub area_filled : (cells : List StoredCell) → AreStoredCells contents area cells
      → flat_map (cell_read known area column_count) cells
      ≡ filled_from 0 (map read (places_of (book_read contents known) area))
  area_filled cells are =
      read_each cells are.content
      ∙ ap (flat_map entry) (places_are (map cell_place cells) are.places)
      ∙ kept entry entry is_stored
      (λ cell. stored_alone (contents.content (on_sheet cell)) (place_among area column_count cell.0 cell.1)
      (value_known known (on_sheet cell)))
      (by_row rows columns)
      ∙ made_by_row entry rows columns
      ∙ sym (all_rows read area.sheet (first_line area.rows) (first_line area.cols) column_count
      (first_line area.rows) row_count 0 (omega arith) (nothing_before (first_line area.rows) column_count))
