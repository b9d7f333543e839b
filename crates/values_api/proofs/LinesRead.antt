-- What a read makes line by line is what the area shows.
use Rattle.std.proofs.Common.{◌≡◌, ℕ, ◌<◌, ◌≤◌, List, [], map, length, get_or, cond, Bool, true, false, sym, subst, ap, ◌∙◌, arith}
use Rattle.std.specs.List.{range_with_len}
use Rattle.std.proofs.lemmas.List.FromFn.{length-map-range_with_len, get_or-map-range_with_len, fill_by_all}
use Rattle.std.proofs.lemmas.List.{get_or_past}
use Rattle.cell_value.specs.declared.cell.Cell.{Cell}
use Rattle.cell_calc.specs.Marks.{values_of}
use Rattle.world_model.specs.declared.limits.TheConstants.{MOST_COLUMNS, MOST_ROWS}
use Rattle.world_model.specs.Book.{PlaceBook}
use Rattle.values_api.specs.Sheets.{formula_sheets}
use Rattle.values_api.specs.declared.shown.Reading.{Reading}
use Rattle.values_api.specs.Reading.{IsReadOfSheet, AreEnds, cell_read, lines_read, length_read, value_told}
use Rattle.values_api.specs.Shown.{shows_nothing, has_no_cells, without_empty_end, line_shown, lines_shown, area_shown}
use Rattle.values_api.proofs.Ending.{cut_short, cut_all}
use Rattle.values_api.proofs.Ends.{small_height, small_width}

-- a read of a spreadsheet shows its area
pub read_of : (reading : Reading) (book : PlaceBook) → reading.names.book.now ≡ book
    → lines_shown (cell_read reading) (lines_read reading) (length_read reading)
    ≡ area_shown (formula_sheets book.sheets) reading.area.now reading.columns_first reading.render reading.sheet.now
    (value_told reading.area.now reading.sheet.now (values_of reading.table.now))
read_of reading book is =
    ap (λ (b : PlaceBook). area_shown (formula_sheets b.sheets) reading.area.now reading.columns_first reading.render
    reading.sheet.now (value_told reading.area.now reading.sheet.now (values_of reading.table.now))) is

few_of : (b : Bool) (one other : ℕ) → one ≤ MOST_ROWS → other ≤ MOST_COLUMNS → cond b other one ≤ MOST_ROWS
few_of true one other few few' = omega (arith, few')
few_of false one other few few' = few

pub few_lines : (reading : Reading) → IsReadOfSheet reading → (ends : List ℕ) → AreEnds reading ends
    → length ends ≤ MOST_ROWS
few_lines reading is ends are =
    let few = few_of reading.columns_first _ _ (small_height reading is) (small_width reading is) in
    omega (arith, are.few, few)

module _ (reading : Reading) (ends : List ℕ) (are : AreEnds reading ends) where
  abbrev cells : ℕ → ℕ → Cell
  cells = cell_read reading

  abbrev made : ℕ → List Cell
  made line = line_shown (cells line) (get_or ends line 0)

  abbrev whole : ℕ → List Cell
  whole line = line_shown (cells line) (length_read reading)

  -- a line up to its end is the whole line
  same_line : (line : ℕ) → line < lines_read reading → whole line ≡ made line
  same_line line there =
      cut_short shows_nothing (cells line) (get_or ends line 0) (length_read reading) (are.short line)
      (λ place from to. are.empty line place there to from)

  -- lines behind the last end show nothing
  no_end : (line : ℕ) → length ends ≤ line → line < lines_read reading → has_no_cells (whole line) ≡ true
  no_end line behind there =
      let none : get_or ends line 0 ≡ 0 = get_or_past ends line 0 behind in
      ap has_no_cells (cut_all shows_nothing (cells line) (length_read reading)
      (λ place to. are.empty line place there to (subst (λ n. n ≤ place) (sym none) (omega arith))))

  same_lines : map whole (range_with_len 0 (length ends)) ≡ map made (range_with_len 0 (length ends))
  same_lines = fill_by_all made (map whole (range_with_len 0 (length ends))) (length ends) []
      (length-map-range_with_len whole 0 (length ends))
      (λ k below. get_or-map-range_with_len whole 0 (length ends) k k [] below (omega arith)
      ∙ same_line k (omega (arith, below, are.few)))

  pub lines_are : (line : ℕ) (lines : List (List Cell)) → line ≡ length ends
      → lines ≡ map made (range_with_len 0 line)
      → without_empty_end has_no_cells lines ≡ lines_shown cells (lines_read reading) (length_read reading)
  lines_are line lines all is =
      ap (without_empty_end has_no_cells) (is ∙ ap (λ n. map made (range_with_len 0 n)) all ∙ sym same_lines)
      ∙ sym (cut_short has_no_cells whole (length ends) (lines_read reading) are.few no_end)
