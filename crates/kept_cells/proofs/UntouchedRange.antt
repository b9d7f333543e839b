-- Rows that are written to a range leave the cells that they don't touch: those that a merge covers are so, too, once
-- what the rows don't reach is emptied.
use Rattle.std.proofs.Common.{◌≡◌, ℕ, ◌+◌, ◌-◌, ◌<◌, ◌≤◌, refl, sym, ap, subst, ◌∙◌, inl, inr, List, [], length, drop, get_or, cond, Bool, true, false, arith, length-drop}
use Rattle.std.specs.Prelude.{Option, Some, None, Contains, ◌&&◌, ◌==◌, map, not, slice_get, slice_range}
use Rattle.std.specs.Option.{IsSome, option_map_or}
use Rattle.std.proofs.lemmas.Bool.{cases_order, false≢true}
use Rattle.std.proofs.lemmas.List.{get_or-drop, get_or-take, length-take-le}
use Rattle.std.proofs.lemmas.List.Elements.{All-contains}
use Rattle.std.proofs.lemmas.List.Folds.{Any-from_list_any, list_any-from_Any}
use Rattle.cell_value.specs.Elements.{Contains-map, Contains-map_from}
use Rattle.cell_value.specs.declared.cell.Block.{Block}
use Rattle.cell_value.specs.declared.entered.Input.{Input}
use Rattle.grid_range.specs.Area.{AreaWithin}
use Rattle.grid_range.specs.Band.{Within, end_line, first_line}
use Rattle.grid_range.specs.NameBand.{NameBand}
use Rattle.grid_range.specs.Order.{IsOrder}
use Rattle.grid_range.specs.declared.area.Area.{Area}
use Rattle.grid_range.specs.declared.axis.Axis.{Axis}
use Rattle.grid_range.specs.declared.axis.Axis.TheVariants.{Rows, Columns}
use Rattle.grid_range.specs.declared.band.Band.{Band}
use Rattle.grid_range.specs.declared.band.Band.TheVariants.{Whole, From, Span}
use Rattle.merge_ranges.specs.Merges.{HasEnds, IsMerge, covers, is_covered}
use Rattle.world_model.specs.Area.{NameArea, Orders, area_named, band_named}
use Rattle.world_model.specs.Book.{PlaceBook, orders_of}
use Rattle.world_model.specs.BookChange.{BookChange, Named, NamedStandsFor, changed_by}
use Rattle.world_model.specs.BookChange.BookChange.{CellsUpdated}
use Rattle.world_model.specs.Leaving.{HasCell}
use Rattle.world_model.specs.Sheet.{NameSheet, PlaceSheet}
use Rattle.world_model.specs.Sound.{AreMergesOf, place_sheet_with}
use Rattle.world_model.specs.Updating.{Updates, sheet_updated}
use Rattle.values_api.specs.Blocks.{given_value, input_at, lies_in, written}
use Rattle.values_api.specs.Denials.{FilledCells, WriteCells}
use Rattle.values_api.specs.Rest.{rest_cleared}
use Rattle.sheets_json.specs.declared.spreadsheet.Reply.{Reply}
use Rattle.request_kinds.specs.Rows.{AreRowsWritten, OnArea, area_or_broken, cut_on}
use Rattle.request_kinds.specs.UpdateCells.{rest_emptied}
use Rattle.values_api.specs.FoundLaws.{sheet_has_id, sound_sheet}
use Rattle.request_kinds.specs.TellingLaws.{as_reply}
use Rattle.kept_cells.proofs.UntouchedCells.{IsPlaced, as_many, is_placed, some_same}
use Rattle.kept_cells.proofs.UntouchedKinds.{Leave}
use Rattle.kept_cells.proofs.UntouchedLines.{cell_kept, lines_found, lines_kept, mapped_kept}
use Rattle.kept_cells.proofs.UntouchedRows.{on_area_done, put_leaves}
use Rattle.kept_cells.proofs.UntouchedWrites.{named_by, on_sheet, rest_leaves}

-- ---- an area with both ends is known by its lines

module _ (order : List ℕ) (distinct : IsOrder order) where
  range_length : (start end : ℕ) → end ≤ length order → length (slice_range order start end) ≡ end - start
  range_length start end there =
      length-take-le (end - start) (drop start order) (omega (arith, length-drop start order, there))

  range_first : (start end : ℕ) → start < end → get_or (slice_range order start end) 0 0 ≡ get_or order (start + 0) 0
  range_first start end some =
      get_or-take (end - start) (drop start order) 0 0 (omega (arith, some)) ∙ get_or-drop start order 0 0

  one_place : (one other : ℕ) → one < length order → other < length order → get_or order one 0 ≡ get_or order other 0
      → one ≡ other
  one_place one other there there' same =
      elim (cases_order one other) [
        | inl is ↦ is
        | inr apart ↦ elim apart [
          | inl less ↦ absurd (distinct one other 0 less there' same)
          | inr more ↦ absurd (distinct other one 0 more there (sym same))
        ]
      ]

  same_ends : (start end start' end' : ℕ) → Within (Span start end) (length order)
      → Within (Span start' end') (length order) → slice_range order start end ≡ slice_range order start' end'
      → (start ≡ start') × (end ≡ end')
  same_ends start end start' end' (some, inside) (some', inside') same =
      let first : get_or order (start + 0) 0 ≡ get_or order (start' + 0) 0 =
      sym (range_first start end some) ∙ ap (λ names. get_or names 0 0) same ∙ range_first start' end' some' in
      let one : start + 0 ≡ start' + 0 =
      one_place (start + 0) (start' + 0) (omega (arith, some, inside)) (omega (arith, some', inside')) first in
      let long : end - start ≡ end' - start' =
      sym (range_length start end inside) ∙ ap length same ∙ range_length start' end' inside' in
      let front : start ≡ start' = omega (arith, one) in
      (front, omega (arith, front, long, some, some'))

closed_same : (one other : List ℕ) → NameBand.Closed one ≡ NameBand.Closed other → one ≡ other
closed_same one other e = cc

same_band : (order : List ℕ) → IsOrder order → (one other : Band) → HasEnds one → HasEnds other
    → Within one (length order) → Within other (length order) → band_named order one ≡ band_named order other
    → one ≡ other
same_band order distinct Whole other ends ends' within within' same = absurd ends
same_band order distinct (From start) other ends ends' within within' same = absurd ends
same_band order distinct (Span start end) Whole ends ends' within within' same = absurd ends'
same_band order distinct (Span start end) (From start') ends ends' within within' same = absurd ends'
same_band order distinct (Span start end) (Span start' end') ends ends' within within' same =
    let (front, back) = same_ends order distinct start end start' end' within within' (closed_same _ _ same) in
    ap (λ start. Span start end) front ∙ ap (λ end. Span start' end) back

-- ---- merges that stand for the same ones

-- the merges of a sheet by places, with the orders of its lines
pub record IsMergesFound (orders : Orders) (id : ℕ) (merges : List Area) (named : List NameArea) : Type 0 where
  pub rows : IsOrder (orders id Rows)
  pub cols : IsOrder (orders id Columns)
  pub within : (area : Area) → Contains merges area → (area.sheet ≡ id) × (HasEnds area.rows × HasEnds area.cols)
      × (Within area.rows (length (orders id Rows)) × Within area.cols (length (orders id Columns)))
  pub to_named : (area : Area) → Contains merges area → Contains named (area_named orders area)
  pub from_named : (area : NameArea) → Contains named area → Contains (map (area_named orders) merges) area

merges_found : (book : PlaceBook) (named : Named) → NamedStandsFor book named → (id : ℕ)
    → (placed : IsPlaced book named.book id)
    → IsMergesFound (orders_of named.book.sheets) id placed.sheet.merges placed.names.merges
merges_found book named stands id placed =
    let sheets = named.book.sheets in
    let lines : (axis : Axis) → orders_of sheets id axis ≡ lines_found axis (Some placed.names) =
    λ axis. ap (lines_found axis) placed.named_there in
    let merges : AreMergesOf placed.sheet placed.sheet.merges =
    (sound_sheet book stands.stands.sound id placed.sheet placed.there).merges in
    let many = as_many book named.book id placed in
    record {
      rows = subst IsOrder (sym (lines Rows)) placed.stands.distinct_rows;
      cols = subst IsOrder (sym (lines Columns)) placed.stands.distinct_cols;
      within = λ area has.
          let own = All-contains (λ merge. (merge.sheet ≡ placed.sheet.id)
          × AreaWithin merge placed.sheet.table.rows placed.sheet.table.cols) placed.sheet.merges area merges.1 has in
          let is = All-contains IsMerge placed.sheet.merges area merges.0.each has in (
            own.0 ∙ sheet_has_id id book.sheets placed.sheet placed.there,
            is.0,
            (
              subst (Within area.rows) many.0 own.1.0,
              subst (Within area.cols) many.1 own.1.1,
            ),
          );
      to_named = λ area has.
          (placed.stands.merges (area_named (orders_of sheets) area)).1
          (Contains-map (area_named (orders_of sheets)) placed.sheet.merges area has);
      from_named = λ area has. (placed.stands.merges area).0 has;
    }

module _ (orders orders' : Orders) (id : ℕ) (same : (axis : Axis) → orders' id axis ≡ orders id axis)
    (merges merges' : List Area) (named : List NameArea) (found : IsMergesFound orders id merges named)
    (found' : IsMergesFound orders' id merges' named) where
  named_same : (area : Area) → area.sheet ≡ id → area_named orders' area ≡ area_named orders area
  named_same area own =
      let lines : (axis : Axis) → orders' area.sheet axis ≡ orders area.sheet axis =
      λ axis. ap (λ n. orders' n axis) own ∙ same axis ∙ sym (ap (λ n. orders n axis) own) in
      ap (λ order. record {
        sheet = area.sheet;
        rows = band_named order area.rows;
        cols = band_named (orders' area.sheet Columns) area.cols;
      }) (lines Rows)
      ∙ ap (λ order. record {
        sheet = area.sheet;
        rows = band_named (orders area.sheet Rows) area.rows;
        cols = band_named order area.cols;
      }) (lines Columns)

  same_area : (one other : Area) → Contains merges one → Contains merges' other
      → area_named orders one ≡ area_named orders other → one ≡ other
  same_area one other has has' is =
      let (own, ends, within) = found.within one has in
      let (own', ends', within') = found'.within other has' in
      let same_rows : band_named (orders id Rows) one.rows ≡ band_named (orders id Rows) other.rows =
      sym (ap (λ n. band_named (orders n Rows) one.rows) own) ∙ ap (λ (area : NameArea). area.rows) is
      ∙ ap (λ n. band_named (orders n Rows) other.rows) own' in
      let same_cols : band_named (orders id Columns) one.cols ≡ band_named (orders id Columns) other.cols =
      sym (ap (λ n. band_named (orders n Columns) one.cols) own) ∙ ap (λ (area : NameArea). area.cols) is
      ∙ ap (λ n. band_named (orders n Columns) other.cols) own' in
      let rows : one.rows ≡ other.rows =
      same_band (orders id Rows) found.rows one.rows other.rows ends.0 ends'.0 within.0
      (subst (λ order. Within other.rows (length order)) (same Rows) within'.0) same_rows in
      let cols : one.cols ≡ other.cols =
      same_band (orders id Columns) found.cols one.cols other.cols ends.1 ends'.1 within.1
      (subst (λ order. Within other.cols (length order)) (same Columns) within'.1) same_cols in
      ap (λ sheet. record { sheet = sheet; rows = one.rows; cols = one.cols }) (own ∙ sym own')
      ∙ ap (λ rows. record { sheet = other.sheet; rows = rows; cols = one.cols }) rows
      ∙ ap (λ cols. record { sheet = other.sheet; rows = other.rows; cols = cols }) cols

  still_listed : (area : Area) → Contains merges area → Contains merges' area
  still_listed area has =
      let (other, has', is) = Contains-map_from (area_named orders') merges' (area_named orders area)
      (found'.from_named (area_named orders area) (found.to_named area has)) in
      subst (Contains merges')
      (sym (same_area area other has has' (sym is ∙ named_same other (found'.within other has').0))) has'

  pub still_covered : (r c : ℕ) → is_covered merges r c ≡ true → is_covered merges' r c ≡ true
  still_covered r c covered =
      let (k, area, there, is, covers_it) = Any-from_list_any (λ merge. covers merge r c) merges covered in
      let (k', there', is') = still_listed area (k, there, is) in
      list_any-from_Any (λ merge. covers merge r c) merges' (k', area, there', is', covers_it)

-- ---- the write

id_if : (b : Bool) (one other : NameSheet) → one.id ≡ other.id → (cond b one other).id ≡ other.id
id_if true one other same = same
id_if false one other same = refl

merges_if : (b : Bool) (one other : NameSheet) → one.merges ≡ other.merges → (cond b one other).merges ≡ other.merges
merges_if true one other same = same
merges_if false one other same = refl

abbrev IsWrote : Bool → Bool → Option Input → Type 0
IsWrote inside covered value = IsSome (cond (inside && not covered) value None)

-- what is written where no merge covers a cell is written where none did before
was_written : (inside covered covered' : Bool) (value : Option Input) → (covered ≡ true → covered' ≡ true)
    → IsWrote inside covered' value → IsWrote inside covered value
was_written true false false value still wrote = wrote
was_written true true false value still wrote = absurd (false≢true (still refl))
was_written true covered true value still wrote = absurd (false≢true wrote)
was_written false covered covered' value still wrote = absurd (false≢true wrote)

module _ (area : Area) (block : Block) (r c : ℕ) where
  abbrev inside_of : ℕ → ℕ → Bool
  inside_of rows cols = lies_in (first_line area.rows) (end_line area.rows rows) r
      && lies_in (first_line area.cols) (end_line area.cols cols) c

  abbrev value_of : Option Input
  value_of = given_value (input_at block (r - first_line area.rows) (c - first_line area.cols))

  still_written : (sheet sheet' : PlaceSheet) → sheet.table.rows ≡ sheet'.table.rows → sheet.table.cols
      ≡ sheet'.table.cols
      → (is_covered sheet.merges r c ≡ true → is_covered sheet'.merges r c ≡ true)
      → IsSome (written false area block sheet' r c) → IsSome (written false area block sheet r c)
  still_written sheet sheet' rows cols still wrote =
      let sizes : inside_of sheet'.table.rows sheet'.table.cols ≡ inside_of sheet.table.rows sheet.table.cols =
      ap (λ n. inside_of n sheet'.table.cols) (sym rows) ∙ ap (inside_of sheet.table.rows) (sym cols) in
      was_written (inside_of sheet.table.rows sheet.table.cols) (is_covered sheet.merges r c)
      (is_covered sheet'.merges r c)
      value_of still (subst (λ inside. IsWrote inside (is_covered sheet'.merges r c) value_of) sizes wrote)

module _ (book : PlaceBook) (named : Named) (stands : NamedStandsFor book named) (sheet : ℕ) (updates : Updates)
    (between : PlaceBook) (id row col : ℕ) (there : HasCell id row col named.book) where
  abbrev pub change : BookChange
  change = CellsUpdated sheet updates

  abbrev pub then : Named
  then = changed_by named change

  module _ (stands_then : NamedStandsFor between then) where
    there_still : HasCell id row col then.book
    there_still = cell_kept named change id row col tt there

    pub placed : IsPlaced book named.book id
    placed = is_placed book named stands id row col there

    pub placed_then : IsPlaced between then.book id
    placed_then = is_placed between then stands_then id row col there_still

    same_lines_then : (axis : Axis) → orders_of then.book.sheets id axis ≡ orders_of named.book.sheets id axis
    same_lines_then axis = lines_kept named id axis change tt

    same_merges : placed_then.names.merges ≡ placed.names.merges
    same_merges =
        let look : Option NameSheet → List NameArea =
        λ found. option_map_or (λ (one : NameSheet). one.merges) found [] in
        sym (ap look placed_then.named_there)
        ∙ mapped_kept (λ one. one.merges) [] (sheet_updated (orders_of named.book.sheets) sheet updates)
        (λ one. id_if (one.id == sheet) _ one refl) (λ one. merges_if (one.id == sheet) _ one refl) id named.book.sheets
        ∙ ap look placed.named_there

    pub covered_still : (r c : ℕ) → is_covered placed.sheet.merges r c ≡ true
        → is_covered placed_then.sheet.merges r c ≡ true
    covered_still =
        still_covered (orders_of named.book.sheets) (orders_of then.book.sheets) id same_lines_then placed.sheet.merges
        placed_then.sheet.merges placed.names.merges (merges_found book named stands id placed)
        (subst (IsMergesFound (orders_of then.book.sheets) id placed_then.sheet.merges) same_merges
        (merges_found between then stands_then id placed_then))

    -- what is written once cells are emptied is touched
    pub was_touched : (area : Area) (rows : Block) (own : id ≡ area.sheet) (found : PlaceSheet)
        → place_sheet_with area.sheet between.sheets ≡ Some found → (r c : ℕ)
        → IsSome (written false area rows found r c)
        → WriteCells book.sheets false area rows id r c
    was_touched area rows own found is r c wrote =
        let many = as_many book named.book id placed in
        let many_then = as_many between then.book id placed_then in
        let same : found ≡ placed_then.sheet =
        some_same found placed_then.sheet
        (sym is ∙ ap (λ n. place_sheet_with n between.sheets) (sym own) ∙ placed_then.there) in
        on_sheet book.sheets area.sheet placed.sheet
        (λ one row col. IsSome (written false area rows one row col)) id r c
        (ap (λ n. place_sheet_with n book.sheets) (sym own) ∙ placed.there) own
        (still_written area rows r c placed.sheet placed_then.sheet
        (many.0 ∙ ap length (sym (same_lines_then Rows)) ∙ sym many_then.0)
        (many.1 ∙ ap length (sym (same_lines_then Columns)) ∙ sym many_then.1)
        (covered_still r c)
        (subst (λ one. IsSome (written false area rows one r c)) same wrote))

rows_filled_leave : (rows : Block) (area : Area) (book : PlaceBook) (reply : Reply) (changes : List BookChange)
    → AreRowsWritten (rest_emptied area rows) rows false book area (as_reply (reply, changes))
    → Leave [] (FilledCells book.sheets area rows) book changes
rows_filled_leave rows area book reply changes is named id row col stands there untouched =
    let first = rest_emptied area rows in
    let updates = rest_cleared area rows in
    let named' = changed_by named (CellsUpdated area.sheet updates) in
    put_leaves first rows false is.between area reply changes is.put named id row col there
    (rest_leaves book named stands area id row col there rows
    (λ touched. untouched (named_by named.book (FilledCells book.sheets area rows) id row col touched.row_place
    touched.col_place (inr touched.is) (touched.row_there, touched.col_there))))
    (λ own r c at wrote. untouched (named_by named.book (FilledCells book.sheets area rows) id row col r c
    (inl (was_touched book named stands area.sheet updates is.between id row col there (is.changed.names named stands)
    area rows own is.put.sheet is.put.there r c wrote)) (
      ap (λ order. slice_get order r) (sym (lines_kept named id Rows (CellsUpdated area.sheet updates) tt)) ∙ at.0,
      ap (λ order. slice_get order c) (sym (lines_kept named id Columns (CellsUpdated area.sheet updates) tt)) ∙ at.1,
    )))

pub range_leave : (rows : Block) (range : Area) (book : PlaceBook) (reply : Reply) (changes : List BookChange)
    → OnArea (area_or_broken book.sheets range) (λ area. AreRowsWritten (rest_emptied area rows) rows false book area)
    (as_reply (reply, changes))
    → Leave [] (FilledCells book.sheets (cut_on (place_sheet_with range.sheet book.sheets) range) rows) book changes
range_leave rows range book reply changes is =
    rows_filled_leave rows (cut_on (place_sheet_with range.sheet book.sheets) range) book reply changes
    (on_area_done book.sheets range (λ area. AreRowsWritten (rest_emptied area rows) rows false book area)
    (reply, changes)
    is)
