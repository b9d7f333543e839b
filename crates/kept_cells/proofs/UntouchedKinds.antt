-- Requests leave the cells that they don't touch, kind by kind.
use Rattle.std.proofs.Common.{◌≡◌, ◌≢◌, ℕ, ◌-◌, ◌<◌, ◌≤◌, refl, sym, ap, subst, ◌∙◌, inl, inr, List, [], ◌∷◌, ◌++◌, cond, Bool, true, false, arith}
use Rattle.std.specs.Prelude.{Option, Some, None, is_some, nat_lt, slice_get, unwrap_or, Result, Ok, Err}
use Rattle.std.specs.Option.{option_map_or}
use Rattle.std.proofs.lemmas.Bool.{cases_lt, false≢true}
use Rattle.cell_value.specs.Ids.{IsNewId, is_taken}
use Rattle.cell_value.specs.declared.cell.SheetProperties.{SheetProperties}
use Rattle.grid_range.specs.Area.{Holds, with_band}
use Rattle.grid_range.specs.declared.area.Area.{Area}
use Rattle.grid_range.specs.declared.axis.Axis.{Axis}
use Rattle.grid_range.specs.declared.axis.Axis.TheVariants.{Rows, Columns}
use Rattle.grid_range.specs.declared.band.Band.TheVariants.{Span}
use Rattle.grid_range.specs.declared.change.Change.{Change}
use Rattle.grid_range.specs.declared.change.Change.TheVariants.{Insert, Delete, Move}
use Rattle.protection.specs.Denial.{Cells}
use Rattle.world_model.specs.Book.{PlaceBook, orders_of}
use Rattle.world_model.specs.BookChange.{BookChange, Named, NamedStandsFor, changed_by, changed_by_all}
use Rattle.world_model.specs.BookChange.BookChange.{LinesChanged, SheetAdded, SheetDeleted, SheetTitled, SheetHidden, RangeChanged, WordsRenamed}
use Rattle.world_model.specs.Laws.{size_of}
use Rattle.world_model.specs.Leaving.{HasCell, LeaveInTurn, LeftCellsStay, Leaves}
use Rattle.world_model.specs.Sheet.{PlaceSheet}
use Rattle.world_model.specs.Sound.{place_sheet_with}
use Rattle.dimension_ops.specs.Broken.{Broken, first_broken}
use Rattle.dimension_ops.specs.Lines.{lines_broken}
use Rattle.dimension_ops.specs.SetProperties.{all_set, lines_added, lines_cut, mark_set, properties_set, size_given, size_set, title_set}
use Rattle.dimension_ops.specs.SheetRequests.{IsLeastId, has_id, new_place, sheet_added_broken}
use Rattle.dimension_ops.specs.RangeRequests.{range_set, range_updates}
use Rattle.dimension_ops.specs.declared.rule.Rule.{Rule}
use Rattle.dimension_ops.specs.declared.rule.Rule.TheVariants as rule
use Rattle.named_ranges.specs.Given.{given_range}
use Rattle.named_ranges.specs.Listed.{with_id}
use Rattle.named_ranges.specs.declared.range.NamedRange.{NamedRange}
use Rattle.values_api.specs.Denials.{AreaCells, HasCellOf, NoCells}
use Rattle.json_requests.specs.declared.request.DimensionRange.{DimensionRange}
use Rattle.sheets_json.specs.declared.spreadsheet.Reply.{Reply}
use Rattle.request_kinds.specs.AddSheet.{IsAdded, sheet_reply}
use Rattle.request_kinds.specs.DeleteSheet.{SheetCells}
use Rattle.request_kinds.specs.Dimensions.{DeletedCells, delete_broken, dimension_deleted, end_of, lines_area, lines_told, whole_sheet}
use Rattle.request_kinds.specs.UpdateSheetProperties.{LinesCut, lines_behind}
use Rattle.request_kinds.specs.TellingLaws.{as_reply, as_told, reply_apart, told_apart, told_same}
use Rattle.kept_cells.specs.Staying.{IsNamedBy, LeavesOthers, StaysAsEntered}
use Rattle.kept_cells.proofs.UntouchedCells.{AllKeep, AtHere, IsAt, IsBefore, added_keeps, all_leave, at_inside, both_keep, cut_keeps, here_cell, here_kept, insert_stays, is_placed, is_somewhere, lines_leave, move_stays, some_same, there_then}
use Rattle.kept_cells.proofs.UntouchedLines.{KeepsSheet, LineStays, cell_kept, kept}
use Rattle.kept_cells.proofs.UntouchedWrites.{area_has, named_by, on_sheet}

-- changes leave each cell but these, which are where they are once the first changes are made
abbrev pub Leave : List BookChange → Cells → PlaceBook → List BookChange → Type 0
Leave first cells book changes = (named : Named) (id row col : ℕ) → NamedStandsFor book named
    → HasCell id row col named.book → ¬ (IsNamedBy (changed_by_all named first).book cells id row col)
    → LeaveInTurn named changes id row col

-- what changes leave is there then, and holds what it held
pub stay : LeftCellsStay → (named : Named) (changes : List BookChange) (id row col : ℕ) → HasCell id row col named.book
    → LeaveInTurn named changes id row col → StaysAsEntered named changes id row col
stay stays named changes id row col there left = record {
  there = there_then id row col changes named there left;
  content = stays.stays named changes id row col there left;
}

pub left_stay : LeftCellsStay → (first : List BookChange) (cells : Cells) (book : PlaceBook) (changes : List BookChange)
    → Leave first cells book changes → LeavesOthers first cells book changes
left_stay stays first cells book changes leave named id row col stands there untouched =
    stay stays named changes id row col there (leave named id row col stands there untouched)

-- ---- what is told

pub told_unbroken : {A : Type 0} (first : Option Rule) (told : Result A Rule) (one : A)
    → as_told one ≡ option_map_or Err first told → told ≡ Ok one
told_unbroken None told one is = sym is
told_unbroken (Some broken) told one is = absurd (told_apart one broken is)

-- the changes that are told are those that would be
pub changes_told : (first : Option Rule) (reply reply' : Reply) (changes changes' : List BookChange)
    → as_reply (reply, changes) ≡ option_map_or Err first (Ok (reply', changes')) → changes' ≡ changes
changes_told first reply reply' changes changes' is =
    ap (λ (told : Reply × List BookChange). told.1)
    (told_same (reply', changes') (reply, changes) (told_unbroken first (Ok (reply', changes')) (reply, changes) is))

-- ---- changes of lines

module _ (book : PlaceBook) (cells : Cells) (sheet : ℕ) (axis : Axis) (reply : Reply) (changes : List BookChange) where
  told_lines : (broken : Broken) (change : Change)
      → as_reply (reply, changes) ≡ lines_told broken sheet axis change book.sheets
      → LinesChanged sheet axis change ∷ [] ≡ changes
  told_lines broken change is =
      changes_told (first_broken (lines_broken sheet axis change book.sheets)) reply _ changes
      (LinesChanged sheet axis change ∷ [])
      (sym (told_unbroken (first_broken broken) _ (reply, changes) is))

  lines_leave_all : (broken : Broken) (change : Change)
      → ((named : Named) (id row col : ℕ) → NamedStandsFor book named → HasCell id row col named.book
      → ¬ (IsNamedBy named.book cells id row col) → LineStays named sheet axis change id row col)
      → as_reply (reply, changes) ≡ lines_told broken sheet axis change book.sheets → Leave [] cells book changes
  lines_leave_all broken change stays is =
      subst (Leave [] cells book) (told_lines broken change is) (λ named id row col stands there untouched.
      lines_leave named sheet axis change id row col (stays named id row col stands there untouched) there)

  pub inserted_leave : (broken : Broken) (at more : ℕ)
      → as_reply (reply, changes) ≡ lines_told broken sheet axis (Insert at more) book.sheets
      → Leave [] cells book changes
  inserted_leave broken at more =
      lines_leave_all broken (Insert at more) (λ named id row col stands there untouched.
      insert_stays named sheet axis at more id row col)

  pub moved_leave : (broken : Broken) (start end to : ℕ)
      → as_reply (reply, changes) ≡ lines_told broken sheet axis (Move start end to) book.sheets
      → Leave [] cells book changes
  moved_leave broken start end to =
      lines_leave_all broken (Move start end to) (λ named id row col stands there untouched.
      move_stays named sheet axis start end to id row col)

-- the cells of deleted lines are touched, so that no other one's go
module _ (book : PlaceBook) (range : DimensionRange) (named : Named) (stands : NamedStandsFor book named)
    (id row col : ℕ) (there : HasCell id row col named.book)
    (untouched : ¬ (IsNamedBy named.book (DeletedCells range book.sheets) id row col)) where
  abbrev area : Area
  area = lines_area range book.sheets

  not_held : (r c : ℕ) → IsAt named.book id row col r c → id ≡ area.sheet → Holds area r c → ⊥
  not_held r c at own holds =
      untouched (named_by named.book (DeletedCells range book.sheets) id row col r c
      (area_has book named.book area id row col r c (is_placed book named stands id row col there) at own holds) at)

  abbrev IsOnAxis : Axis → ℕ → Type 0
  IsOnAxis Rows k = slice_get (orders_of named.book.sheets range.sheet_id Rows) k ≡ Some row
  IsOnAxis Columns k = slice_get (orders_of named.book.sheets range.sheet_id Columns) k ≡ Some col

  sheet_same : (axis : Axis)
      → (with_band axis (whole_sheet range.sheet_id) (Span range.start_index (end_of range book.sheets))).sheet
      ≡ range.sheet_id
  sheet_same Rows = refl
  sheet_same Columns = refl

  outside : (axis : Axis) → axis ≡ range.dimension → id ≡ range.sheet_id → (k : ℕ) → IsOnAxis axis k
      → range.start_index ≤ k → k < end_of range book.sheets → ⊥
  outside on same own k at late early = go on same at
    where
      somewhere : (r : ℕ) × (c : ℕ) × IsAt named.book id row col r c
      somewhere = is_somewhere named.book id row col there

      held : (axis : Axis) → axis ≡ range.dimension → (r c : ℕ) → IsAt named.book id row col r c
          → Holds (with_band axis (whole_sheet range.sheet_id)
          (Span range.start_index (end_of range book.sheets))) r c → ⊥
      held axis same r c at' holds =
          let is : lines_area range book.sheets
          ≡ with_band axis (whole_sheet range.sheet_id) (Span range.start_index (end_of range book.sheets)) =
          ap (λ on. with_band on (whole_sheet range.sheet_id) (Span range.start_index (end_of range book.sheets)))
          (sym same) in
          not_held r c at' (own ∙ sym (sheet_same range.dimension)) (subst (λ area. Holds area r c) (sym is) holds)

      go : (axis : Axis) → axis ≡ range.dimension → IsOnAxis axis k → ⊥
      go Rows same at' =
          let (r, c, here) = somewhere in
          held Rows same k c
          (subst (λ n. slice_get (orders_of named.book.sheets n Rows) k ≡ Some row) (sym own) at', here.1)
          ((late, early), tt)
      go Columns same at' =
          let (r, c, here) = somewhere in
          held Columns same r k
          (here.0, subst (λ n. slice_get (orders_of named.book.sheets n Columns) k ≡ Some col) (sym own) at')
          (tt, (late, early))

  pub deleted_stay : LineStays named range.sheet_id range.dimension
      (Delete range.start_index (end_of range book.sheets)) id row col
  deleted_stay =
      let order = orders_of named.book.sheets range.sheet_id range.dimension in
      record {
        row_stays = λ own same has. kept order row range.start_index (end_of range book.sheets) has (λ k at.
            outside Rows same own k
            (subst (λ on. slice_get (orders_of named.book.sheets range.sheet_id on) k ≡ Some row) (sym same) at));
        col_stays = λ own same has. kept order col range.start_index (end_of range book.sheets) has (λ k at.
            outside Columns same own k
            (subst (λ on. slice_get (orders_of named.book.sheets range.sheet_id on) k ≡ Some col) (sym same) at));
      }

pub deleted_leave : (book : PlaceBook) (range : DimensionRange) (reply : Reply) (changes : List BookChange)
    → as_reply (reply, changes) ≡ dimension_deleted range book.sheets
    → Leave [] (DeletedCells range book.sheets) book changes
deleted_leave book range reply changes =
    lines_leave_all book (DeletedCells range book.sheets) range.sheet_id range.dimension reply changes
    (delete_broken range book.sheets) (Delete range.start_index (end_of range book.sheets))
    (λ named id row col stands there untouched. deleted_stay book range named stands id row col there untouched)

-- ---- sheets

pub sheet_deleted_leave : (book : PlaceBook) (sheet : ℕ)
    → Leave [] (SheetCells sheet book.sheets) book (SheetDeleted sheet ∷ [])
sheet_deleted_leave book sheet named id row col stands there untouched =
    (tt, cell_kept named (SheetDeleted sheet) id row col apart there, tt)
  where
    apart : id ≢ sheet
    apart own =
        let (r, c, at) = is_somewhere named.book id row col there in
        untouched (named_by named.book (SheetCells sheet book.sheets) id row col r c
        (area_has book named.book (whole_sheet sheet) id row col r c
        (is_placed book named stands id row col there) at own
        (tt, tt)) at)

some_none : {A : Type 0} (x : A) → Some x ≡ None → ⊥
some_none x e = cc

sixth_unbroken : (first second third fourth fifth sixth : Rule) (a b c d e f : Bool) (rest : Option Rule)
    → cond a (Some first) (cond b (Some second) (cond c (Some third) (cond d (Some fourth) (cond e (Some fifth)
    (cond f (Some sixth) rest))))) ≡ None → f ≡ false
sixth_unbroken first second third fourth fifth sixth true b c d e f rest is = absurd (some_none first is)
sixth_unbroken first second third fourth fifth sixth false true c d e f rest is = absurd (some_none second is)
sixth_unbroken first second third fourth fifth sixth false false true d e f rest is = absurd (some_none third is)
sixth_unbroken first second third fourth fifth sixth false false false true e f rest is = absurd (some_none fourth is)
sixth_unbroken first second third fourth fifth sixth false false false false true f rest is =
    absurd (some_none fifth is)
sixth_unbroken first second third fourth fifth sixth false false false false false true rest is =
    absurd (some_none sixth is)
sixth_unbroken first second third fourth fifth sixth false false false false false false rest is = refl

id_free : (broken : Broken) → first_broken broken ≡ None → broken.id_taken ≡ false
id_free broken is =
    sixth_unbroken rule.BadShape rule.NoSheet rule.BadRange rule.OutsideGrid rule.NoId rule.IdTaken broken.bad_shape
    broken.no_sheet broken.bad_range broken.outside_grid broken.no_id broken.id_taken _ is

id_unused : (sheets : List PlaceSheet) (given : Option ℕ) (id : ℕ) → is_taken (has_id sheets) given ≡ false
    → IsNewId (IsLeastId sheets) given id → has_id sheets id ≡ false
id_unused sheets None id free new = new.unused
id_unused sheets (Some asked) id free new = ap (has_id sheets) new ∙ free

pub sheet_added_leave : (book : PlaceBook) (properties : SheetProperties) (first : Option Rule) (reply : Reply)
    (changes : List BookChange) → first_broken (sheet_added_broken properties book.sheets) ≡ first
    → IsAdded properties book.sheets first (as_reply (reply, changes)) → Leave [] NoCells book changes
sheet_added_leave book properties (Some broken) reply changes unbroken is named id row col stands there untouched =
    absurd (reply_apart (reply, changes) broken is)
sheet_added_leave book properties None reply changes unbroken (new, is_new, is) named id row col stands
    there untouched =
    subst (λ all. LeaveInTurn named all id row col)
    (changes_told None reply (sheet_reply properties book.sheets new) changes
    (SheetAdded (new_place properties book.sheets) new ∷ []) is)
    (apart, cell_kept named (SheetAdded (new_place properties book.sheets) new) id row col apart there, tt)
  where
    apart : new.id ≢ id
    apart same =
        let placed = is_placed book named stands id row col there in
        let free : has_id book.sheets new.id ≡ false =
        id_unused book.sheets properties.id new.id (id_free (sheet_added_broken properties book.sheets) unbroken)
        is_new.id in
        false≢true
        (sym free ∙ ap (has_id book.sheets) same ∙ ap (λ (found : Option PlaceSheet). is_some found) placed.there)

-- ---- properties of a sheet

axes_apart : Rows ≡ Columns → ⊥
axes_apart e = cc

module _ (book : PlaceBook) (sheet : ℕ) (properties : SheetProperties) (found : PlaceSheet)
    (there : place_sheet_with sheet book.sheets ≡ Some found) (id row col r c : ℕ)
    (inside : id ≡ sheet → (r < found.table.rows) × (c < found.table.cols))
    (untouched : ¬ (LinesCut sheet properties book.sheets id r c)) where
  abbrev Here : List BookChange → Type 0
  Here = AllKeep id row col (AtHere id row col r c) (here_cell id row col r c)

  abbrev Before : Axis → ℕ → Type 0
  Before axis at = IsBefore id row col r c sheet axis at

  title_keeps : (title : Option (List ℕ)) → Here (title_set sheet title)
  title_keeps None = tt
  title_keeps (Some title) = (here_kept id row col r c (SheetTitled sheet title) (λ named. tt) tt, tt)

  mark_keeps : (hidden : Option Bool) → Here (mark_set sheet hidden)
  mark_keeps None = tt
  mark_keeps (Some hidden) = (here_kept id row col r c (SheetHidden sheet hidden) (λ named. tt) tt, tt)

  if_keeps : (b : Bool) (changes : List BookChange) → Here changes → Here (cond b changes [])
  if_keeps true changes keeps = keeps
  if_keeps false changes keeps = tt

  cut_lines_keep : (axis : Axis) (lines given : ℕ) → Before axis given → Here (lines_cut sheet axis lines given)
  cut_lines_keep axis lines given before =
      if_keeps (nat_lt given lines) (LinesChanged sheet axis (Delete given lines) ∷ [])
      (cut_keeps id row col r c sheet axis given lines before, tt)

  added_lines_keep : (axis : Axis) (lines given : ℕ) → Before axis lines → Here (lines_added sheet axis lines given)
  added_lines_keep axis lines given before =
      if_keeps (nat_lt lines given) (LinesChanged sheet axis (Insert lines (given - lines)) ∷ [])
      (added_keeps id row col r c sheet axis lines (given - lines) before, tt)

  in_area : (some : Area) → some.sheet ≡ sheet → id ≡ sheet → Holds some r c → AreaCells book.sheets some id r c
  in_area some same own holds =
      on_sheet book.sheets some.sheet found (HasCellOf some) id r c
      (ap (λ n. place_sheet_with n book.sheets) same ∙ there)
      (own ∙ sym same)
      (let here = inside own in (holds, here.0, here.1))

  rows_before : (given : Option ℕ) → ¬ (AreaCells book.sheets (lines_behind sheet Rows given) id r c) → id ≡ sheet
      → r < unwrap_or given found.table.rows
  rows_before None cut own = (inside own).0
  rows_before (Some given) cut own =
      elim (cases_lt r given) [
        | inl early ↦ early
        | inr late ↦ absurd (cut (in_area (lines_behind sheet Rows (Some given)) refl own (late, tt)))
      ]

  cols_before : (given : Option ℕ) → ¬ (AreaCells book.sheets (lines_behind sheet Columns given) id r c) → id ≡ sheet
      → c < unwrap_or given found.table.cols
  cols_before None cut own = (inside own).1
  cols_before (Some given) cut own =
      elim (cases_lt c given) [
        | inl early ↦ early
        | inr late ↦ absurd (cut (in_area (lines_behind sheet Columns (Some given)) refl own (tt, late)))
      ]

  rows_given : Before Rows (unwrap_or properties.rows found.table.rows)
  rows_given = record {
    row_before = λ own same. rows_before properties.rows (λ cut.
        untouched (0, lines_behind sheet Rows properties.rows, omega arith, refl, cut)) own;
    col_before = λ own same. absurd (axes_apart same);
  }

  cols_given : Before Columns (unwrap_or properties.cols found.table.cols)
  cols_given = record {
    row_before = λ own same. absurd (axes_apart (sym same));
    col_before = λ own same. cols_before properties.cols (λ cut.
        untouched (1, lines_behind sheet Columns properties.cols, omega arith, refl, cut)) own;
  }

  rows_there : Before Rows found.table.rows
  rows_there = record {
    row_before = λ own same. (inside own).0;
    col_before = λ own same. absurd (axes_apart same);
  }

  cols_there : Before Columns found.table.cols
  cols_there = record {
    row_before = λ own same. absurd (axes_apart (sym same));
    col_before = λ own same. (inside own).1;
  }

  pub properties_keep : Here (all_set sheet properties (size_of found))
  properties_keep =
      let size = size_of found in
      let given = size_given properties size in
      let joined = both_keep id row col (AtHere id row col r c) (here_cell id row col r c) in
      joined (title_set sheet properties.title ++ mark_set sheet properties.hidden) (size_set sheet size given)
      (joined (title_set sheet properties.title) (mark_set sheet properties.hidden) (title_keeps properties.title)
      (mark_keeps properties.hidden))
      (joined (lines_cut sheet Rows size.0 given.0 ++ lines_cut sheet Columns size.1 given.1
      ++ lines_added sheet Rows size.0 given.0) (lines_added sheet Columns size.1 given.1)
      (joined (lines_cut sheet Rows size.0 given.0 ++ lines_cut sheet Columns size.1 given.1)
      (lines_added sheet Rows size.0 given.0)
      (joined (lines_cut sheet Rows size.0 given.0) (lines_cut sheet Columns size.1 given.1)
      (cut_lines_keep Rows size.0 given.0 rows_given) (cut_lines_keep Columns size.1 given.1 cols_given))
      (added_lines_keep Rows size.0 given.0 rows_there))
      (added_lines_keep Columns size.1 given.1 cols_there))

pub properties_leave : (book : PlaceBook) (sheet : ℕ) (properties : SheetProperties)
    → Leave [] (LinesCut sheet properties book.sheets) book (properties_set sheet properties book.sheets)
properties_leave book sheet properties named id row col stands there untouched =
    go (place_sheet_with sheet book.sheets) refl
  where
    go : (found : Option PlaceSheet) → place_sheet_with sheet book.sheets ≡ found
        → LeaveInTurn named (option_map_or (λ one. all_set sheet properties (size_of one)) found []) id row col
    go None is = tt
    go (Some found) is =
        let (r, c, at) = is_somewhere named.book id row col there in
        let placed = is_placed book named stands id row col there in
        let inside = at_inside book named.book id row col r c placed at in
        all_leave id row col (AtHere id row col r c) (here_cell id row col r c)
        (all_set sheet properties (size_of found))
        (properties_keep book sheet properties found is id row col r c
        (λ own.
        let same : placed.sheet ≡ found =
        some_same placed.sheet found
        (sym placed.there ∙ ap (λ n. place_sheet_with n book.sheets) own ∙ is) in
        subst (λ (one : PlaceSheet). (r < one.table.rows) × (c < one.table.cols)) same inside)
        (λ cut. untouched (named_by named.book (LinesCut sheet properties book.sheets) id row col r c cut at)))
        named at

-- ---- named ranges and protected ranges

pub plain_leave : (cells : Cells) (book : PlaceBook) (change : BookChange)
    → ((named : Named) (id row col : ℕ) → Leaves change named.book id row col) → ((id : ℕ) → KeepsSheet change id)
    → Leave [] cells book (change ∷ [])
plain_leave cells book change leaves keeps named id row col stands there untouched =
    (leaves named id row col, cell_kept named change id row col (keeps id) there, tt)

pub range_set_leave : (cells : Cells) (book : PlaceBook) (id : List ℕ) (name : Option (List ℕ)) (area : Option Area)
    → Leave [] cells book (range_updates id name area book.ranges)
range_set_leave cells book id name area named sheet row col stands there untouched = go (with_id id book.ranges)
  where
    renamed : (named : Named) (old : List ℕ) (name : Option (List ℕ)) → HasCell sheet row col named.book
        → LeaveInTurn named (option_map_or (λ given. WordsRenamed old given ∷ []) name []) sheet row col
    renamed named old None there = tt
    renamed named old (Some given) there = (tt, cell_kept named (WordsRenamed old given) sheet row col tt there, tt)

    go : (found : Option NamedRange)
        → LeaveInTurn named (option_map_or (range_set name area) found []) sheet row col
    go None = tt
    go (Some range) =
        let change = RangeChanged (given_range name area range) in
        let still = cell_kept named change sheet row col tt there in
        (tt, still, renamed (changed_by named change) range.name name still)
