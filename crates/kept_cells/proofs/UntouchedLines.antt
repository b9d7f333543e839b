-- The lines of a sheet after a change, and a cell that stays where its lines do.
use Rattle.std.proofs.Common.{◌≡◌, ◌≢◌, ◌⊎◌, inl, inr, ℕ, suc, ◌+◌, ◌-◌, ◌<◌, ◌≤◌, refl, sym, ap, subst, ◌∙◌, List, [], ◌∷◌, ◌++◌, length, take, drop, get_or, cond, Bool, true, false, arith, length-drop}
use Rattle.std.specs.Prelude.{Option, Some, None, Contains, IsSomeAnd, ◌==◌, ◌&&◌, nat_le, map, not, slice_get, slice_range}
use Rattle.std.specs.List.{before_first, position_or_len, range_with_len}
use Rattle.std.specs.Option.{option_map, option_map_or}
use Rattle.std.proofs.lemmas.Bool.{cases_lt, eqb-true}
use Rattle.std.proofs.lemmas.List.{get_or-drop, get_or-take, length-take, take-append-drop}
use Rattle.std.proofs.lemmas.List.Elements.{Contains-append_cases, Contains-append_left, Contains-append_right}
use Rattle.std.proofs.lemmas.Option.{slice_get-get_or, slice_get_within, get_or_from_slice_get}
use Rattle.cell_value.specs.Elements.{Contains-cons, Contains-cons_cases, Contains-head, nothing_in}
use Rattle.grid_range.specs.Change.{inserted_lines, order_change}
use Rattle.grid_range.specs.Order.{from_first}
use Rattle.grid_range.specs.OrderChange.{order_after, put_before}
use Rattle.grid_range.specs.OrderChange.OrderChange.{Inserting, Deleting, Moving}
use Rattle.grid_range.specs.declared.axis.Axis.{Axis}
use Rattle.grid_range.specs.declared.axis.Axis.TheVariants.{Rows, Columns}
use Rattle.grid_range.specs.declared.change.Change.{Change}
use Rattle.world_model.specs.Area.{area_named}
use Rattle.world_model.specs.Book.{NameBook, orders_of, sheet_with}
use Rattle.world_model.specs.BookChange.{BookChange, Named, changed_by, filtered, marked_hidden, merged, new_sheet, sheet_renamed, titled, without_references}
use Rattle.world_model.specs.BookChange.BookChange.{CellsUpdated, LinesChanged, SheetAdded, SheetDeleted, SheetTitled, SheetHidden}
use Rattle.world_model.specs.BookChange.BookChange.{RangeAdded, RangeChanged, RangeDeleted, WordsRenamed, MergesSet, FilterSet, ProtectionsSet, MetadataSet}
use Rattle.world_model.specs.Filters.{filter_named}
use Rattle.world_model.specs.Leaving.{HasCell}
use Rattle.world_model.specs.LineChange.{LineChange, line_change, sheet_followed, with_all_followed, with_lines}
use Rattle.world_model.specs.Sheet.{NameSheet, lines_of}
use Rattle.world_model.specs.SheetFound.{find_beside, find_kept, find_left, others}
use Rattle.world_model.specs.Updating.{sheet_updated}

-- ---- a cell, by the lines of its sheet

abbrev pub lines_found : Axis → Option NameSheet → List ℕ
lines_found axis found = option_map_or (λ sheet. lines_of sheet axis) found []

found_lines : (row col : ℕ) (found : Option NameSheet)
    → IsSomeAnd found (λ sheet. Contains sheet.rows row × Contains sheet.cols col)
    → Contains (lines_found Rows found) row × Contains (lines_found Columns found) col
found_lines row col None there = absurd there
found_lines row col (Some sheet) there = there

found_cell : (row col : ℕ) (found : Option NameSheet) → Contains (lines_found Rows found) row
    → Contains (lines_found Columns found) col
    → IsSomeAnd found (λ sheet. Contains sheet.rows row × Contains sheet.cols col)
found_cell row col None rows cols = nothing_in row rows
found_cell row col (Some sheet) rows cols = (rows, cols)

-- the lines of a cell are lines of its sheet
pub cell_lines : (id row col : ℕ) (book : NameBook) → HasCell id row col book
    → Contains (orders_of book.sheets id Rows) row × Contains (orders_of book.sheets id Columns) col
cell_lines id row col book = found_lines row col (sheet_with id book.sheets)

pub lines_cell : (id row col : ℕ) (book : NameBook) → Contains (orders_of book.sheets id Rows) row
    → Contains (orders_of book.sheets id Columns) col → HasCell id row col book
lines_cell id row col book = found_cell row col (sheet_with id book.sheets)

-- ---- sheets that keep their lines

abbrev KeepsLines : NameSheet → NameSheet → Type 0
KeepsLines one other = (one.id ≡ other.id) × (one.rows ≡ other.rows) × (one.cols ≡ other.cols)

keeps_if : (b : Bool) (one other : NameSheet) → KeepsLines one other → KeepsLines (cond b one other) other
keeps_if true one other keeps = keeps
keeps_if false one other keeps = (refl, refl, refl)

same_lines : (axis : Axis) (one other : NameSheet) → KeepsLines one other → lines_of one axis ≡ lines_of other axis
same_lines Rows one other keeps = keeps.1
same_lines Columns one other keeps = keeps.2

-- what is seen of the sheet that is found is as before where each sheet keeps its id and what is seen of it
module _ {X : Type 0} (look : NameSheet → X) (none : X) where
  abbrev look_found : Option NameSheet → X
  look_found found = option_map_or look found none

  look_kept : (changed : NameSheet → NameSheet) → ((sheet : NameSheet) → look (changed sheet) ≡ look sheet)
      → (found : Option NameSheet) → look_found (option_map changed found) ≡ look_found found
  look_kept changed same None = refl
  look_kept changed same (Some sheet) = same sheet

  pub mapped_kept : (changed : NameSheet → NameSheet) → ((sheet : NameSheet) → (changed sheet).id ≡ sheet.id)
      → ((sheet : NameSheet) → look (changed sheet) ≡ look sheet) → (id : ℕ) (sheets : List NameSheet)
      → look_found (sheet_with id (map changed sheets)) ≡ look_found (sheet_with id sheets)
  mapped_kept changed same_id same id sheets =
      ap look_found (find_kept changed same_id id sheets) ∙ look_kept changed same (sheet_with id sheets)

mapped_lines : (changed : NameSheet → NameSheet) → ((sheet : NameSheet) → KeepsLines (changed sheet) sheet)
    → (id : ℕ) (axis : Axis) (sheets : List NameSheet)
    → orders_of (map changed sheets) id axis ≡ orders_of sheets id axis
mapped_lines changed keeps id axis =
    mapped_kept (λ sheet. lines_of sheet axis) [] changed (λ sheet. (keeps sheet).0)
    (λ sheet. same_lines axis (changed sheet) sheet (keeps sheet)) id

-- ---- a change that leaves the lines of the sheet as they are

abbrev pub KeepsSheet : BookChange → ℕ → Type 0
KeepsSheet (LinesChanged sheet axis change) id = ⊥
KeepsSheet (SheetAdded at sheet) id = sheet.id ≢ id
KeepsSheet (SheetDeleted sheet) id = id ≢ sheet
KeepsSheet (CellsUpdated sheet updates) id = Unit {0}
KeepsSheet (SheetTitled sheet title) id = Unit {0}
KeepsSheet (SheetHidden sheet hidden) id = Unit {0}
KeepsSheet (RangeAdded range) id = Unit {0}
KeepsSheet (RangeChanged range) id = Unit {0}
KeepsSheet (RangeDeleted range) id = Unit {0}
KeepsSheet (WordsRenamed old new) id = Unit {0}
KeepsSheet (MergesSet sheet merges) id = Unit {0}
KeepsSheet (FilterSet sheet given) id = Unit {0}
KeepsSheet (ProtectionsSet protections) id = Unit {0}
KeepsSheet (MetadataSet items) id = Unit {0}

module _ (named : Named) (id : ℕ) (axis : Axis) where
  abbrev sheets : List NameSheet
  sheets = named.book.sheets

  pub lines_kept : (change : BookChange) → KeepsSheet change id
      → orders_of (changed_by named change).book.sheets id axis ≡ orders_of named.book.sheets id axis
  lines_kept (LinesChanged sheet on change) keeps = absurd keeps
  lines_kept (SheetAdded at sheet) keeps =
      ap (lines_found axis) (find_beside (new_sheet named.next sheet) id keeps at sheets)
  lines_kept (SheetDeleted sheet) keeps =
      mapped_lines (without_references sheet) (λ one. (refl, refl, refl)) id axis (others sheet sheets)
      ∙ ap (lines_found axis) (find_left sheet id sheets keeps)
  lines_kept (CellsUpdated sheet updates) keeps =
      mapped_lines (sheet_updated (orders_of sheets) sheet updates)
      (λ one. keeps_if (one.id == sheet) _ one (refl, refl, refl)) id axis sheets
  lines_kept (SheetTitled sheet title) keeps =
      mapped_lines (λ one. cond (one.id == sheet) (titled title one) one)
      (λ one. keeps_if (one.id == sheet) (titled title one) one (refl, refl, refl)) id axis sheets
  lines_kept (SheetHidden sheet hidden) keeps =
      mapped_lines (λ one. cond (one.id == sheet) (marked_hidden hidden one) one)
      (λ one. keeps_if (one.id == sheet) (marked_hidden hidden one) one (refl, refl, refl)) id axis sheets
  lines_kept (MergesSet sheet merges) keeps =
      let by_names = map (area_named (orders_of sheets)) merges in
      mapped_lines (λ one. cond (one.id == sheet) (merged by_names one) one)
      (λ one. keeps_if (one.id == sheet) (merged by_names one) one (refl, refl, refl)) id axis sheets
  lines_kept (FilterSet sheet given) keeps =
      let by_names = option_map (filter_named (orders_of sheets)) given in
      mapped_lines (λ one. cond (one.id == sheet) (filtered by_names one) one)
      (λ one. keeps_if (one.id == sheet) (filtered by_names one) one (refl, refl, refl)) id axis sheets
  lines_kept (WordsRenamed old new) keeps =
      mapped_lines (sheet_renamed old new) (λ one. (refl, refl, refl)) id axis sheets
  lines_kept (RangeAdded range) keeps = refl
  lines_kept (RangeChanged range) keeps = refl
  lines_kept (RangeDeleted range) keeps = refl
  lines_kept (ProtectionsSet protections) keeps = refl
  lines_kept (MetadataSet items) keeps = refl

-- ---- a change of the lines of a sheet

followed_id : (to : LineChange) (sheet : NameSheet) → (sheet_followed to sheet).id ≡ sheet.id
followed_id to sheet = go (sheet.id == to.sheet) to.axis
  where
    go : (b : Bool) (axis : Axis) → (cond b (with_lines axis to.order sheet) sheet).id ≡ sheet.id
    go false axis = refl
    go true Rows = refl
    go true Columns = refl

-- what holds of the lines of a sheet before a change, and of its new order where that is theirs, holds afterwards
module _ (P : List ℕ → Type 0) (on : Axis) (order : List ℕ) where
  holds_in : (b : Bool) (axis : Axis) (sheet : NameSheet) → P (lines_of sheet on) → (b ≡ true → on ≡ axis → P order)
      → P (lines_of (cond b (with_lines axis order sheet) sheet) on)
  holds_in false axis sheet holds new = holds
  holds_in true axis sheet holds new = own on axis holds (new refl)
    where
      own : (on axis : Axis) → P (lines_of sheet on) → (on ≡ axis → P order)
          → P (lines_of (with_lines axis order sheet) on)
      own Rows Rows holds new = new refl
      own Columns Columns holds new = new refl
      own Rows Columns holds new = holds
      own Columns Rows holds new = holds

all_followed : (to : LineChange) (sheet : NameSheet) (on : Axis) → lines_of (with_all_followed to sheet) on
    ≡ lines_of sheet on
all_followed to sheet Rows = refl
all_followed to sheet Columns = refl

module _ (P : List ℕ → Type 0) (on : Axis) (to : LineChange) (id : ℕ) where
  holds_one : (b : Bool) (sheet : NameSheet) (found found' : Option NameSheet) → (sheet.id == id) ≡ b
      → (P (lines_found on found) → P (lines_found on found')) → (id ≡ to.sheet → on ≡ to.axis → P to.order)
      → P (lines_found on (cond b (Some sheet) found))
      → P (lines_found on (cond b (Some (sheet_followed to sheet)) found'))
  holds_one false sheet found found' is rest new holds = rest holds
  holds_one true sheet found found' is rest new holds =
      subst P (sym (all_followed to (cond (sheet.id == to.sheet) (with_lines to.axis to.order sheet) sheet) on))
      (holds_in P on to.order (sheet.id == to.sheet) to.axis sheet holds
      (λ own. new (sym (eqb-true sheet.id id is) ∙ eqb-true sheet.id to.sheet own)))

  holds_followed : (sheets : List NameSheet) → (id ≡ to.sheet → on ≡ to.axis → P to.order)
      → P (orders_of sheets id on) → P (orders_of (map (sheet_followed to) sheets) id on)
  holds_followed [] new holds = holds
  holds_followed (sheet ∷ sheets) new holds =
      subst (λ one. P (lines_found on (cond (one == id) (Some (sheet_followed to sheet))
      (sheet_with id (map (sheet_followed to) sheets))))) (sym (followed_id to sheet))
      (holds_one (sheet.id == id) sheet (sheet_with id sheets) (sheet_with id (map (sheet_followed to) sheets)) refl
      (holds_followed sheets new) new holds)

-- the order that a change makes of lines, where it is the change of a spreadsheet's
abbrev pub order_then : Named → ℕ → Axis → Change → List ℕ
order_then named sheet axis change =
    order_after (order_change change (range_with_len named.next (inserted_lines change)))
    (orders_of named.book.sheets sheet axis)

pub holds_then : (P : List ℕ → Type 0) (named : Named) (sheet : ℕ) (axis : Axis) (change : Change) (id : ℕ) (on : Axis)
    → (id ≡ sheet → on ≡ axis → P (order_then named sheet axis change)) → P (orders_of named.book.sheets id on)
    → P (orders_of (changed_by named (LinesChanged sheet axis change)).book.sheets id on)
holds_then P named sheet axis change id on new holds =
    let fresh = range_with_len named.next (inserted_lines change) in
    holds_followed P on (line_change named.book.sheets sheet axis (order_change change fresh)) id
    named.book.sheets new holds

-- ---- which lines an order has then

module _ (order : List ℕ) (line : ℕ) where
  in_front : (start k : ℕ) → k < start → slice_get order k ≡ Some line → Contains (take start order) line
  in_front start k early at =
      let inside : k < length order = slice_get_within order k line at in (
        k,
        omega (arith, length-take start order, early, inside),
        get_or-take start order k line early ∙ get_or_from_slice_get order k line line at,
      )

  behind : (end k : ℕ) → end ≤ k → slice_get order k ≡ Some line → Contains (drop end order) line
  behind end k late at =
      let inside : k < length order = slice_get_within order k line at in
      let place : end + (k - end) ≡ k = omega (arith, late) in (
        k - end,
        omega (arith, length-drop end order, late, inside),
        get_or-drop end order (k - end) line ∙ ap (λ n. get_or order n line) place
            ∙ get_or_from_slice_get order k line line at,
      )

  between : (start end k : ℕ) → start ≤ k → k < end → slice_get order k ≡ Some line
      → Contains (slice_range order start end) line
  between start end k late early at =
      let inside : k < length order = slice_get_within order k line at in
      let place : start + (k - start) ≡ k = omega (arith, late) in
      let soon : k - start < end - start = omega (arith, late, early) in (
        k - start,
        omega (arith, length-take (end - start) (drop start order), length-drop start order, late, early, inside),
        get_or-take (end - start) (drop start order) (k - start) line soon ∙ get_or-drop start order (k - start) line
            ∙ ap (λ n. get_or order n line) place ∙ get_or_from_slice_get order k line line at,
      )

  pub place_of : Contains order line → (k : ℕ) × (slice_get order k ≡ Some line)
  place_of (k, there, is) = (k, slice_get-get_or order k line there ∙ ap Some is)

  pub line_at : (k : ℕ) → slice_get order k ≡ Some line → Contains order line
  line_at k at = (k, slice_get_within order k line at, get_or_from_slice_get order k line line at)

  pub inserted : (at : ℕ) (fresh : List ℕ) → Contains order line
      → Contains (order_after (Inserting at fresh) order) line
  inserted at fresh has =
      elim (Contains-append_cases (take at order) (drop at order) line
      (subst (λ all. Contains all line) (sym (take-append-drop at order)) has)) [
        | inl front ↦ Contains-append_left (take at order ++ fresh) (drop at order) line
            (Contains-append_left (take at order) fresh line front)
        | inr back ↦ Contains-append_right (take at order ++ fresh) (drop at order) line back
      ]

  -- it stands before the start or behind the end
  kept_at : (start end k : ℕ) → slice_get order k ≡ Some line → (start ≤ k → k < end → ⊥)
      → Contains (take start order ++ drop end order) line
  kept_at start end k at outside =
      elim (cases_lt k start) [
        | inl early ↦ Contains-append_left (take start order) (drop end order) line (in_front start k early at)
        | inr late ↦ elim (cases_lt k end) [
          | inl soon ↦ absurd (outside late soon)
          | inr past ↦ Contains-append_right (take start order) (drop end order) line (behind end k past at)
        ]
      ]

  pub kept : (start end : ℕ) → Contains order line
      → ((k : ℕ) → slice_get order k ≡ Some line → start ≤ k → k < end → ⊥)
      → Contains (order_after (Deleting start end) order) line
  kept start end has outside =
      let (k, at) = place_of has in
      kept_at start end k at (outside k at)

  in_more : (test : ℕ → Bool) (one : ℕ) (lines : List ℕ) → Contains (one ∷ before_first test lines) line
      → Contains (take (1 + position_or_len test lines) (one ∷ lines)) line
  in_more test one lines has =
      let more : suc (position_or_len test lines) ≡ 1 + position_or_len test lines = omega arith in
      subst (λ n. Contains (take n (one ∷ lines)) line) more has

  rest_kept : (test : ℕ → Bool) (lines : List ℕ) → Contains lines line
      → Contains (before_first test lines) line ⊎ Contains (from_first test lines) line
  rest_kept test [] has = absurd (nothing_in line has)
  rest_kept test (one ∷ lines) has =
      elim (test one) as (λ b. Contains (take (cond (not b) (1 + position_or_len test lines) 0) (one ∷ lines)) line
      ⊎ Contains (cond b (one ∷ lines) (from_first test lines)) line) [
        | true ↦ inr has
        | false ↦ elim (Contains-cons_cases one line lines has) [
          | inl same ↦ inl (in_more test one lines (subst (Contains (one ∷ before_first test lines)) same
              (Contains-head one (before_first test lines))))
          | inr later ↦ elim (rest_kept test lines later) [
            | inl front ↦ inl (in_more test one lines (Contains-cons one line (before_first test lines) front))
            | inr back ↦ inr back
          ]
        ]
      ]

  -- lines that are put among others leave these there, and are there, too
  put_among : (to : Option ℕ) (names lines : List ℕ) → Contains lines line ⊎ Contains names line
      → Contains (put_before to names lines) line
  put_among None names lines (inl has) = Contains-append_left lines names line has
  put_among None names lines (inr has) = Contains-append_right lines names line has
  put_among (Some name) names lines (inr has) =
      let test : ℕ → Bool = λ n. n == name in
      Contains-append_left (before_first test lines ++ names) (from_first test lines) line
      (Contains-append_right (before_first test lines) names line has)
  put_among (Some name) names lines (inl has) =
      let test : ℕ → Bool = λ n. n == name in
      elim (rest_kept test lines has) [
        | inl front ↦ Contains-append_left (before_first test lines ++ names) (from_first test lines) line
            (Contains-append_left (before_first test lines) names line front)
        | inr back ↦ Contains-append_right (before_first test lines ++ names) (from_first test lines) line back
      ]

  moved_from : (start end k : ℕ) → slice_get order k ≡ Some line
      → Contains (take start order ++ drop end order) line ⊎ Contains (slice_range order start end) line
  moved_from start end k at =
      elim (cases_lt k start) [
        | inl early ↦ inl (Contains-append_left (take start order) (drop end order) line (in_front start k early at))
        | inr late ↦ elim (cases_lt k end) [
          | inl soon ↦ inr (between start end k late soon at)
          | inr past ↦ inl (Contains-append_right (take start order) (drop end order) line (behind end k past at))
        ]
      ]

  moved_if : (b : Bool) (one other : List ℕ) → Contains one line → Contains other line
      → Contains (cond b one other) line
  moved_if true one other has has' = has
  moved_if false one other has has' = has'

  pub moved : (start end to : ℕ) → Contains order line → Contains (order_after (Moving start end to) order) line
  moved start end to has =
      let (k, at) = place_of has in
      moved_if (nat_le start to && nat_le to end) order
      (put_before (slice_get order to) (slice_range order start end) (take start order ++ drop end order)) has
      (put_among (slice_get order to) (slice_range order start end) (take start order ++ drop end order)
      (moved_from start end k at))

-- ---- a cell whose lines stay

pub record LineStays (named : Named) (sheet : ℕ) (axis : Axis) (change : Change) (id row col : ℕ) : Type 0 where
  pub row_stays : id ≡ sheet → Rows ≡ axis → Contains (orders_of named.book.sheets sheet axis) row
      → Contains (order_then named sheet axis change) row
  pub col_stays : id ≡ sheet → Columns ≡ axis → Contains (orders_of named.book.sheets sheet axis) col
      → Contains (order_then named sheet axis change) col

pub cell_there : (named : Named) (sheet : ℕ) (axis : Axis) (change : Change) (id row col : ℕ)
    → LineStays named sheet axis change id row col → HasCell id row col named.book
    → HasCell id row col (changed_by named (LinesChanged sheet axis change)).book
cell_there named sheet axis change id row col stays there =
    let (rows, cols) = cell_lines id row col named.book there in
    lines_cell id row col (changed_by named (LinesChanged sheet axis change)).book
    (holds_then (λ order. Contains order row) named sheet axis change id Rows
    (λ own same. stays.row_stays own same
    (subst (λ axis. Contains (orders_of named.book.sheets sheet axis) row) same
    (subst (λ n. Contains (orders_of named.book.sheets n Rows) row) own rows))) rows)
    (holds_then (λ order. Contains order col) named sheet axis change id Columns
    (λ own same. stays.col_stays own same
    (subst (λ axis. Contains (orders_of named.book.sheets sheet axis) col) same
    (subst (λ n. Contains (orders_of named.book.sheets n Columns) col) own cols))) cols)

pub cell_kept : (named : Named) (change : BookChange) (id row col : ℕ) → KeepsSheet change id
    → HasCell id row col named.book → HasCell id row col (changed_by named change).book
cell_kept named change id row col keeps there =
    let (rows, cols) = cell_lines id row col named.book there in
    lines_cell id row col (changed_by named change).book
    (subst (λ order. Contains order row) (sym (lines_kept named id Rows change keeps)) rows)
    (subst (λ order. Contains order col) (sym (lines_kept named id Columns change keeps)) cols)
