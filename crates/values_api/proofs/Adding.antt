-- Lines that are added to a sheet, on one axis after the other.
use Rattle.std.proofs.Common.{◌≡◌, ℕ, ◌+◌, ◌<◌, ◌≤◌, List, [], ◌∷◌, refl, sym, subst, ap, ◌∙◌, cond, Bool, true, false, arith}
use Rattle.std.specs.Prelude.{Option, Some, None, Result, Ok, Err, IsSomeAnd, ◌==◌}
use Rattle.std.specs.List.{AllZip, list_any}
use Rattle.std.specs.Option.{option_map_or}
use Rattle.std.proofs.lemmas.Bool.{false≢true, eqb-true, eq-eqb, ne_eqb}
use Rattle.std.proofs.lemmas.List.Folds.{list_any_none}
use Rattle.grid_range.specs.Change.{count_after}
use Rattle.grid_range.specs.declared.area.Area.{Area}
use Rattle.grid_range.specs.declared.axis.Axis.{Axis}
use Rattle.grid_range.specs.declared.axis.Axis.TheVariants.{Rows, Columns}
use Rattle.grid_range.specs.declared.change.Change.TheVariants.{Insert}
use Rattle.cell_store.specs.Moved.{size_after}
use Rattle.merge_ranges.specs.Tests.{tears_merge}
use Rattle.world_model.specs.Book.{PlaceBook}
use Rattle.world_model.specs.BookChange.{AreChanges, BookChange}
use Rattle.world_model.specs.ChangingLaws.{ChangesInTurn}
use Rattle.world_model.specs.Laws.{size_of}
use Rattle.world_model.specs.PlaceChange.{BookChanged, SheetChanged}
use Rattle.world_model.specs.Sheet.{PlaceSheet}
use Rattle.world_model.specs.Sound.{most_on, most_places, place_sheet_with}
use Rattle.dimension_ops.specs.Broken.{first_passed, judged_by, unbroken}
use Rattle.dimension_ops.specs.Lines.{IsLinesAnswer, lines_broken, lines_of_sheet, passes_size, places_changed, size_changed}
use Rattle.dimension_ops.specs.Rules.{IsUnlessNoMemory}
use Rattle.dimension_ops.specs.declared.rule.Limit.{Limit}
use Rattle.dimension_ops.specs.declared.rule.Rule.{Rule}
use Rattle.dimension_ops.specs.declared.rule.RuleOr.{RuleOr}
use Rattle.dimension_ops.specs.declared.rule.RuleOr.TheVariants as refusal
use Rattle.values_api.specs.declared.appending.Added.{Added}
use Rattle.values_api.specs.Appends.{added_on, size_added}
use Rattle.values_api.specs.Appending.{AreAdded, CanAdd, HasSizeAdded, IsAddedOn, IsRoom}
use Rattle.values_api.specs.FoundLaws.{some_and}
use Rattle.values_api.proofs.Sizes.{AreWithin, cols_both, found_id, none_passed, rows_fewer, zip_found}

-- ---- a change that keeps the limits

err_ok : (rule : Rule) → ◌≡◌ {A = Result (Unit {0}) Rule} (Err rule) (Ok tt) → ⊥
err_ok rule e = cc

none_broken : (last : Bool) (limit : Option Limit) (cut : Bool) → last ≡ false → limit ≡ None → cut ≡ false
    → judged_by {A = Unit {0}} (record unbroken { last_line = last; past_limit = limit; merge_cut = cut }) tt ≡ Ok tt
none_broken last limit cut stays none whole =
    ap (λ b. judged_by {A = Unit {0}} (record unbroken { last_line = b; past_limit = limit; merge_cut = cut }) tt) stays
    ∙ ap (λ l. judged_by {A = Unit {0}} (record unbroken { past_limit = l; merge_cut = cut }) tt) none
    ∙ ap (λ b. judged_by {A = Unit {0}} (record unbroken { merge_cut = b }) tt) whole

-- lines that are inserted tear no merge
none_torn : (axis : Axis) (lines at count : ℕ) (merges : List Area)
    → list_any (tears_merge axis lines (Insert at count)) merges ≡ false
none_torn axis lines at count merges =
    list_any_none (tears_merge axis lines (Insert at count)) merges (λ k d there. refl)

some_left : (axis : Axis) (at count lines : ℕ) → 0 < count → (count_after (Insert at count) lines == 0) ≡ false
some_left axis at count lines some = ne_eqb (lines + count) 0 (λ e. omega arith)

-- with the sheet's lines on the axis the size is within the limits
size_within : (axis : Axis) (at count : ℕ) (own : PlaceSheet) (places : ℕ) → lines_of_sheet axis own + count
    ≤ most_on axis
    → own.table.rows ≤ most_on Rows → own.table.cols ≤ most_on Columns → places ≤ most_places
    → AreWithin (size_after axis (Insert at count) own.table.rows own.table.cols) places
size_within Rows at count own places lines rows cols few = record { rows = lines; cols = cols; cells = few }
size_within Columns at count own places lines rows cols few = record { rows = rows; cols = lines; cells = few }

module _ (id : ℕ) (axis : Axis) (at count : ℕ) where
  pub judged_ok : (sheets : List PlaceSheet) → IsRoom id axis at count sheets → 0 < count
      → judged_by {A = Unit {0}} (lines_broken id axis (Insert at count) sheets) tt ≡ Ok tt
  judged_ok sheets room some =
      ap (λ found. judged_by {A = Unit {0}} (option_map_or (λ (sheet : PlaceSheet). record unbroken {
        last_line = count_after (Insert at count) (lines_of_sheet axis sheet) == 0;
        past_limit = first_passed (passes_size (size_after axis (Insert at count) sheet.table.rows sheet.table.cols)
            (places_changed id axis (Insert at count) sheets));
        merge_cut = list_any (tears_merge axis (lines_of_sheet axis sheet) (Insert at count)) sheet.merges;
      }) found unbroken) tt) room.there
      ∙ none_broken (count_after (Insert at count) (lines_of_sheet axis room.own) == 0)
      (first_passed (passes_size (size_after axis (Insert at count) room.own.table.rows room.own.table.cols)
      (places_changed id axis (Insert at count) sheets)))
      (list_any (tears_merge axis (lines_of_sheet axis room.own) (Insert at count)) room.own.merges)
      (some_left axis at count (lines_of_sheet axis room.own) some)
      (none_passed (size_after axis (Insert at count) room.own.table.rows room.own.table.cols)
      (places_changed id axis (Insert at count) sheets)
      (size_within axis at count room.own (places_changed id axis (Insert at count) sheets) room.lines room.rows
      room.cols room.places))
      (none_torn axis (lines_of_sheet axis room.own) at count room.own.merges)

  -- so only memory can be missing
  pub only_no_memory : (before after : PlaceBook) (fault : RuleOr)
      → IsUnlessNoMemory (IsLinesAnswer id axis (Insert at count) before after) (Err fault)
      → IsRoom id axis at count before.sheets → 0 < count → fault ≡ refusal.NoMemory
  only_no_memory before after (refusal.Rule rule) answer room some =
      absurd (err_ok rule (answer.judged ∙ judged_ok before.sheets room some))
  only_no_memory before after refusal.NoMemory answer room some = refl

  -- ---- sizes

  size_is : (lines : ℕ) (before after : PlaceSheet) → SheetChanged id axis lines (Insert at count) before after
      → size_of after ≡ size_changed id axis (Insert at count) before
  size_is lines before after changed = by_test (before.id == id) refl
    where
      follows : size_of after ≡ (changed.moved.rows, changed.moved.cols)
      follows = ap (λ n. (n, after.table.cols)) changed.followed.rows
          ∙ ap (λ n. (changed.moved.rows, n)) changed.followed.cols

      by_test : (b : Bool) → (before.id == id) ≡ b
          → size_of after
          ≡ cond b (size_after axis (Insert at count) before.table.rows before.table.cols) (size_of before)
      by_test true is = follows ∙ (changed.goes (eqb-true before.id id is)).size
      by_test false is =
          follows ∙ ap (λ (table : _). (table.rows, table.cols))
          (changed.stays (λ same. false≢true (sym is ∙ eq-eqb before.id id same)))

  all_sized : (lines : ℕ) (xs ys : List PlaceSheet) → AllZip (SheetChanged id axis lines (Insert at count)) xs ys
      → AllZip (HasSizeAdded id axis at count) xs ys
  all_sized lines [] [] all = tt
  all_sized lines [] (y ∷ ys) all = absurd all
  all_sized lines (x ∷ xs) [] all = absurd all
  all_sized lines (x ∷ xs) (y ∷ ys) all = ((all.0.id, size_is lines x y all.0), all_sized lines xs ys all.1)

  -- without a line each sheet keeps its size
  same_size : (b : Bool) (axis : Axis) (sheet : PlaceSheet) → count ≡ 0
      → size_of sheet ≡ cond b (size_after axis (Insert at count) sheet.table.rows sheet.table.cols) (size_of sheet)
  same_size false axis sheet none = refl
  same_size true Rows sheet none = ap (λ n. (n, sheet.table.cols)) (omega arith)
  same_size true Columns sheet none = ap (λ n. (sheet.table.rows, n)) (omega arith)

  none_sized : (xs : List PlaceSheet) → count ≡ 0 → AllZip (HasSizeAdded id axis at count) xs xs
  none_sized [] none = tt
  none_sized (x ∷ xs) none = ((refl, same_size (x.id == id) axis x none), none_sized xs none)

  pub none_added : (turn : ChangesInTurn) (book : PlaceBook) → count ≡ 0 → IsAddedOn id axis at count book book
  none_added turn book none = record {
    changes = subst (λ (changes : List BookChange). AreChanges changes book book)
        (ap (λ b. cond b [] (BookChange.LinesChanged id axis (Insert at count) ∷ [])) (sym (eq-eqb count 0 none)))
        (turn.none book);
    sizes = none_sized book.sheets none;
  }

  pub some_added : (before after : PlaceBook) → 0 < count
      → AreChanges (BookChange.LinesChanged id axis (Insert at count) ∷ []) before after
      → IsSomeAnd (place_sheet_with id before.sheets)
      (λ sheet. BookChanged id axis (lines_of_sheet axis sheet) (Insert at count) before after)
      → IsAddedOn id axis at count before after
  some_added before after some changes places = record {
    changes = subst (λ (list : List BookChange). AreChanges list before after)
        (ap (λ b. cond b [] (BookChange.LinesChanged id axis (Insert at count) ∷ []))
        (sym (ne_eqb count 0 (λ e. omega arith)))) changes;
    sizes = of_found (place_sheet_with id before.sheets) places;
  }
    where
      of_found : (found : Option PlaceSheet)
          → IsSomeAnd found (λ sheet. BookChanged id axis (lines_of_sheet axis sheet) (Insert at count) before after)
          → AllZip (HasSizeAdded id axis at count) before.sheets after.sheets
      of_found None there = absurd there
      of_found (Some sheet) there = all_sized (lines_of_sheet axis sheet) before.sheets after.sheets there.sheets

-- ---- both axes

module _ (id : ℕ) (added : Added) (own : PlaceSheet) (sheets : List PlaceSheet)
    (there : place_sheet_with id sheets ≡ Some own)
    (can : CanAdd id added own sheets) where
  pub rows_room : own.table.cols ≤ most_on Columns → IsRoom id Rows added.row added.rows sheets
  rows_room few =
      let cells = rows_fewer id added sheets in
      record {
        own = own;
        there = there;
        begins = can.row;
        lines = can.rows;
        rows = omega (arith, can.rows);
        cols = few;
        places = omega (arith, cells, can.places);
      }

  own_size : (other : PlaceSheet) → HasSizeAdded id Rows added.row added.rows own other
      → size_of other ≡ (own.table.rows + added.rows, own.table.cols)
  own_size other has = has.1
      ∙ ap (λ b. cond b (size_after Rows (Insert added.row added.rows) own.table.rows own.table.cols)
      (size_of own)) (eq-eqb own.id id (found_id id sheets own there))

  pub cols_room : (afters : List PlaceSheet) → AllZip (HasSizeAdded id Rows added.row added.rows) sheets afters
      → IsRoom id Columns added.col added.cols afters
  cols_room afters sizes =
      let (other, is, has) = zip_found id Rows added.row added.rows id sheets afters sizes own there in
      let size = own_size other has in
      let rows : other.table.rows ≡ own.table.rows + added.rows = ap (λ (s : ℕ × ℕ). s.0) size in
      let cols : other.table.cols ≡ own.table.cols = ap (λ (s : ℕ × ℕ). s.1) size in
      let cells = cols_both id added sheets afters sizes in
      record {
        own = other;
        there = is;
        begins = omega (arith, can.col, cols);
        lines = omega (arith, can.cols, cols);
        rows = omega (arith, can.rows, rows);
        cols = omega (arith, can.cols, cols);
        places = omega (arith, can.places, cells);
      }

  pub all_added : (turn : ChangesInTurn) (before between after : PlaceBook) → before.sheets ≡ sheets
      → IsAddedOn id Rows added.row added.rows before between
      → IsAddedOn id Columns added.col added.cols between after → AreAdded id added own before after
  all_added turn before between after same rows cols =
      let (other, is, has) = zip_found id Rows added.row added.rows id sheets between.sheets
      (subst (λ (list : List PlaceSheet). AllZip (HasSizeAdded id Rows added.row added.rows) list between.sheets)
      same rows.sizes)
      own there in
      let (last, found, had) =
      zip_found id Columns added.col added.cols id between.sheets after.sheets cols.sizes other is in
      let first = own_size other has in
      record {
        changes =
            turn.both (added_on id Rows added.row added.rows) (added_on id Columns added.col added.cols) before between
            after rows.changes cols.changes;
        size = subst (λ o. IsSomeAnd o (λ (sheet : PlaceSheet). size_of sheet ≡ size_added added own)) (sym found)
            (had.1 ∙ ap (λ b. cond b
            (size_after Columns (Insert added.col added.cols) other.table.rows other.table.cols)
            (size_of other)) (eq-eqb other.id id (found_id id between.sheets other is))
            ∙ ap (λ (s : ℕ × ℕ). (s.0, s.1 + added.cols)) first);
      }

-- ---- the sheet that is there

pub with_own : (id : ℕ) (added : Added) (sheets : List PlaceSheet)
    → IsSomeAnd (place_sheet_with id sheets) (λ own. CanAdd id added own sheets)
    → (own : PlaceSheet) × (place_sheet_with id sheets ≡ Some own) × CanAdd id added own sheets
with_own id added sheets can = some_and (λ own. CanAdd id added own sheets) (place_sheet_with id sheets) can

pub rows_can : (id : ℕ) (added : Added) (sheets : List PlaceSheet)
    → IsSomeAnd (place_sheet_with id sheets) (λ own. CanAdd id added own sheets)
    → IsRoom id Rows added.row added.rows sheets
rows_can id added sheets can =
    let (own, there, its) = with_own id added sheets can in
    rows_room id added own sheets there its (omega (arith, its.cols))

pub cols_can : (id : ℕ) (added : Added) (before between : PlaceBook)
    → IsSomeAnd (place_sheet_with id before.sheets) (λ own. CanAdd id added own before.sheets)
    → IsAddedOn id Rows added.row added.rows before between
    → IsRoom id Columns added.col added.cols between.sheets
cols_can id added before between can rows =
    let (own, there, its) = with_own id added before.sheets can in
    cols_room id added own before.sheets there its between.sheets rows.sizes

pub both_added : (turn : ChangesInTurn) (id : ℕ) (added : Added) (before between after : PlaceBook)
    → IsSomeAnd (place_sheet_with id before.sheets) (λ own. CanAdd id added own before.sheets)
    → IsAddedOn id Rows added.row added.rows before between
    → IsAddedOn id Columns added.col added.cols between after
    → IsSomeAnd (place_sheet_with id before.sheets) (λ own. AreAdded id added own before after)
both_added turn id added before between after can rows cols =
    let (own, there, its) = with_own id added before.sheets can in
    subst (λ o. IsSomeAnd o (λ (sheet : PlaceSheet). AreAdded id added sheet before after)) (sym there)
    (all_added id added own before.sheets there its turn before between after refl rows cols)
