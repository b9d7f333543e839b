-- The lines that a change inserts get the next names.
use Rattle.std.proofs.Common.{◌≡◌, ◌≢◌, ℕ, zero, suc, ◌+◌, ◌<◌, ◌≤◌, refl, sym, ap, subst, ◌∙◌, List, [], ◌∷◌, ◌++◌, cond, Bool, true, false, length, get_or, take, drop, arith}
use Rattle.std.specs.Prelude.{Option, Some, IsSomeAnd, map, ◌==◌}
use Rattle.std.specs.List.{All, range_with_len}
use Rattle.std.specs.Option.{option_map_or}
use Rattle.std.proofs.lemmas.List.Elements.{All-append, All-contains, All-drop, All-map, All-take, Contains-get_or}
use Rattle.std.proofs.lemmas.List.FromFn.{length-range_with_len, get_or-range_with_len}
use Rattle.grid_range.specs.Change.{Changes, Fits, count_after, inserted_lines, order_change}
use Rattle.grid_range.specs.FollowingLaws.{MoveKeepsLines}
use Rattle.grid_range.specs.Order.{IsOrder}
use Rattle.grid_range.specs.OrderChange.{CanBeMade, order_after}
use Rattle.grid_range.specs.declared.axis.Axis.{Axis}
use Rattle.grid_range.specs.declared.axis.Axis.TheVariants.{Rows, Columns}
use Rattle.grid_range.specs.declared.change.Change.{Change}
use Rattle.grid_range.specs.declared.change.Change.TheVariants.{Insert, Delete, Move}
use Rattle.cell_store.specs.Moved.{lines_on}
use Rattle.world_model.specs.Book.{PlaceBook, orders_of, sheet_with}
use Rattle.world_model.specs.BookChange.{BookChange, Named, NamedStandsFor, AreChanges, changed_by}
use Rattle.world_model.specs.Counts.{grid_places}
use Rattle.world_model.specs.Laws.{ChangesFollow}
use Rattle.world_model.specs.LineChange.{LineChange, line_change, sheet_followed}
use Rattle.world_model.specs.PlaceChange.{BookChanged}
use Rattle.world_model.specs.Sheet.{NameSheet, lines_of}
use Rattle.world_model.specs.Sound.{IsLineCount, most_places, place_sheet_with}
use Rattle.world_model.proofs.Areas.{other_axis}
use Rattle.world_model.proofs.Found.{as_long, distinct_on, found_by_name}
use Rattle.world_model.proofs.Lines.{lines_there}
use Rattle.world_model.proofs.Orders.{followed_across, followed_on, on_both}

-- lines that were called before a name
abbrev AreBelow : ℕ → List ℕ → Type 0
AreBelow next = All (λ name. name < next)

below_more : (next more : ℕ) (names : List ℕ) → next ≤ more → AreBelow next names → AreBelow more names
below_more next more names less below k d there = omega (arith, below k d there)

-- ---- the next names

next_below : (next n : ℕ) → AreBelow (next + n) (range_with_len next n)
next_below next n k d there =
    let inside : k < n = subst (λ m. k < m) (length-range_with_len next n) there in
    omega (arith, get_or-range_with_len next n k d inside)

others_in_range : (name start n : ℕ) → name < start → All (λ other. name ≢ other) (range_with_len start n)
others_in_range name start n less k d there same =
    let inside : k < n = subst (λ m. k < m) (length-range_with_len start n) there in
    absurd (omega (arith, get_or-range_with_len start n k d inside, same))

others_before : (name next : ℕ) (order : List ℕ) → next ≤ name → AreBelow next order → All (λ other. name ≢ other) order
others_before name next order less below k d there same = absurd (omega (arith, below k d there, same))

-- they and lines that were called before them are one order
fresh_order : (start n next : ℕ) (order : List ℕ) → next ≤ start → AreBelow next order → IsOrder order
    → IsOrder (range_with_len start n ++ order)
fresh_order start zero next order less below distinct i j d before there = distinct i j d before there
fresh_order start (suc n) next order less below distinct i zero d before there = absurd (omega arith)
fresh_order start (suc n) next order less below distinct zero (suc j) d before there =
    All-append (λ other. start ≢ other) (range_with_len (start + 1) n) order
    (others_in_range start (start + 1) n (omega arith)) (others_before start next order less below) j d (omega arith)
fresh_order start (suc n) next order less below distinct (suc i) (suc j) d before there =
    fresh_order (start + 1) n next order (omega arith) below distinct i j d (omega arith) (omega arith)

some_fresh : (next n : ℕ) → 0 < n → range_with_len next n ≢ []
some_fresh next n some none = absurd (omega (arith, some, length-range_with_len next n, ap length none))

-- ---- a change that inserts them

module _ (next : ℕ) (order : List ℕ) (below : AreBelow next order) (distinct : IsOrder order) where
  abbrev fresh : Change → List ℕ
  fresh change = range_with_len next (inserted_lines change)

  can_be_made : (change : Change) (count : ℕ) → Fits change count → length order ≡ count
      → CanBeMade (order_change change (fresh change)) order
  can_be_made (Insert at inserted) count fits long = (
    subst (λ n. at ≤ n) (sym long) fits.0,
    some_fresh next inserted fits.1,
    fresh_order next inserted next order (omega arith) below distinct,
  )
  can_be_made (Delete start end) count fits long = (fits.0, subst (λ n. end ≤ n) (sym long) fits.1)
  can_be_made (Move start end to) count fits long = (
    fits.0,
    subst (λ n. end ≤ n) (sym long) fits.1,
    subst (λ n. to ≤ n) (sym long) fits.2,
  )

  pub fresh_changes : (change : Change) (count : ℕ) → Fits change count → length order ≡ count
      → Changes change count order (fresh change) (order_after (order_change change (fresh change)) order)
  fresh_changes change count fits long = record {
    distinct = distinct;
    long = long;
    inserts = length-range_with_len next (inserted_lines change);
    made = can_be_made change count fits long;
    result = refl;
  }

  below_after : MoveKeepsLines → (change : Change) (count : ℕ) → Fits change count → length order ≡ count
      → AreBelow (next + inserted_lines change) (order_after (order_change change (fresh change)) order)
  below_after keeps (Insert at inserted) count fits long =
      let more : AreBelow (next + inserted) order = below_more next (next + inserted) order (omega arith) below in
      All-append (λ name. name < next + inserted) (take at order ++ range_with_len next inserted) (drop at order)
      (All-append (λ name. name < next + inserted) (take at order) (range_with_len next inserted)
      (All-take (λ name. name < next + inserted) at order more) (next_below next inserted))
      (All-drop (λ name. name < next + inserted) at order more)
  below_after keeps (Delete start end) count fits long =
      let more : AreBelow (next + 0) order = below_more next (next + 0) order (omega arith) below in
      All-append (λ name. name < next + 0) (take start order) (drop end order)
      (All-take (λ name. name < next + 0) start order more) (All-drop (λ name. name < next + 0) end order more)
  below_after keeps (Move start end to) count fits long =
      λ k d there.
      let after = order_after (order_change (Move start end to) []) order in
      let name : ℕ = get_or after k d in
      All-contains (λ name. name < next + 0) order name (below_more next (next + 0) order (omega arith) below)
      ((keeps order start end to name distinct (can_be_made (Move start end to) count fits long)).1
      (Contains-get_or after k d there))

-- ---- a sheet, and a spreadsheet

abbrev IsCalledBelow : ℕ → NameSheet → Type 0
IsCalledBelow next sheet = AreBelow next sheet.rows × AreBelow next sheet.cols

on_axis : (next : ℕ) (sheet : NameSheet) (axis : Axis) → IsCalledBelow next sheet → AreBelow next (lines_of sheet axis)
on_axis next sheet Rows below = below.0
on_axis next sheet Columns below = below.1

either_below : (next : ℕ) (b : Bool) (one other : List ℕ) → AreBelow next one → AreBelow next other
    → AreBelow next (cond b one other)
either_below next true one other below below' = below
either_below next false one other below below' = below'

pub orders_below : (next id : ℕ) (axis : Axis) (sheets : List NameSheet) → All (IsCalledBelow next) sheets
    → AreBelow next (orders_of sheets id axis)
orders_below next id axis [] below = λ k d there. absurd (omega arith)
orders_below next id axis (sheet ∷ sheets) below =
    first_below (sheet.id == id) (sheet_with id sheets) (below 0 sheet (omega arith))
    (orders_below next id axis sheets (λ k d there. below (suc k) d (omega arith)))
  where
    first_below : (b : Bool) (rest : Option NameSheet) → IsCalledBelow next sheet
        → AreBelow next (option_map_or (λ other. lines_of other axis) rest [])
        → AreBelow next (option_map_or (λ other. lines_of other axis) (cond b (Some sheet) rest) [])
    first_below true rest here behind = on_axis next sheet axis here
    first_below false rest here behind = behind

module _ (to : LineChange) (next more : ℕ) (less : next ≤ more) (order_below : AreBelow more to.order) where
  lines_below : (sheet : NameSheet) → IsCalledBelow next sheet → (on : Axis)
      → AreBelow more (lines_of (sheet_followed to sheet) on)
  lines_below sheet below on =
      let were = λ (axis : Axis). below_more next more (lines_of sheet axis) less (on_axis next sheet axis below) in
      on_both (λ on. AreBelow more (lines_of (sheet_followed to sheet) on)) to.axis on
      (subst (AreBelow more) (sym (followed_on to sheet))
      (either_below more (sheet.id == to.sheet) to.order (lines_of sheet to.axis) order_below (were to.axis)))
      (subst (AreBelow more) (sym (followed_across to sheet)) (were (other_axis to.axis)))

  sheets_below : (sheets : List NameSheet) → All (IsCalledBelow next) sheets
      → All (IsCalledBelow more) (map (sheet_followed to) sheets)
  sheets_below sheets below =
      All-map (IsCalledBelow more) (sheet_followed to) sheets (λ k d there.
      let sheet = get_or sheets k d in
      (lines_below sheet (below k d there) Rows, lines_below sheet (below k d there) Columns))

-- the law
pub line_changes_are_changes : ChangesFollow → MoveKeepsLines
    → (before after : PlaceBook) (id : ℕ) (axis : Axis) (count : ℕ)
    (change : Change) → Fits change count → IsLineCount axis (count_after change count)
    → IsSomeAnd (place_sheet_with id before.sheets) (λ sheet. lines_on axis sheet.table.rows sheet.table.cols ≡ count)
    → BookChanged id axis count change before after → grid_places after.sheets ≤ most_places
    → AreChanges (BookChange.LinesChanged id axis change ∷ []) before after
line_changes_are_changes follow keeps before after id axis count change fits room there changed few = record {
  id = changed.id;
  names = each;
}
  where
    each : (named : Named) → NamedStandsFor before named
        → NamedStandsFor after (changed_by named (BookChange.LinesChanged id axis change))
    each named stands =
        let sheets = named.book.sheets in
        let found =
        found_by_name sheets (λ sheet. lines_on axis sheet.table.rows sheet.table.cols ≡ count) id before.sheets
        sheets stands.stands.sheets there in
        let here : orders_of sheets id axis ≡ lines_of found.names axis =
        lines_there sheets id axis found.names found.is in
        let distinct : IsOrder (orders_of sheets id axis) =
        subst IsOrder (sym here) (distinct_on sheets found.sheet found.names axis found.stands) in
        let long : length (orders_of sheets id axis) ≡ count =
        ap length here ∙ sym (as_long sheets found.sheet found.names axis found.stands) ∙ found.holds in
        let below : AreBelow named.next (orders_of sheets id axis) =
        orders_below named.next id axis sheets stands.called in
        let new : List ℕ = range_with_len named.next (inserted_lines change) in
        let to : LineChange = line_change sheets id axis (order_change change new) in
        record {
          stands = follow.follows before after named.book id axis count change new to.order stands.stands fits room
              (fresh_changes named.next (orders_of sheets id axis) below distinct change count fits long) changed few;
          called = sheets_below to named.next (named.next + inserted_lines change) (omega arith)
              (below_after named.next (orders_of sheets id axis) below distinct keeps change count fits long) sheets
              stands.called;
        }
