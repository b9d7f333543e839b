-- Developer metadata by the places of its lines and by their names.
use Rattle.std.proofs.Common.{◌≡◌, ℕ, ◌+◌, ◌<◌, ◌≤◌, refl, sym, ap, subst, ◌∙◌, List, length, get_or, Bool, true, false, cond, not, arith}
use Rattle.std.specs.Prelude.{Contains, IfSome, IsSomeAnd, MatchOption, None, Option, Some, map, ◌==◌, ◌&&◌}
use Rattle.std.specs.List.{All, AllZip, filter_map}
use Rattle.std.specs.Option.{IsSome, option_map}
use Rattle.std.proofs.lemmas.Bool.{false_from_ne_true, false≢true, not-true}
use Rattle.std.proofs.lemmas.Option.{none-some, same_Some, slice_get-get_or}
use Rattle.cell_store.specs.Moved.{lines_on}
use Rattle.dev_metadata.specs.Following.{is_changed, item_followed, items_elsewhere, spot_followed}
use Rattle.dev_metadata.specs.Spot.{is_on_sheet, is_same_axis}
use Rattle.dev_metadata.specs.declared.types.Item.{Item}
use Rattle.dev_metadata.specs.declared.types.Spot.{Spot}
use Rattle.dev_metadata.specs.declared.types.Spot.TheVariants as spot
use Rattle.grid_range.specs.Area.{AreaWithin, band_on, with_band}
use Rattle.grid_range.specs.Order.{IsOrder, is_among}
use Rattle.grid_range.specs.Tracking.{area_followed, place_of, span_after, track_of}
use Rattle.grid_range.specs.declared.area.Area.{Area}
use Rattle.grid_range.specs.declared.axis.Axis.{Axis}
use Rattle.grid_range.specs.declared.axis.Axis.TheVariants.{Rows, Columns}
use Rattle.grid_range.specs.declared.band.Band.TheVariants.{Whole, Span}
use Rattle.grid_range.specs.declared.change.Change.{Change}
use Rattle.world_model.specs.Area.{Orders}
use Rattle.world_model.specs.Book.{orders_of}
use Rattle.world_model.specs.LineChange.{LineChange, name_item_followed, name_spot_followed}
use Rattle.world_model.specs.Metadata.{NameItem, NameSpot, is_name_spot_on, item_named, name_items_elsewhere, spot_named}
use Rattle.world_model.specs.Sheet.{NameSheet, PlaceSheet}
use Rattle.world_model.specs.Sound.{IsItemWithin, IsOnSheet, IsSpotWithin, place_sheet_with}
use Rattle.world_model.specs.StandsFor.{SheetStandsFor}
use Rattle.world_model.proofs.ContentsApart.{in_orders, map_apart}
use Rattle.world_model.proofs.Lines.{line_has_one_place}
use Rattle.world_model.proofs.MovedCells.{among_if_listed, listed_if_among}
use Rattle.world_model.proofs.RangesNamed.{All-filter_map, All-left, filter-named, filter_map-named}
use Rattle.world_model.proofs.StillStands.{map_same}

-- each item is within the sheets
abbrev pub AreWithin : List PlaceSheet → List Item → Type 0
AreWithin sheets items = All (IsItemWithin sheets) items

-- ---- a location as an area

abbrev whole : ℕ → Area
whole sheet = record { sheet = sheet; rows = Whole; cols = Whole }

abbrev lines_from : Axis → ℕ → ℕ → ℕ → Area
lines_from axis sheet start end = with_band axis (whole sheet) (Span start end)

on_sheet : (id : ℕ) (found : Option PlaceSheet) → IsSome found
    → IsSomeAnd found (λ sheet. AreaWithin (whole id) sheet.table.rows sheet.table.cols)
on_sheet id None some = absurd (false≢true some)
on_sheet id (Some sheet) some = (tt, tt)

off_sheet : (id : ℕ) (found : Option PlaceSheet)
    → IsSomeAnd found (λ sheet. AreaWithin (whole id) sheet.table.rows sheet.table.cols) → IsSome found
off_sheet id None on = absurd on
off_sheet id (Some sheet) on = refl

on_line : (axis : Axis) (id place : ℕ) (found : Option PlaceSheet)
    → IsSomeAnd found (λ sheet. place < lines_on axis sheet.table.rows sheet.table.cols)
    → IsSomeAnd found (λ sheet. AreaWithin (lines_from axis id place (place + 1)) sheet.table.rows sheet.table.cols)
on_line axis id place None there = absurd there
on_line Rows id place (Some sheet) there = ((omega arith, omega (arith, there)), tt)
on_line Columns id place (Some sheet) there = (tt, (omega arith, omega (arith, there)))

off_line : (axis : Axis) (id start end : ℕ) (found : Option PlaceSheet)
    → IsSomeAnd found (λ sheet. AreaWithin (lines_from axis id start end) sheet.table.rows sheet.table.cols)
    → IsSomeAnd found (λ sheet. start < lines_on axis sheet.table.rows sheet.table.cols)
off_line axis id start end None on = absurd on
off_line Rows id start end (Some sheet) ((some, inside), all) = omega (arith, some, inside)
off_line Columns id start end (Some sheet) (all, (some, inside)) = omega (arith, some, inside)

-- ---- items stay within

-- where areas stay, items do
module _ (befores afters : List PlaceSheet)
    (areas : (area : Area) → IsOnSheet befores area → IsOnSheet afters area) where
  spot_stays : (one : Spot) → IsSpotWithin befores one → IsSpotWithin afters one
  spot_stays spot.Spreadsheet within = tt
  spot_stays (spot.Sheet id) within =
      off_sheet id (place_sheet_with id afters) (areas (whole id) (on_sheet id (place_sheet_with id befores) within))
  spot_stays (spot.Line id Rows place) within =
      off_line Rows id place (place + 1) (place_sheet_with id afters)
      (areas (lines_from Rows id place (place + 1)) (on_line Rows id place (place_sheet_with id befores) within))
  spot_stays (spot.Line id Columns place) within =
      off_line Columns id place (place + 1) (place_sheet_with id afters)
      (areas (lines_from Columns id place (place + 1)) (on_line Columns id place (place_sheet_with id befores) within))

  pub items_stay : (items : List Item) → AreWithin befores items → AreWithin afters items
  items_stay items within k d there = spot_stays (get_or items k d).spot (within k d there)

-- a location whose area follows
module _ (afters : List PlaceSheet) (count : ℕ) (change : Change) (sheet place : ℕ) where
  abbrev found : Option PlaceSheet
  found = place_sheet_with sheet afters

  whole_kept : (axis : Axis) (b : Bool)
      → IfSome (cond b (option_map (with_band axis (whole sheet)) (track_of (band_on axis (whole sheet)) count change))
      (Some (whole sheet))) (IsOnSheet afters)
      → IsSome found
  whole_kept Rows true on = off_sheet sheet found on
  whole_kept Columns true on = off_sheet sheet found on
  whole_kept axis false on = off_sheet sheet found on

  row_moved : (spanned : Option (ℕ × ℕ))
      → IfSome (option_map (with_band Rows (lines_from Rows sheet place (place + 1)))
      (option_map (λ span. Span span.0 span.1) spanned)) (IsOnSheet afters)
      → IfSome (option_map (spot.Line sheet Rows) (option_map (λ span. span.0) spanned)) (IsSpotWithin afters)
  row_moved None on = tt
  row_moved (Some span) on = off_line Rows sheet span.0 span.1 found on

  column_moved : (spanned : Option (ℕ × ℕ))
      → IfSome (option_map (with_band Columns (lines_from Columns sheet place (place + 1)))
      (option_map (λ span. Span span.0 span.1) spanned)) (IsOnSheet afters)
      → IfSome (option_map (spot.Line sheet Columns) (option_map (λ span. span.0) spanned)) (IsSpotWithin afters)
  column_moved None on = tt
  column_moved (Some span) on = off_line Columns sheet span.0 span.1 found on

  line_moved : (axis its : Axis) (b : Bool)
      → IfSome (cond b (option_map (with_band axis (lines_from its sheet place (place + 1)))
      (track_of (band_on axis (lines_from its sheet place (place + 1))) count change))
      (Some (lines_from its sheet place (place + 1)))) (IsOnSheet afters)
      → IfSome (cond (b && is_same_axis its axis) (option_map (spot.Line sheet its) (place_of change place))
      (Some (spot.Line sheet its place))) (IsSpotWithin afters)
  line_moved Rows Rows true on = row_moved (span_after change place (place + 1)) on
  line_moved Columns Columns true on = column_moved (span_after change place (place + 1)) on
  line_moved Rows Columns true on = off_line Columns sheet place (place + 1) found on
  line_moved Columns Rows true on = off_line Rows sheet place (place + 1) found on
  line_moved axis Rows false on = off_line Rows sheet place (place + 1) found on
  line_moved axis Columns false on = off_line Columns sheet place (place + 1) found on

-- where areas that follow stay, items that follow do
module _ (id : ℕ) (axis : Axis) (count : ℕ) (change : Change) (befores afters : List PlaceSheet)
    (areas : (area : Area) → IsOnSheet befores area
    → IfSome (area_followed id axis count change area) (IsOnSheet afters)) where
  spot_follows : (one : Spot) → IsSpotWithin befores one
      → IfSome (spot_followed id axis change one) (IsSpotWithin afters)
  spot_follows spot.Spreadsheet within = tt
  spot_follows (spot.Sheet sheet) within =
      whole_kept afters count change sheet 0 axis (sheet == id)
      (areas (whole sheet) (on_sheet sheet (place_sheet_with sheet befores) within))
  spot_follows (spot.Line sheet Rows place) within =
      line_moved afters count change sheet place axis Rows (sheet == id)
      (areas (lines_from Rows sheet place (place + 1))
      (on_line Rows sheet place (place_sheet_with sheet befores) within))
  spot_follows (spot.Line sheet Columns place) within =
      line_moved afters count change sheet place axis Columns (sheet == id)
      (areas (lines_from Columns sheet place (place + 1))
      (on_line Columns sheet place (place_sheet_with sheet befores) within))

  item_follows : (item : Item) (found : Option Spot) → IfSome found (IsSpotWithin afters)
      → IfSome (option_map (λ one. record item { spot = one }) found) (IsItemWithin afters)
  item_follows item None held = tt
  item_follows item (Some one) held = held

  pub all_followed_within : (items : List Item) → AreWithin befores items
      → AreWithin afters (filter_map (item_followed id axis change) items)
  all_followed_within items within =
      All-filter_map (item_followed id axis change) (IsItemWithin afters) items
      (λ k d there.
      let one = get_or items k d in
      item_follows one (spot_followed id axis change one.spot) (spot_follows one.spot (within k d there)))

-- where areas of other sheets stay, items elsewhere do
module _ (deleted : ℕ) (befores afters : List PlaceSheet)
    (areas : (area : Area) → (area.sheet == deleted) ≡ false → IsOnSheet befores area → IsOnSheet afters area) where
  spot_left : (one : Spot) → not (is_on_sheet deleted one) ≡ true → IsSpotWithin befores one → IsSpotWithin afters one
  spot_left spot.Spreadsheet elsewhere within = tt
  spot_left (spot.Sheet id) elsewhere within =
      off_sheet id (place_sheet_with id afters)
      (areas (whole id) (not-true (id == deleted) elsewhere) (on_sheet id (place_sheet_with id befores) within))
  spot_left (spot.Line id Rows place) elsewhere within =
      off_line Rows id place (place + 1) (place_sheet_with id afters)
      (areas (lines_from Rows id place (place + 1)) (not-true (id == deleted) elsewhere)
      (on_line Rows id place (place_sheet_with id befores) within))
  spot_left (spot.Line id Columns place) elsewhere within =
      off_line Columns id place (place + 1) (place_sheet_with id afters)
      (areas (lines_from Columns id place (place + 1)) (not-true (id == deleted) elsewhere)
      (on_line Columns id place (place_sheet_with id befores) within))

  pub all_left_within : (items : List Item) → AreWithin befores items → AreWithin afters (items_elsewhere deleted items)
  all_left_within items within =
      All-left (λ item. not (is_on_sheet deleted item.spot)) (IsItemWithin befores) (IsItemWithin afters)
      (λ item elsewhere inside. spot_left item.spot elsewhere inside) items within

-- ---- and name the same lines

-- an item names the line where it lies
item_same : (orders orders' : Orders) (item : Item) → spot_named orders item.spot ≡ spot_named orders' item.spot
    → item_named orders item ≡ item_named orders' item
item_same orders orders' item same = ap (λ one. record (item_named orders item) { spot = one }) same

-- where the lines of the sheets stay, items name the same ones
module _ (sheets : List PlaceSheet) (orders orders' : Orders)
    (same : (area : Area) → IsOnSheet sheets area → orders area.sheet ≡ orders' area.sheet) where
  spot_same : (one : Spot) → IsSpotWithin sheets one → spot_named orders one ≡ spot_named orders' one
  spot_same spot.Spreadsheet within = refl
  spot_same (spot.Sheet id) within = refl
  spot_same (spot.Line id Rows place) within =
      ap (λ lines. NameSpot.Line id Rows (get_or (lines Rows) place 0))
      (same (lines_from Rows id place (place + 1)) (on_line Rows id place (place_sheet_with id sheets) within))
  spot_same (spot.Line id Columns place) within =
      ap (λ lines. NameSpot.Line id Columns (get_or (lines Columns) place 0))
      (same (lines_from Columns id place (place + 1)) (on_line Columns id place (place_sheet_with id sheets) within))

  pub items_same : (items : List Item) → AreWithin sheets items
      → map (item_named orders) items ≡ map (item_named orders') items
  items_same items within =
      map_same (item_named orders) (item_named orders') items
      (λ k d there. item_same orders orders' (get_or items k d)
      (spot_same (get_or items k d).spot (within k d there)))

-- what becomes of the line at a place, and that other lines stay
pub record LinesFollow (to : LineChange) (change : Change) (before after : Orders) (sheets : List PlaceSheet)
    : Type 0 where
  pub here : (sheet : ℕ) (axis : Axis) (place : ℕ) → IsSpotWithin sheets (spot.Line sheet axis place)
      → is_changed to.sheet to.axis sheet axis ≡ true
      → MatchOption (place_of change place) (¬ (Contains to.order (get_or (before sheet axis) place 0)))
      (λ found. Contains to.order (get_or (before sheet axis) place 0)
      × (get_or (after sheet axis) found 0 ≡ get_or (before sheet axis) place 0))
  pub elsewhere : (sheet : ℕ) (axis : Axis) → is_changed to.sheet to.axis sheet axis ≡ false
      → after sheet axis ≡ before sheet axis

-- an item follows with its line
module _ (to : LineChange) (change : Change) (before after : Orders) (sheets : List PlaceSheet)
    (follow : LinesFollow to change before after sheets) where
  line_goes : (sheet : ℕ) (axis : Axis) (line : ℕ) (found : Option ℕ)
      → MatchOption found (¬ (Contains to.order line))
      (λ place. Contains to.order line × (get_or (after sheet axis) place 0 ≡ line))
      → cond (not (is_among to.order line)) None (Some (NameSpot.Line sheet axis line))
      ≡ option_map (spot_named after) (option_map (spot.Line sheet axis) found)
  line_goes sheet axis line None gone =
      ap (λ b. cond (not b) None (Some (NameSpot.Line sheet axis line)))
      (false_from_ne_true (is_among to.order line) (λ among. gone (listed_if_among to.order line among)))
  line_goes sheet axis line (Some place) (there, same) =
      ap (λ b. cond (not b) None (Some (NameSpot.Line sheet axis line))) (among_if_listed to.order line there)
      ∙ ap (λ n. Some (NameSpot.Line sheet axis n)) (sym same)

  line_follows : (sheet : ℕ) (axis : Axis) (place : ℕ) (b : Bool) → is_changed to.sheet to.axis sheet axis ≡ b
      → IsSpotWithin sheets (spot.Line sheet axis place)
      → cond (b && not (is_among to.order (get_or (before sheet axis) place 0))) None
      (Some (NameSpot.Line sheet axis (get_or (before sheet axis) place 0)))
      ≡ option_map (spot_named after)
      (cond b (option_map (spot.Line sheet axis) (place_of change place)) (Some (spot.Line sheet axis place)))
  line_follows sheet axis place true is within =
      line_goes sheet axis (get_or (before sheet axis) place 0) (place_of change place)
      (follow.here sheet axis place within is)
  line_follows sheet axis place false is within =
      ap (λ order. Some (NameSpot.Line sheet axis (get_or order place 0))) (sym (follow.elsewhere sheet axis is))

  spot_goes : (one : Spot) → IsSpotWithin sheets one
      → name_spot_followed to (spot_named before one)
      ≡ option_map (spot_named after) (spot_followed to.sheet to.axis change one)
  spot_goes spot.Spreadsheet within = refl
  spot_goes (spot.Sheet sheet) within = refl
  spot_goes (spot.Line sheet axis place) within =
      line_follows sheet axis place (is_changed to.sheet to.axis sheet axis) refl within

  item_goes : (item : Item) → IsItemWithin sheets item
      → name_item_followed to (item_named before item)
      ≡ option_map (item_named after) (item_followed to.sheet to.axis change item)
  item_goes item within =
      ap (option_map (λ one. record (item_named before item) { spot = one })) (spot_goes item.spot within)
      ∙ with_spot (spot_followed to.sheet to.axis change item.spot)
    where
      with_spot : (found : Option Spot)
          → option_map (λ one. record (item_named before item) { spot = one }) (option_map (spot_named after) found)
          ≡ option_map (item_named after) (option_map (λ one. record item { spot = one }) found)
      with_spot None = refl
      with_spot (Some one) = refl

  pub items_follow : (items : List Item) → AreWithin sheets items
      → filter_map (name_item_followed to) (map (item_named before) items)
      ≡ map (item_named after) (filter_map (item_followed to.sheet to.axis change) items)
  items_follow items within =
      filter_map-named (name_item_followed to) (item_followed to.sheet to.axis change) (item_named before)
      (item_named after) items (λ k d there. item_goes (get_or items k d) (within k d there))

-- those that are left without a sheet name the lines that they named
module _ (deleted : ℕ) (orders orders' : Orders)
    (same : (other : ℕ) → (other == deleted) ≡ false → orders' other ≡ orders other) where
  same_test : (one : Spot) → is_name_spot_on deleted (spot_named orders one) ≡ is_on_sheet deleted one
  same_test spot.Spreadsheet = refl
  same_test (spot.Sheet id) = refl
  same_test (spot.Line id axis place) = refl

  left_same : (one : Spot) → not (is_on_sheet deleted one) ≡ true → spot_named orders one ≡ spot_named orders' one
  left_same spot.Spreadsheet elsewhere = refl
  left_same (spot.Sheet id) elsewhere = refl
  left_same (spot.Line id axis place) elsewhere =
      ap (λ lines. NameSpot.Line id axis (get_or (lines axis) place 0))
      (sym (same id (not-true (id == deleted) elsewhere)))

  pub items_left : (items : List Item) → name_items_elsewhere deleted (map (item_named orders) items)
      ≡ map (item_named orders') (items_elsewhere deleted items)
  items_left items =
      filter-named (item_named orders) (item_named orders') (λ item. not (is_on_sheet deleted item.spot))
      (λ item. not (is_name_spot_on deleted item.spot)) (λ item. ap not (same_test item.spot)) items
      (λ k d there elsewhere. item_same orders orders' (get_or items k d) (left_same (get_or items k d).spot elsewhere))

-- ---- items within sheets are known by their names

-- what a location of that form holds
abbrev sheet_in : NameSpot → Option ℕ
sheet_in NameSpot.Spreadsheet = None
sheet_in (NameSpot.Sheet sheet) = Some sheet
sheet_in (NameSpot.Line sheet axis line) = None

abbrev line_on : ℕ → Axis → ℕ → ℕ × (Axis × ℕ)
line_on sheet axis line = (sheet, (axis, line))

abbrev line_in : NameSpot → Option (ℕ × (Axis × ℕ))
line_in NameSpot.Spreadsheet = None
line_in (NameSpot.Sheet sheet) = None
line_in (NameSpot.Line sheet axis line) = Some (line_on sheet axis line)

item_of_same : (one other : Item) → one.id ≡ other.id → one.key ≡ other.key → one.value ≡ other.value
    → one.spot ≡ other.spot → one.visibility ≡ other.visibility → one ≡ other
item_of_same one other id key value place visibility =
    ap (λ n. record one { id = n }) id
    ∙ ap (λ text. record one { id = other.id; key = text }) key
    ∙ ap (λ text. record one { id = other.id; key = other.key; value = text }) value
    ∙ ap (λ found. record other { spot = found; visibility = one.visibility }) place
    ∙ ap (λ seen. record other { visibility = seen }) visibility

-- a line where an item lies has a place in an order
pub record HasPlace (order : List ℕ) (place : ℕ) : Type 0 where
  pub distinct : IsOrder order
  pub there : place < length order

module _ (sheets : List NameSheet) where
  abbrev orders : Orders
  orders = orders_of sheets

  pub has_place : (placed : List PlaceSheet) → AllZip (SheetStandsFor sheets) placed sheets
      → (id : ℕ) (axis : Axis) (place : ℕ) → IsSpotWithin placed (spot.Line id axis place)
      → HasPlace (orders id axis) place
  has_place placed stand id Rows place within =
      let inside = in_orders sheets placed (lines_from Rows id place (place + 1)) stand
      (on_line Rows id place (place_sheet_with id placed) within) in
      let ends : place + 1 ≤ length (orders id Rows) = inside.rows.1 in
      record { distinct = inside.distinct_rows; there = omega (arith, ends) }
  has_place placed stand id Columns place within =
      let inside = in_orders sheets placed (lines_from Columns id place (place + 1)) stand
      (on_line Columns id place (place_sheet_with id placed) within) in
      let ends : place + 1 ≤ length (orders id Columns) = inside.cols.1 in
      record { distinct = inside.distinct_cols; there = omega (arith, ends) }

  same_place : (order : List ℕ) (one other : ℕ) → HasPlace order one → other < length order
      → get_or order one 0 ≡ get_or order other 0 → one ≡ other
  same_place order one other has there same =
      line_has_one_place order one other (get_or order other 0) has.distinct
      (slice_get-get_or order one 0 has.there ∙ ap Some same) (slice_get-get_or order other 0 there)

  same_line : (sheet sheet' : ℕ) (axis axis' : Axis) (one other : ℕ) → HasPlace (orders sheet axis) one
      → HasPlace (orders sheet' axis') other
      → line_on sheet axis (get_or (orders sheet axis) one 0)
      ≡ line_on sheet' axis' (get_or (orders sheet' axis') other 0)
      → spot.Line sheet axis one ≡ spot.Line sheet' axis' other
  same_line sheet sheet' axis axis' one other has has' same =
      let sheets_same : sheet ≡ sheet' = ap (λ (line : ℕ × (Axis × ℕ)). line.0) same in
      let axes_same : axis ≡ axis' = ap (λ (line : ℕ × (Axis × ℕ)). line.1.0) same in
      let orders_same : orders sheet' axis' ≡ orders sheet axis =
      ap (λ n. orders n axis') (sym sheets_same) ∙ ap (orders sheet) (sym axes_same) in
      ap (λ n. spot.Line n axis one) sheets_same ∙ ap (λ on. spot.Line sheet' on one) axes_same
      ∙ ap (spot.Line sheet' axis') (same_place (orders sheet axis) one other has
      (subst (λ order. other < length order) orders_same has'.there)
      (ap (λ (line : ℕ × (Axis × ℕ)). line.1.1) same ∙ ap (λ order. get_or order other 0) orders_same))

  module _ (ones others : List PlaceSheet) (stand : AllZip (SheetStandsFor sheets) ones sheets)
      (stand' : AllZip (SheetStandsFor sheets) others sheets) where
    one_spot : (one other : Spot) → IsSpotWithin ones one → IsSpotWithin others other
        → spot_named orders one ≡ spot_named orders other → one ≡ other
    one_spot spot.Spreadsheet spot.Spreadsheet within within' same = refl
    one_spot spot.Spreadsheet (spot.Sheet id) within within' same = absurd (none-some id (ap sheet_in same))
    one_spot spot.Spreadsheet (spot.Line id axis place) within within' same =
        absurd (none-some (line_on id axis (get_or (orders id axis) place 0)) (ap line_in same))
    one_spot (spot.Sheet id) spot.Spreadsheet within within' same = absurd (none-some id (sym (ap sheet_in same)))
    one_spot (spot.Sheet id) (spot.Sheet id') within within' same = ap spot.Sheet (same_Some id id' (ap sheet_in same))
    one_spot (spot.Sheet id) (spot.Line id' axis place) within within' same =
        absurd (none-some id (sym (ap sheet_in same)))
    one_spot (spot.Line id axis place) spot.Spreadsheet within within' same =
        absurd (none-some (line_on id axis (get_or (orders id axis) place 0)) (sym (ap line_in same)))
    one_spot (spot.Line id axis place) (spot.Sheet id') within within' same = absurd (none-some id' (ap sheet_in same))
    one_spot (spot.Line id axis place) (spot.Line id' axis' place') within within' same =
        same_line id id' axis axis' place place' (has_place ones stand id axis place within)
        (has_place others stand' id' axis' place' within')
        (same_Some (line_on id axis (get_or (orders id axis) place 0))
        (line_on id' axis' (get_or (orders id' axis') place' 0)) (ap line_in same))

    one_item : (one other : Item) → IsItemWithin ones one → IsItemWithin others other
        → item_named orders one ≡ item_named orders other → one ≡ other
    one_item one other within within' same =
        item_of_same one other (ap (λ (named : NameItem). named.id) same) (ap (λ (named : NameItem). named.key) same)
        (ap (λ (named : NameItem). named.value) same)
        (one_spot one.spot other.spot within within' (ap (λ (named : NameItem). named.spot) same))
        (ap (λ (named : NameItem). named.visibility) same)

    pub items_apart : (some more : List Item) → AreWithin ones some → AreWithin others more
        → map (item_named orders) some ≡ map (item_named orders) more → some ≡ more
    items_apart = map_apart (item_named orders) (IsItemWithin ones) (IsItemWithin others) one_item
