-- A change of lines by places stands for the change by names.
use Rattle.std.proofs.Common.{◌≡◌, ℕ, ◌<◌, ◌≤◌, refl, sym, ap, subst, ◌∙◌, List, [], ◌∷◌, cond, Bool, true, false, length, get_or, ◌&&◌, arith, suc}
use Rattle.std.specs.Prelude.{◌≢◌, ◌↔◌, MatchOption, Option, None, Some, IfSome, map, option_and_then, slice_get, ◌==◌, Contains}
use Rattle.std.specs.List.{All, AllZip, filter_map}
use Rattle.std.specs.Option.{option_map}
use Rattle.std.proofs.lemmas.Bool.{eqb-true, eq-eqb, false≢true, and_parts}
use Rattle.std.proofs.lemmas.List.Elements.{All-contains}
use Rattle.std.proofs.lemmas.Option.{IfSome_then, get_or_from_slice_get, same_Some, slice_get-get_or, slice_get_within}
use Rattle.grid_range.specs.Area.{AreaWithin, band_on, with_band}
use Rattle.grid_range.specs.Band.{Within}
use Rattle.grid_range.specs.Change.{Changes, Fits, count_after, order_change}
use Rattle.grid_range.specs.Following.{follow}
use Rattle.grid_range.specs.FollowingLaws.{OrdersStay}
use Rattle.grid_range.specs.Order.{IsOrder, is_among}
use Rattle.grid_range.specs.Tracking.{area_followed, place_of, track_of}
use Rattle.grid_range.specs.TrackingLaws.{TracksAll, PlacesAll, TracksStayWithin, PlacesStayBelow}
use Rattle.grid_range.specs.declared.area.Area.{Area}
use Rattle.grid_range.specs.declared.axis.Axis.{Axis}
use Rattle.grid_range.specs.declared.axis.Axis.TheVariants.{Rows, Columns}
use Rattle.grid_range.specs.declared.change.Change.{Change}
use Rattle.cell_store.specs.Moved.{lines_on, GoesWithLines}
use Rattle.cell_store.specs.Table.{Table, item_at}
use Rattle.merge_ranges.specs.Following.{FollowedStayMerges}
use Rattle.merge_ranges.specs.Merges.{IsMerge}
use Rattle.named_ranges.specs.Following.{range_followed}
use Rattle.named_ranges.specs.declared.range.NamedRange.{NamedRange}
use Rattle.dev_metadata.specs.Following.{is_changed as is_line_changed, item_followed}
use Rattle.dev_metadata.specs.Spot.{is_same_axis}
use Rattle.dev_metadata.specs.declared.types.Item.{Item}
use Rattle.dev_metadata.specs.declared.types.Spot.TheVariants as spot
use Rattle.protection.specs.Following.{protection_followed}
use Rattle.protection.specs.declared.range.Protection.{Protection}
use Rattle.ref_rewrite.specs.declared.cell_content.Content.{Content}
use Rattle.world_model.specs.Area.{NameArea, Orders, area_named, band_named}
use Rattle.world_model.specs.Book.{NameBook, PlaceBook, orders_of, sheet_with}
use Rattle.world_model.specs.Counts.{grid_places}
use Rattle.world_model.specs.Content.{content_named}
use Rattle.world_model.specs.LineChange.{LineChange, book_changed, line_change, name_content_followed, name_filter_followed, name_item_followed, name_protection_followed, name_range_followed, sheet_followed}
use Rattle.world_model.specs.PlaceChange.{SheetChanged, BookChanged}
use Rattle.world_model.specs.Filters.{filter_named}
use Rattle.world_model.specs.Metadata.{item_named}
use Rattle.world_model.specs.Protections.{protection_named}
use Rattle.world_model.specs.Ranges.{range_named}
use Rattle.world_model.specs.Sheet.{NameSheet, PlaceSheet, lines_of}
use Rattle.world_model.specs.Sound.{AreMergesOf, IsSheetSound, IsLineCount, IsContentWithin, IsOnSheet, IsSpotWithin, most_places, place_sheet_with}
use Rattle.world_model.specs.StandsFor.{SheetStandsFor, BookStandsFor}
use Rattle.world_model.proofs.Areas.{FollowsOn, area_follows, other_axis}
use Rattle.world_model.proofs.Bands.{band_follows}
use Rattle.world_model.proofs.Contents.{AreasFollow, held_follows}
use Rattle.world_model.proofs.Counts.{count_after_change}
use Rattle.world_model.proofs.FiltersNamed.{filter_moved, filters_follow, moved_elsewhere, moved_here}
use Rattle.world_model.proofs.MergesFollowed.{IsFollowed, IsInLines, merges_follow}
use Rattle.world_model.proofs.MetadataNamed.{AreWithin as AreItemsWithin, LinesFollow, items_follow}
use Rattle.world_model.proofs.ProtectionsNamed.{AreWithin as AreProtectionsWithin, protections_follow}
use Rattle.world_model.proofs.RangesNamed.{AreOnSheets, ranges_follow}
use Rattle.world_model.proofs.SoundAfter.{changes_stay_sound}
use Rattle.world_model.proofs.Found.{IsFilterOn, IsOwn, FoundByName, filters_on, found_by_name, merges_on, own_sheets, lines_if_found, as_long, distinct_on}
use Rattle.world_model.proofs.Lines.{lines_there, listed, sheet_with-map}
use Rattle.world_model.proofs.MovedCells.{among_if_listed, listed_if_among}
use Rattle.world_model.proofs.MovedTables.{IsPlaced, LinesGo, moved_table, same_size, size_moved, holds_where_moved}
use Rattle.world_model.proofs.Orders.{on_both, order_here, orders_across, orders_elsewhere, followed_id, followed_title, followed_hidden, followed_cells, followed_filter, followed_merges, followed_here, followed_across, followed_elsewhere}

within_on : (axis : Axis) (area : Area) (rows cols : ℕ) → AreaWithin area rows cols
    → Within (band_on axis area) (lines_on axis rows cols)
within_on Rows area rows cols within = within.0
within_on Columns area rows cols within = within.1

-- a cell of some lines is empty unless both are among them
pub both_listed : (rows cols : List ℕ) (r c : ℕ) → Contains rows r → Contains cols c
    → (is_among rows r && is_among cols c) ≡ true
both_listed rows cols r c row col =
    ap (λ b. b && is_among cols c) (among_if_listed rows r row) ∙ among_if_listed cols c col

empty_unless : {N : Type 0} (b : Bool) (held : Option N) → ¬ (b ≡ true) → cond b held None ≡ None
empty_unless true held never = absurd (never refl)
empty_unless false held never = refl

-- two axes are one, or each is the other one
same_axis : (one other : Axis) → is_same_axis one other ≡ true → one ≡ other
same_axis Rows Rows is = refl
same_axis Rows Columns is = absurd (false≢true is)
same_axis Columns Rows is = absurd (false≢true is)
same_axis Columns Columns is = refl

not_same_axis : (one other : Axis) → is_same_axis one other ≡ false → one ≡ other_axis other
not_same_axis Rows Rows is = absurd (false≢true (sym is))
not_same_axis Rows Columns is = refl
not_same_axis Columns Rows is = refl
not_same_axis Columns Columns is = absurd (false≢true (sym is))

module _ (tracks : TracksAll) (places : PlacesAll) (orders_stay : OrdersStay) (placed : List PlaceSheet)
    (sheets : List NameSheet) (all : AllZip (SheetStandsFor sheets) placed sheets) (id : ℕ) (axis : Axis) (count : ℕ)
    (change : Change) (fresh : List ℕ) (fits : Fits change count) where
  abbrev to : LineChange
  to = line_change sheets id axis (order_change change fresh)

  abbrev before : Orders
  before = orders_of sheets

  abbrev after : Orders
  after = orders_of (map (sheet_followed to) sheets)

  module _ (made : Changes change count (before id axis) fresh to.order) where
    pub new_distinct : IsOrder to.order
    new_distinct = orders_stay (before id axis) (order_change change fresh) made.distinct made.made

    pub lines_go : LinesGo change (before id axis) to.order
    lines_go = record {
      distinct = new_distinct;
      places = λ place name at.
          let there : place < count =
          subst (λ n. place < n) made.long (slice_get_within (before id axis) place name at) in
          (places change count place fits there).stands (before id axis) fresh to.order name made at;
    }

    -- an area of the sheet
    area_here : (area : Area)
        → FoundByName sheets (λ sheet. AreaWithin area sheet.table.rows sheet.table.cols) (sheet_with area.sheet sheets)
        → (area.sheet == id) ≡ true → FollowsOn axis count change to.order to.changed before after area
    area_here area found same =
        let one : area.sheet ≡ id = eqb-true area.sheet id same in
        let long : lines_on axis found.sheet.table.rows found.sheet.table.cols ≡ count =
        as_long sheets found.sheet found.names axis found.stands
        ∙ ap length (sym (lines_there sheets area.sheet axis found.names found.is))
        ∙ ap (λ n. length (before n axis)) one ∙ made.long in
        let within : Within (band_on axis area) count =
        subst (Within (band_on axis area)) long
        (within_on axis area found.sheet.table.rows found.sheet.table.cols found.holds) in
        record {
          own = order_here to sheets area.sheet found.names found.is same;
          across = orders_across to sheets area.sheet;
          band = ap (λ n. follow to.order to.changed (band_named (before n axis) (band_on axis area))) one
              ∙ band_follows tracks (before id axis) fresh to.order (band_on axis area) count change fits made within;
        }

    pub areas : AreasFollow placed to count change before after
    areas = record {
      follow = λ area on. area_follows to count change before after area
          (area_here area (found_by_name sheets (λ sheet. AreaWithin area sheet.table.rows sheet.table.cols) area.sheet
          placed sheets all on))
          (orders_elsewhere to sheets area.sheet);
    }

    -- the ranges
    pub named_follow : (ranges : List NamedRange) → AreOnSheets placed ranges
        → filter_map (name_range_followed to) (map (range_named before) ranges)
        ≡ map (range_named after) (filter_map (range_followed id axis count change) ranges)
    named_follow = ranges_follow to count change before after placed areas.follow

    -- the protections
    pub protected_follow : (protections : List Protection) → AreProtectionsWithin placed protections
        → filter_map (name_protection_followed to) (map (protection_named before) protections)
        ≡ map (protection_named after) (filter_map (protection_followed id axis count change) protections)
    protected_follow = protections_follow to count change before after placed areas.follow

    -- the line at a place of the sheet's axis
    line_goes : (place : ℕ) → place < length (before id axis) → after id axis ≡ to.order
        → MatchOption (place_of change place) (¬ (Contains to.order (get_or (before id axis) place 0)))
        (λ found. Contains to.order (get_or (before id axis) place 0)
        × (get_or (after id axis) found 0 ≡ get_or (before id axis) place 0))
    line_goes place there own =
        goes (get_or (before id axis) place 0) (place_of change place)
        (lines_go.places place (get_or (before id axis) place 0) (slice_get-get_or (before id axis) place 0 there))
      where
        goes : (name : ℕ) (found : Option ℕ)
            → MatchOption found (¬ (Contains to.order name)) (λ there. slice_get to.order there ≡ Some name)
            → MatchOption found (¬ (Contains to.order name))
            (λ there. Contains to.order name × (get_or (after id axis) there 0 ≡ name))
        goes name None gone = gone
        goes name (Some there) at = (
          listed to.order there name at,
          ap (λ order. get_or order there 0) own ∙ get_or_from_slice_get to.order there name 0 at,
        )

    item_goes : (sheet : ℕ) (its : Axis) (place : ℕ) → IsSpotWithin placed (spot.Line sheet its place)
        → is_line_changed id axis sheet its ≡ true
        → MatchOption (place_of change place) (¬ (Contains to.order (get_or (before sheet its) place 0)))
        (λ found. Contains to.order (get_or (before sheet its) place 0)
        × (get_or (after sheet its) found 0 ≡ get_or (before sheet its) place 0))
    item_goes sheet its place within is =
        let found = found_by_name sheets (λ one. place < lines_on its one.table.rows one.table.cols) sheet placed sheets
        all within in
        let parts = and_parts (sheet == id) (is_same_axis its axis) is in
        let one : sheet ≡ id = eqb-true sheet id parts.0 in
        let on : its ≡ axis = same_axis its axis parts.1 in
        let there : place < length (before sheet its) =
        subst (λ n. place < n) (as_long sheets found.sheet found.names its found.stands
        ∙ ap length (sym (lines_there sheets sheet its found.names found.is))) found.holds in
        let own : after id axis ≡ to.order =
        order_here to sheets id found.names (subst (λ n. sheet_with n sheets ≡ Some found.names) one found.is)
        (eq-eqb id id refl) in
        subst (λ n. MatchOption (place_of change place) (¬ (Contains to.order (get_or (before n its) place 0)))
        (λ found. Contains to.order (get_or (before n its) place 0)
        × (get_or (after n its) found 0 ≡ get_or (before n its) place 0))) (sym one)
        (subst (λ a. MatchOption (place_of change place) (¬ (Contains to.order (get_or (before id a) place 0)))
        (λ found. Contains to.order (get_or (before id a) place 0)
        × (get_or (after id a) found 0 ≡ get_or (before id a) place 0))) (sym on)
        (line_goes place (subst (λ a. place < length (before id a)) on
        (subst (λ n. place < length (before n its)) one there)) own))

    -- and the lines of other sheets and of the other axis
    others_stay : (sheet : ℕ) (its : Axis) (b : Bool) → (sheet == id) ≡ b → (b && is_same_axis its axis) ≡ false
        → after sheet its ≡ before sheet its
    others_stay sheet its true same apart =
        subst (λ a. after sheet a ≡ before sheet a) (sym (not_same_axis its axis apart)) (orders_across to sheets sheet)
    others_stay sheet its false elsewhere apart = orders_elsewhere to sheets sheet elsewhere its

    lines_follow : LinesFollow to change before after placed
    lines_follow = record {
      here = item_goes;
      elsewhere = λ sheet its. others_stay sheet its (sheet == id) refl;
    }

    -- the metadata
    pub metadata_follows : (items : List Item) → AreItemsWithin placed items
        → filter_map (name_item_followed to) (map (item_named before) items)
        ≡ map (item_named after) (filter_map (item_followed id axis change) items)
    metadata_follows = items_follow to change before after placed lines_follow

    -- a sheet
    module _ (sheet sheet' : PlaceSheet) (names : NameSheet) (stands : SheetStandsFor sheets sheet names)
        (own : IsOwn sheets names) (sound : IsSheetSound placed sheet) (on : All (IsOnSheet placed) sheet.merges)
        (filtered : IfSome sheet.filter (IsFilterOn placed)) (changed : SheetChanged id axis count change sheet sheet')
        (can : AreMergesOf sheet' sheet'.merges) where
      abbrev now : NameSheet
      now = sheet_followed to names

      is_placed : IsPlaced (content_named before) names.rows names.cols names.cells sheet.table
      is_placed = record {
        rows_there = stands.rows;
        cols_there = stands.cols;
        inside = sound.inside;
        stored = stands.cells;
        nowhere_else = stands.nowhere_else;
      }

      -- the sheet that is changed is the one with the id
      own_order : (names.id == id) ≡ true → before id axis ≡ lines_of names axis
      own_order is = ap (λ n. before n axis) (sym (eqb-true names.id id is))
          ∙ lines_there sheets names.id axis names own

      is_changed : (names.id == id) ≡ true → GoesWithLines axis change sheet.table changed.moved
      is_changed is = changed.goes (stands.id ∙ eqb-true names.id id is)

      is_another : (names.id == id) ≡ false → changed.moved ≡ sheet.table
      is_another is = changed.stays (λ same. false≢true (sym is ∙ eq-eqb names.id id (sym stands.id ∙ same)))

      -- an item that went with its line is what is stored in its cell
      stored_here : (names.id == id) ≡ true → (row col r c : ℕ) → slice_get now.rows row ≡ Some r
          → slice_get now.cols col ≡ Some c
          → names.cells r c ≡ option_map (content_named before) (item_at changed.moved row col)
      stored_here is = moved_table axis change sheet.table changed.moved (content_named before) names now is_placed
          (subst (λ order. LinesGo change order (lines_of now axis)) (own_order is)
          (subst (LinesGo change (before id axis)) (sym (followed_here to names is)) lines_go))
          (followed_across to names) (is_changed is)

      stored_elsewhere : (names.id == id) ≡ false → (row col r c : ℕ) → slice_get now.rows row ≡ Some r
          → slice_get now.cols col ≡ Some c
          → names.cells r c ≡ option_map (content_named before) (item_at changed.moved row col)
      stored_elsewhere is row col r c at_row at_col =
          stands.cells row col r c
          (ap (λ order. slice_get order row) (sym (followed_elsewhere to names is Rows)) ∙ at_row)
          (ap (λ order. slice_get order col) (sym (followed_elsewhere to names is Columns)) ∙ at_col)
          ∙ ap (λ table. option_map (content_named before) (item_at table row col)) (sym (is_another is))

      stored : (b : Bool) → (names.id == id) ≡ b → (row col r c : ℕ) → slice_get now.rows row ≡ Some r
          → slice_get now.cols col ≡ Some c
          → names.cells r c ≡ option_map (content_named before) (item_at changed.moved row col)
      stored true is = stored_here is
      stored false is = stored_elsewhere is

      within : (b : Bool) → (names.id == id) ≡ b → (row col : ℕ)
          → IfSome (item_at changed.moved row col) (IsContentWithin placed)
      within true is row col =
          holds_where_moved change sheet.table changed.moved axis (is_changed is) (IsContentWithin placed) sound.within
          row col (item_at changed.moved row col) refl
      within false is row col =
          subst (λ table. IfSome (item_at table row col) (IsContentWithin placed)) (sym (is_another is))
          (sound.within row col)

      cells_follow : (row col r c : ℕ) → slice_get now.rows row ≡ Some r → slice_get now.cols col ≡ Some c
          → now.cells r c ≡ option_map (content_named after) (item_at sheet'.table row col)
      cells_follow row col r c at_row at_col =
          followed_cells to names r c
          ∙ ap (λ b. cond b (option_map (name_content_followed to) (names.cells r c)) None)
          (both_listed now.rows now.cols r c (listed now.rows row r at_row) (listed now.cols col c at_col))
          ∙ ap (option_map (name_content_followed to)) (stored (names.id == id) refl row col r c at_row at_col)
          ∙ held_follows placed to count change before after areas (item_at changed.moved row col)
          (within (names.id == id) refl row col)
          ∙ ap (option_map (content_named after)) (sym (changed.followed.items row col))

      no_others : (r c : ℕ) → ¬ (Contains now.rows r × Contains now.cols c) → now.cells r c ≡ None
      no_others r c out = followed_cells to names r c
          ∙ empty_unless (is_among now.rows r && is_among now.cols c)
          (option_map (name_content_followed to) (names.cells r c))
          (λ both. let parts = and_parts (is_among now.rows r) (is_among now.cols c) both in
          out (listed_if_among now.rows r parts.0, listed_if_among now.cols c parts.1))

      moved_long : (b : Bool) → (names.id == id) ≡ b → (on : Axis)
          → lines_on on changed.moved.rows changed.moved.cols ≡ length (lines_of now on)
      moved_long true is on =
          let sizes = size_moved change sheet.table changed.moved axis (is_changed is) in
          on_both (λ on. lines_on on changed.moved.rows changed.moved.cols ≡ length (lines_of now on)) axis on
          (sizes.0
          ∙ ap (count_after change)
          (as_long sheets sheet names axis stands ∙ ap length (sym (own_order is)) ∙ made.long)
          ∙ sym (count_after_change change count (before id axis) fresh to.order made)
          ∙ ap length (sym (followed_here to names is)))
          (sizes.1 ∙ as_long sheets sheet names (other_axis axis) stands ∙ ap length (sym (followed_across to names)))
      moved_long false is on =
          ap (λ (table : Table Content). lines_on on table.rows table.cols) (is_another is)
          ∙ as_long sheets sheet names on stands ∙ ap length (sym (followed_elsewhere to names is on))

      long : (on : Axis) → lines_on on sheet'.table.rows sheet'.table.cols ≡ length (lines_of now on)
      long on = same_size on sheet'.table changed.moved changed.followed.rows changed.followed.cols
          ∙ moved_long (names.id == id) refl on

      distinct : (b : Bool) → (names.id == id) ≡ b → (on : Axis) → IsOrder (lines_of now on)
      distinct true is on =
          on_both (λ on. IsOrder (lines_of now on)) axis on
          (subst IsOrder (sym (followed_here to names is)) new_distinct)
          (subst IsOrder (sym (followed_across to names)) (distinct_on sheets sheet names (other_axis axis) stands))
      distinct false is on =
          subst IsOrder (sym (followed_elsewhere to names is on)) (distinct_on sheets sheet names on stands)

      -- the merges
      own_sheet : (merge : Area) → Contains sheet.merges merge → merge.sheet ≡ sheet.id
      own_sheet merge listed =
          (All-contains (λ one. (one.sheet ≡ sheet.id) × AreaWithin one sheet.table.rows sheet.table.cols) sheet.merges
          merge
          sound.merges.1 listed).0

      -- one of another sheet stays
      merge_stays : (names.id == id) ≡ false → (merge : Area) → Contains sheet.merges merge
          → area_followed id axis count change merge ≡ Some merge
      merge_stays is merge listed =
          ap (λ b. cond b (option_map (with_band axis merge) (track_of (band_on axis merge) count change)) (Some merge))
          (ap (λ n. n == id) (own_sheet merge listed ∙ stands.id) ∙ is)

      merges_made : (b : Bool) → (names.id == id) ≡ b → (area : Area)
          → Contains sheet'.merges area ↔ IsFollowed to count change sheet.merges area
      merges_made true is area =
          let same : sheet.id ≡ id = stands.id ∙ eqb-true names.id id is in
          let lists = (changed.merges_follow same).exactly area in (
            (λ listed.
                let came = lists.0 listed in (
                  came.merge,
                  came.listed,
                  ap (λ n. area_followed n axis count change came.merge) (sym (own_sheet came.merge came.listed ∙ same))
                      ∙ came.followed,
                  came.cells,
                )),
            (λ (merge, listed, followed, cells). lists.1 (record {
              merge = merge;
              listed = listed;
              followed = ap (λ n. area_followed n axis count change merge) (own_sheet merge listed ∙ same) ∙ followed;
              cells = cells;
            })),
          )
      merges_made false is area =
          let apart : sheet.id ≢ id = λ same. false≢true (sym is ∙ eq-eqb names.id id (sym stands.id ∙ same)) in
          let stay : sheet'.merges ≡ sheet.merges = changed.merges_stay apart in (
            (λ listed.
                let before : Contains sheet.merges area = subst (λ all. Contains all area) stay listed in (
                  area,
                  before,
                  merge_stays is area before,
                  (All-contains IsMerge sheet.merges area sound.merges.0.each before).1,
                )),
            (λ (merge, listed, followed, cells).
                subst (λ all. Contains all area) (sym stay)
                (subst (Contains sheet.merges) (same_Some merge area (sym (merge_stays is merge listed) ∙ followed))
                listed)),
          )

      -- the lines of the sheet
      lines_now : (on : Axis) → after names.id on ≡ lines_of now on
      lines_now on =
          lines_there (map (sheet_followed to) sheets) names.id on now
          (sheet_with-map (sheet_followed to) (followed_id to) names.id sheets
          ∙ ap (option_map (sheet_followed to)) own)

      merges_in_lines : All (IsInLines after) sheet'.merges
      merges_in_lines k d there =
          let merge = get_or sheet'.merges k d in
          let here = can.1 k d there in
          let of : merge.sheet ≡ names.id = here.0 ∙ changed.id ∙ stands.id in
          let same : (on : Axis) → lines_on on sheet'.table.rows sheet'.table.cols ≡ length (after merge.sheet on) =
          λ on. long on ∙ ap length (sym (ap (λ n. after n on) of ∙ lines_now on)) in
          (subst (Within merge.rows) (same Rows) here.1.0, subst (Within merge.cols) (same Columns) here.1.1)

      merges_same : (area : NameArea)
          → Contains now.merges area ↔ Contains (map (area_named after) sheet'.merges) area
      merges_same area =
          subst (λ all. Contains all area ↔ Contains (map (area_named after) sheet'.merges) area)
          (sym (followed_merges to names))
          (merges_follow to count change before after sheet.merges sheet'.merges names.merges
          (λ k d there. areas.follow (get_or sheet.merges k d) (on k d there)) merges_in_lines
          (merges_made (names.id == id) refl) stands.merges area)

      -- the filter
      filter_made : (b : Bool) → (names.id == id) ≡ b
          → sheet'.filter ≡ option_and_then (filter_moved id axis count change) sheet.filter
      filter_made true is =
          let same : sheet.id ≡ id = stands.id ∙ eqb-true names.id id is in
          changed.filter_follows same
          ∙ sym (moved_here id axis count change sheet.filter
          (IfSome_then sheet.filter sound.filter (λ filter of. of.own ∙ same)))
      filter_made false is =
          let other : (sheet.id == id) ≡ false = ap (λ n. n == id) stands.id ∙ is in
          changed.filter_stays (λ same. false≢true (sym other ∙ eq-eqb sheet.id id same))
          ∙ sym (moved_elsewhere id axis count change sheet.filter
          (IfSome_then sheet.filter sound.filter (λ filter of. ap (λ n. n == id) of.own ∙ other)))

      filter_same : now.filter ≡ option_map (filter_named after) sheet'.filter
      filter_same =
          followed_filter to names ∙ ap (option_and_then (name_filter_followed to)) stands.filter
          ∙ filters_follow to count change before after placed lines_follow areas.follow sheet.filter filtered
          ∙ ap (option_map (filter_named after)) (sym (filter_made (names.id == id) refl))

      pub sheet_follows : SheetStandsFor (map (sheet_followed to) sheets) sheet' now
      sheet_follows = record {
        id = changed.id ∙ stands.id ∙ sym (followed_id to names);
        title = changed.title ∙ stands.title ∙ sym (followed_title to names);
        hidden = changed.hidden ∙ stands.hidden ∙ sym (followed_hidden to names);
        distinct_rows = distinct (names.id == id) refl Rows;
        distinct_cols = distinct (names.id == id) refl Columns;
        rows = long Rows;
        cols = long Columns;
        cells = cells_follow;
        nowhere_else = no_others;
        merges = merges_same;
        filter = filter_same;
      }

    sheets_follow : (ones others : List PlaceSheet) (names : List NameSheet) → AllZip (SheetStandsFor sheets) ones names
        → All (IsOwn sheets) names → All (IsSheetSound placed) ones
        → All (λ sheet. All (IsOnSheet placed) sheet.merges) ones
        → All (λ sheet. IfSome sheet.filter (IsFilterOn placed)) ones
        → AllZip (SheetChanged id axis count change) ones others
        → All (λ sheet. AreMergesOf sheet sheet.merges) others
        → AllZip (SheetStandsFor (map (sheet_followed to) sheets)) others (map (sheet_followed to) names)
    sheets_follow [] [] [] stand own sound on filtered changed can = tt
    sheets_follow [] [] (n ∷ ns) stand own sound on filtered changed can = absurd stand
    sheets_follow [] (o ∷ os) names stand own sound on filtered changed can = absurd changed
    sheets_follow (s ∷ ss) [] names stand own sound on filtered changed can = absurd changed
    sheets_follow (s ∷ ss) (o ∷ os) [] stand own sound on filtered changed can = absurd stand
    sheets_follow (s ∷ ss) (o ∷ os) (n ∷ ns) stand own sound on filtered changed can = (
      sheet_follows s o n stand.0 (own 0 n (omega arith)) (sound 0 s (omega arith)) (on 0 s (omega arith))
          (filtered 0 s (omega arith)) changed.0 (can 0 o (omega arith)),
      sheets_follow ss os ns stand.1 (λ k d there. own (suc k) d (omega arith))
          (λ k d there. sound (suc k) d (omega arith)) (λ k d there. on (suc k) d (omega arith))
          (λ k d there. filtered (suc k) d (omega arith)) changed.1 (λ k d there. can (suc k) d (omega arith)),
    )

-- the law
module _ (tracks : TracksAll) (places : PlacesAll) (orders_stay : OrdersStay) (within : TracksStayWithin)
    (below : PlacesStayBelow) (stay : FollowedStayMerges) where
  pub changes_follow : (before after : PlaceBook) (names : NameBook) (id : ℕ) (axis : Axis) (count : ℕ)
      (change : Change)
      (fresh order : List ℕ) → BookStandsFor before names
      → Fits change count → IsLineCount axis (count_after change count)
      → Changes change count (orders_of names.sheets id axis) fresh order
      → BookChanged id axis count change before after → grid_places after.sheets ≤ most_places
      → BookStandsFor after (book_changed id axis (order_change change fresh) names)
  changes_follow before after names id axis count change fresh order stands fits room changes changed few =
      let to = line_change names.sheets id axis (order_change change fresh) in
      let made : Changes change count (orders_of names.sheets id axis) fresh to.order = record {
        distinct = changes.distinct;
        long = changes.long;
        inserts = changes.inserts;
        made = changes.made;
        result = refl;
      } in
      let sound = changes_stay_sound within below stay before after id axis count change stands.sound fits room
      (subst (λ n. IfSome (place_sheet_with id before.sheets)
      (λ sheet. lines_on axis sheet.table.rows sheet.table.cols ≡ n)) changes.long
      (lines_if_found before.sheets names.sheets id axis stands.sheets))
      changed few in
      record {
        sound = sound;
        id = changed.id ∙ stands.id;
        title = changed.title ∙ stands.title;
        owner = changed.owner ∙ stands.owner;
        sheets = sheets_follow tracks places orders_stay before.sheets names.sheets stands.sheets id axis count
            change fresh fits
            made before.sheets after.sheets names.sheets stands.sheets
            (own_sheets before.sheets names.sheets stands.sheets stands.sound.distinct) stands.sound.sheets
            (merges_on before.sheets before.sheets stands.sound.distinct stands.sound.sheets)
            (filters_on before.sheets before.sheets stands.sound.distinct stands.sound.sheets) changed.sheets
            (λ k d there. (sound.sheets k d there).merges);
        ranges = ap (filter_map (name_range_followed to)) stands.ranges
            ∙ named_follow tracks places orders_stay before.sheets names.sheets stands.sheets id axis count
            change fresh fits
            made before.ranges stands.sound.ranges
            ∙ ap (map (range_named (orders_of (map (sheet_followed to) names.sheets)))) (sym changed.ranges);
        protections = ap (filter_map (name_protection_followed to)) stands.protections
            ∙ protected_follow tracks places orders_stay before.sheets names.sheets stands.sheets id axis count
            change fresh
            fits made before.protections stands.sound.protections
            ∙ ap (map (protection_named (orders_of (map (sheet_followed to) names.sheets)))) (sym changed.protections);
        metadata = ap (filter_map (name_item_followed to)) stands.metadata
            ∙ metadata_follows tracks places orders_stay before.sheets names.sheets stands.sheets id axis count change
            fresh fits made before.metadata stands.sound.metadata
            ∙ ap (map (item_named (orders_of (map (sheet_followed to) names.sheets)))) (sym changed.metadata);
      }
