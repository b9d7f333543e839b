-- What always holds of a spreadsheet holds after a change of lines.
use Rattle.std.proofs.Common.{◌≡◌, ◌≢◌, ℕ, ◌<◌, ◌≤◌, zero, suc, refl, sym, ap, subst, ◌∙◌, List, [], ◌∷◌, cond, Bool, true, false, length, get_or, arith}
use Rattle.std.specs.Prelude.{Option, None, Some, IfSome, IsSomeAnd, is_some, map, option_and_then, ◌==◌}
use Rattle.std.specs.List.{All, AllPairs, AllZip, filter_map}
use Rattle.std.specs.Option.{option_map, option_map_or}
use Rattle.std.proofs.lemmas.Bool.{eqb-true, eq-eqb, false≢true}
use Rattle.std.proofs.lemmas.List.Elements.{All-contains, AllZip-get_or, Contains-get_or}
use Rattle.std.proofs.lemmas.Option.{IfSome_then}
use Rattle.basic_filter.specs.Following.{criteria_followed, criterion_followed, filter_followed}
use Rattle.basic_filter.specs.declared.types.Criterion.{Criterion}
use Rattle.basic_filter.specs.declared.types.Filter.{Filter}
use Rattle.grid_range.specs.Area.{AreaWithin, band_on, with_band}
use Rattle.grid_range.specs.Band.{Within}
use Rattle.grid_range.specs.Change.{Fits, count_after}
use Rattle.grid_range.specs.Tracking.{area_followed, place_of, track_of}
use Rattle.grid_range.specs.TrackingLaws.{TracksStayWithin, PlacesStayBelow}
use Rattle.grid_range.specs.declared.area.Area.{Area}
use Rattle.grid_range.specs.declared.axis.Axis.{Axis}
use Rattle.grid_range.specs.declared.axis.Axis.TheVariants.{Rows, Columns}
use Rattle.grid_range.specs.declared.band.Band.{Band}
use Rattle.grid_range.specs.declared.change.Change.{Change}
use Rattle.cell_store.specs.Moved.{lines_on, GoesWithLines}
use Rattle.cell_store.specs.Table.{Table, HasItemsInside, HasPlace, item_at}
use Rattle.merge_ranges.specs.Following.{AreWithin, CameFrom, FollowedStayMerges}
use Rattle.named_ranges.specs.Following.{range_followed}
use Rattle.named_ranges.specs.declared.range.NamedRange.{NamedRange}
use Rattle.protection.specs.Following.{protection_followed}
use Rattle.dev_metadata.specs.Following.{item_followed}
use Rattle.dev_metadata.specs.declared.types.Item.{Item}
use Rattle.protection.specs.declared.range.Protection.{Protection}
use Rattle.ref_rewrite.specs.Following.{piece_followed}
use Rattle.ref_rewrite.specs.declared.cell_content.Content.{Content}
use Rattle.ref_rewrite.specs.declared.cell_content.Content.TheVariants as content
use Rattle.ref_rewrite.specs.declared.pieces.Piece.{Piece}
use Rattle.ref_rewrite.specs.declared.pieces.Piece.TheVariants as piece
use Rattle.ref_rewrite.specs.declared.reference.Ref.{Ref as Reference}
use Rattle.world_model.specs.Book.{PlaceBook}
use Rattle.world_model.specs.Counts.{grid_places}
use Rattle.world_model.specs.PlaceChange.{SheetChanged, BookChanged, content_followed}
use Rattle.world_model.specs.Sheet.{PlaceSheet}
use Rattle.world_model.specs.Sound.{AreMergesOf, IsFilterOf, IsSheetSound, IsSound, IsLineCount, HasNotation, IsContentWithin, IsOnSheet, IsPieceWithin, IsAreaWithin, most_places, most_sheets, place_sheet_with}
use Rattle.world_model.proofs.Areas.{other_axis}
use Rattle.world_model.proofs.Forms.{notation_kept}
use Rattle.world_model.proofs.Kept.{KeepsTitle, filter_kept, merges_kept, only_one, found_both, found_too, still_found, visible_stays, distinct_stay, titles_stay, there_before, same_length}
use Rattle.world_model.proofs.MovedTables.{row_came, col_came, same_size, size_moved, holds_where_moved}
use Rattle.world_model.proofs.Orders.{on_both}
use Rattle.world_model.proofs.MetadataNamed.{AreWithin as AreItemsWithin, all_followed_within as all_items_followed_within}
use Rattle.world_model.proofs.ProtectionsNamed.{AreWithin as AreProtectionsWithin, all_followed_within}
use Rattle.world_model.proofs.RangesNamed.{All-filter_map, AreOnSheets}

-- items stand in the sheet where their lines went
module _ {T : Type 0} (below : PlacesStayBelow) (change : Change) (count : ℕ) (fits : Fits change count)
    (before moved : Table T) (inside : HasItemsInside before) where
  place_below : (old place : ℕ) → old < count → place_of change old ≡ Some place → place < count_after change count
  place_below old place there is =
      subst (λ found. IfSome found (λ place. place < count_after change count)) is (below change count old fits there)

  inside_on : (axis : Axis) → GoesWithLines axis change before moved → lines_on axis before.rows before.cols ≡ count
      → (row col : ℕ) (item : T) → item_at moved row col ≡ Some item → HasPlace moved row col
  inside_on Rows goes long row col item is =
      let sizes = size_moved change before moved Rows goes in
      let came = row_came change before moved row col item ((goes.items row col item).0 is) in
      let there = inside came.0 col (ap is_some came.2) in (
        subst (λ n. row < n) (sym (sizes.0 ∙ ap (count_after change) long))
            (place_below came.0 row (subst (λ n. came.0 < n) long there.0) came.1),
        subst (λ n. col < n) (sym sizes.1) there.1,
      )
  inside_on Columns goes long row col item is =
      let sizes = size_moved change before moved Columns goes in
      let came = col_came change before moved row col item ((goes.items row col item).0 is) in
      let there = inside row came.0 (ap is_some came.2) in (
        subst (λ n. row < n) (sym sizes.1) there.0,
        subst (λ n. col < n) (sym (sizes.0 ∙ ap (count_after change) long))
            (place_below came.0 col (subst (λ n. came.0 < n) long there.1) came.1),
      )

  inside_held : (axis : Axis) → GoesWithLines axis change before moved → lines_on axis before.rows before.cols ≡ count
      → (row col : ℕ) (held : Option T) → item_at moved row col ≡ held → is_some held ≡ true → HasPlace moved row col
  inside_held axis goes long row col None is some = absurd (false≢true some)
  inside_held axis goes long row col (Some item) is some = inside_on axis goes long row col item is

  inside_moved : (axis : Axis) → GoesWithLines axis change before moved → lines_on axis before.rows before.cols ≡ count
      → HasItemsInside moved
  inside_moved axis goes long row col some = inside_held axis goes long row col (item_at moved row col) refl some

-- the bands of an area on both axes
record BandsWithin (axis : Axis) (on across : Band) (table : Table Content) : Type 0 where
  pub here : Within on (lines_on axis table.rows table.cols)
  pub there : Within across (lines_on (other_axis axis) table.rows table.cols)

with_band_within : (axis : Axis) (area : Area) (band : Band) (sheets : List PlaceSheet)
    → IsSomeAnd (place_sheet_with area.sheet sheets)
    (λ sheet. BandsWithin axis band (band_on (other_axis axis) area) sheet.table)
    → IsOnSheet sheets (with_band axis area band)
with_band_within Rows area band sheets found =
    found_too (λ sheet. BandsWithin Rows band area.cols sheet.table)
    (λ sheet. Within band sheet.table.rows × Within area.cols sheet.table.cols)
    (λ sheet both. (both.here, both.there)) (place_sheet_with area.sheet sheets) found
with_band_within Columns area band sheets found =
    found_too (λ sheet. BandsWithin Columns band area.rows sheet.table)
    (λ sheet. Within area.rows sheet.table.rows × Within band sheet.table.cols)
    (λ sheet both. (both.there, both.here)) (place_sheet_with area.sheet sheets) found

bands_within : (axis : Axis) (area : Area) (table : Table Content) → AreaWithin area table.rows table.cols
    → BandsWithin axis (band_on axis area) (band_on (other_axis axis) area) table
bands_within Rows area table within = record { here = within.0; there = within.1 }
bands_within Columns area table within = record { here = within.1; there = within.0 }

-- an area with other lines on the axis is of its sheet, and within where both bands are
with_lines_within : (axis : Axis) (area : Area) (band : Band) (table : Table Content)
    → BandsWithin axis band (band_on (other_axis axis) area) table
    → ((with_band axis area band).sheet ≡ area.sheet) × AreaWithin (with_band axis area band) table.rows table.cols
with_lines_within Rows area band table both = (refl, (both.here, both.there))
with_lines_within Columns area band table both = (refl, (both.there, both.here))

can_have : {sheets : List PlaceSheet} (sheet : PlaceSheet) (on : Axis) → IsSheetSound sheets sheet
    → IsLineCount on (lines_on on sheet.table.rows sheet.table.cols)
can_have sheet Rows sound = sound.rows
can_have sheet Columns sound = sound.cols

some_of_either : {A : Type 0} (P : A → Type 0) (b : Bool) (one other : Option A) → (b ≡ true → IfSome one P)
    → (b ≡ false → IfSome other P) → IfSome (cond b one other) P
some_of_either P true one other here elsewhere = here refl
some_of_either P false one other here elsewhere = elsewhere refl

mapped_holds : {A B : Type 0} (f : A → B) (P : B → Type 0) (found : Option A) → IfSome found (λ one. P (f one))
    → IfSome (option_map f found) P
mapped_holds f P None holds = tt
mapped_holds f P (Some one) holds = holds

if_both : {A : Type 0} (P Q : A → Type 0) (found : Option A) → IfSome found P → IfSome found Q
    → IfSome found (λ one. P one × Q one)
if_both P Q None p q = tt
if_both P Q (Some one) p q = (p, q)

-- a column that a criterion follows is one of the columns afterwards
module _ (below : PlacesStayBelow) (change : Change) (count : ℕ) (fits : Fits change count) where
  criterion_below : (criterion : Criterion) → criterion.column < count
      → IfSome (criterion_followed change criterion) (λ one. one.column < count_after change count)
  criterion_below criterion there =
      mapped_holds (λ column. record criterion { column = column }) (λ one. one.column < count_after change count)
      (place_of change criterion.column) (below change count criterion.column fits there)

  criteria_below : (axis : Axis) (criteria : List Criterion) (before after : Table Content)
      → lines_on axis before.rows before.cols ≡ count → lines_on axis after.rows after.cols ≡ count_after change count
      → lines_on (other_axis axis) after.rows after.cols ≡ lines_on (other_axis axis) before.rows before.cols
      → All (λ criterion. criterion.column < before.cols) criteria
      → All (λ criterion. criterion.column < after.cols) (criteria_followed axis change criteria)
  criteria_below Rows criteria before after long size across there =
      subst (λ n. All (λ (criterion : Criterion). criterion.column < n) criteria) (sym across) there
  criteria_below Columns criteria before after long size across there =
      subst (λ n. All (λ (criterion : Criterion). criterion.column < n) (criteria_followed Columns change criteria))
      (sym size)
      (All-filter_map (criterion_followed change) (λ one. one.column < count_after change count) criteria
      (λ k d inside. criterion_below (get_or criteria k d)
      (subst (λ n. (get_or criteria k d).column < n) long (there k d inside))))

goes_keeps : (id : ℕ) (axis : Axis) (count : ℕ) (change : Change) (one other : PlaceSheet)
    → SheetChanged id axis count change one other → KeepsTitle one other
goes_keeps id axis count change one other goes = record { id = goes.id; title = goes.title; hidden = goes.hidden }

module _ (within : TracksStayWithin) (below : PlacesStayBelow) (stay : FollowedStayMerges)
    (befores afters : List PlaceSheet) (id : ℕ) (axis : Axis)
    (count : ℕ) (change : Change) (fits : Fits change count)
    (all : AllZip (SheetChanged id axis count change) befores afters)
    (distinct : AllPairs (λ one other. one.id ≢ other.id) befores)
    (long : IfSome (place_sheet_with id befores) (λ sheet. lines_on axis sheet.table.rows sheet.table.cols ≡ count))
    (room : IsLineCount axis (count_after change count)) where
  abbrev Goes : PlaceSheet → PlaceSheet → Type 0
  Goes = SheetChanged id axis count change

  keeps : (one other : PlaceSheet) → Goes one other → KeepsTitle one other
  keeps = goes_keeps id axis count change

  -- the sheet that is changed has the changed number of lines on the axis, and all lines across
  size_here : (one other : PlaceSheet) → Goes one other → one.id ≡ id
      → (lines_on axis other.table.rows other.table.cols
      ≡ count_after change (lines_on axis one.table.rows one.table.cols))
      × (lines_on (other_axis axis) other.table.rows other.table.cols
      ≡ lines_on (other_axis axis) one.table.rows one.table.cols)
  size_here one other goes same =
      let sizes = size_moved change one.table goes.moved axis (goes.goes same) in (
        same_size axis other.table goes.moved goes.followed.rows goes.followed.cols ∙ sizes.0,
        same_size (other_axis axis) other.table goes.moved goes.followed.rows goes.followed.cols ∙ sizes.1,
      )

  area_elsewhere : (area : Area) → IsOnSheet befores area → (area.sheet == id) ≡ false → IsOnSheet afters area
  area_elsewhere area on is =
      still_found Goes keeps area.sheet (λ sheet. AreaWithin area sheet.table.rows sheet.table.cols)
      (λ sheet. AreaWithin area sheet.table.rows sheet.table.cols)
      (λ one other goes same held.
      let stays : goes.moved ≡ one.table =
      goes.stays (λ own. false≢true (sym is ∙ eq-eqb area.sheet id (sym (eqb-true one.id area.sheet same) ∙ own))) in (
        subst (Within area.rows) (sym (goes.followed.rows ∙ ap (λ (table : Table Content). table.rows) stays)) held.0,
        subst (Within area.cols) (sym (goes.followed.cols ∙ ap (λ (table : Table Content). table.cols) stays)) held.1,
      ))
      befores afters all on

  long_too : (area : Area) → (area.sheet == id) ≡ true
      → IfSome (place_sheet_with area.sheet befores) (λ sheet. lines_on axis sheet.table.rows sheet.table.cols ≡ count)
  long_too area is =
      subst (λ n. IfSome (place_sheet_with n befores)
      (λ sheet. lines_on axis sheet.table.rows sheet.table.cols ≡ count)) (sym (eqb-true area.sheet id is)) long

  -- an area of the sheet that is changed, and the number of that sheet's lines
  area_and_lines : (area : Area) → IsOnSheet befores area → (area.sheet == id) ≡ true
      → IsSomeAnd (place_sheet_with area.sheet befores)
      (λ sheet. AreaWithin area sheet.table.rows sheet.table.cols
      × (lines_on axis sheet.table.rows sheet.table.cols ≡ count))
  area_and_lines area on is =
      found_both (λ sheet. AreaWithin area sheet.table.rows sheet.table.cols)
      (λ sheet. lines_on axis sheet.table.rows sheet.table.cols ≡ count) (place_sheet_with area.sheet befores) on
      (long_too area is)

  band_here : (area : Area) → IsOnSheet befores area → (area.sheet == id) ≡ true → (band : Band)
      → Within band (count_after change count) → IsOnSheet afters (with_band axis area band)
  band_here area on is band held =
      with_band_within axis area band afters
      (still_found Goes keeps area.sheet
      (λ sheet. AreaWithin area sheet.table.rows sheet.table.cols
      × (lines_on axis sheet.table.rows sheet.table.cols ≡ count))
      (λ sheet. BandsWithin axis band (band_on (other_axis axis) area) sheet.table)
      (λ one other goes same both.
      let sizes = size_here one other goes (eqb-true one.id area.sheet same ∙ eqb-true area.sheet id is) in
      record {
        here = subst (Within band) (sym (sizes.0 ∙ ap (count_after change) both.1)) held;
        there = subst (Within (band_on (other_axis axis) area)) (sym sizes.1)
            (bands_within axis area one.table both.0).there;
      })
      befores afters all
      (area_and_lines area on is))

  areas_here : (area : Area) → IsOnSheet befores area → (area.sheet == id) ≡ true → (band : Option Band)
      → IfSome band (λ found. Within found (count_after change count))
      → IfSome (option_map (with_band axis area) band) (IsOnSheet afters)
  areas_here area on is None held = tt
  areas_here area on is (Some band) held = band_here area on is band held

  track_within : (area : Area) → IsOnSheet befores area → (area.sheet == id) ≡ true
      → IfSome (track_of (band_on axis area) count change) (λ found. Within found (count_after change count))
  track_within area on is = within (band_on axis area) count change fits
      (one_within (place_sheet_with area.sheet befores)
      (area_and_lines area on is))
    where
      one_within : (found : Option PlaceSheet)
          → IsSomeAnd found (λ sheet. AreaWithin area sheet.table.rows sheet.table.cols
          × (lines_on axis sheet.table.rows sheet.table.cols ≡ count))
          → Within (band_on axis area) count
      one_within None both = absurd both
      one_within (Some sheet) both =
          subst (Within (band_on axis area)) both.1 (bands_within axis area sheet.table both.0).here

  area_stays_on : (area : Area) → IsOnSheet befores area
      → IfSome (area_followed id axis count change area) (IsOnSheet afters)
  area_stays_on area on =
      some_of_either (IsOnSheet afters) (area.sheet == id)
      (option_map (with_band axis area) (track_of (band_on axis area) count change)) (Some area)
      (λ is. areas_here area on is (track_of (band_on axis area) count change) (track_within area on is))
      (area_elsewhere area on)

  notation_stays : (area : Area) → HasNotation area.rows area.cols
      → IfSome (area_followed id axis count change area) (λ found. HasNotation found.rows found.cols)
  notation_stays area has =
      some_of_either (λ found. HasNotation found.rows found.cols) (area.sheet == id)
      (option_map (with_band axis area) (track_of (band_on axis area) count change)) (Some area)
      (λ is. mapped_holds (with_band axis area) (λ found. HasNotation found.rows found.cols)
      (track_of (band_on axis area) count change) (notation_kept axis area count change has))
      (λ is. has)

  area_stays : (area : Area) → IsAreaWithin befores area
      → IfSome (area_followed id axis count change area) (IsAreaWithin afters)
  area_stays area inside =
      if_both (IsOnSheet afters) (λ found. HasNotation found.rows found.cols) (area_followed id axis count change area)
      (area_stays_on area inside.0) (notation_stays area inside.1)

  -- the ranges
  range_stays : (range : NamedRange) (found : Option Area) → IfSome found (IsOnSheet afters)
      → IfSome (option_map (λ area. record range { area = area }) found) (λ one. IsOnSheet afters one.area)
  range_stays range None held = tt
  range_stays range (Some area) held = held

  ranges_stay : (ranges : List NamedRange) → AreOnSheets befores ranges
      → AreOnSheets afters (filter_map (range_followed id axis count change) ranges)
  ranges_stay ranges on =
      All-filter_map (range_followed id axis count change) (λ range. IsOnSheet afters range.area) ranges
      (λ k d there. range_stays (get_or ranges k d) (area_followed id axis count change (get_or ranges k d).area)
      (area_stays_on (get_or ranges k d).area (on k d there)))

  -- the protections
  protections_stay : (protections : List Protection) → AreProtectionsWithin befores protections
      → AreProtectionsWithin afters (filter_map (protection_followed id axis count change) protections)
  protections_stay = all_followed_within id axis count change befores afters area_stays_on

  -- the metadata
  items_stay : (items : List Item) → AreItemsWithin befores items
      → AreItemsWithin afters (filter_map (item_followed id axis change) items)
  items_stay = all_items_followed_within id axis count change befores afters area_stays_on

  -- a reference that follows is within, and one that is lost is no reference
  reference_stays : (reference : Reference) (area : Option Area) → IfSome area (IsAreaWithin afters)
      → IsPieceWithin afters (option_map_or (λ found. piece.Ref (record reference { area = found })) area piece.Lost)
  reference_stays reference None held = tt
  reference_stays reference (Some area) held = held

  piece_stays : (one : Piece) → IsPieceWithin befores one
      → IsPieceWithin afters (piece_followed id axis count change one)
  piece_stays (piece.Text text) inside = tt
  piece_stays (piece.Word word) inside = tt
  piece_stays (piece.Ref reference) inside =
      reference_stays reference (area_followed id axis count change reference.area) (area_stays reference.area inside)
  piece_stays piece.Lost inside = tt

  pieces_stay : (pieces : List Piece) → All (IsPieceWithin befores) pieces
      → All (IsPieceWithin afters) (map (piece_followed id axis count change) pieces)
  pieces_stay [] inside k d there = absurd (omega arith)
  pieces_stay (one ∷ pieces) inside zero d there = piece_stays one (inside 0 one (omega arith))
  pieces_stay (one ∷ pieces) inside (suc k) d there =
      pieces_stay pieces (λ j e below. inside (suc j) e (omega arith)) k d (omega arith)

  content_stays : (one : Content) → IsContentWithin befores one
      → IsContentWithin afters (content_followed id axis count change one)
  content_stays (content.Number number) inside = tt
  content_stays (content.Text text) inside = tt
  content_stays (content.Truth truth) inside = tt
  content_stays (content.Formula formula) inside = pieces_stay formula.pieces inside

  held_stays : (held : Option Content) → IfSome held (IsContentWithin befores)
      → IfSome (option_map (content_followed id axis count change) held) (IsContentWithin afters)
  held_stays None inside = tt
  held_stays (Some one) inside = content_stays one inside

  is_some-followed : (held : Option Content) → is_some (option_map (content_followed id axis count change) held)
      ≡ is_some held
  is_some-followed None = refl
  is_some-followed (Some one) = refl

  -- a sheet
  module _ (one other : PlaceSheet) (goes : Goes one other) (sound : IsSheetSound befores one)
      (own : one.id ≡ id → lines_on axis one.table.rows one.table.cols ≡ count) where
    moved_inside : (b : Bool) → (one.id == id) ≡ b → HasItemsInside goes.moved
    moved_inside true is =
        let same = eqb-true one.id id is in
        inside_moved below change count fits one.table goes.moved sound.inside axis (goes.goes same) (own same)
    moved_inside false is =
        subst HasItemsInside (sym (goes.stays (λ same. false≢true (sym is ∙ eq-eqb one.id id same)))) sound.inside

    moved_within : (b : Bool) → (one.id == id) ≡ b → (row col : ℕ)
        → IfSome (item_at goes.moved row col) (IsContentWithin befores)
    moved_within true is row col =
        holds_where_moved change one.table goes.moved axis (goes.goes (eqb-true one.id id is)) (IsContentWithin befores)
        sound.within row col (item_at goes.moved row col) refl
    moved_within false is row col =
        subst (λ table. IfSome (item_at table row col) (IsContentWithin befores))
        (sym (goes.stays (λ same. false≢true (sym is ∙ eq-eqb one.id id same)))) (sound.within row col)

    -- its merges are where its lines went
    merges_within : one.id ≡ id → AreWithin axis count one.merges
    merges_within same k d there =
        subst (Within (band_on axis (get_or one.merges k d))) (own same)
        (bands_within axis (get_or one.merges k d) one.table (sound.merges.1 k d there).1).here

    abbrev IsOwnArea : Area → Type 0
    IsOwnArea area = (area.sheet ≡ other.id) × AreaWithin area other.table.rows other.table.cols

    -- an area of it that follows is of it afterwards
    area_moved : one.id ≡ id → (area : Area) → (area.sheet ≡ one.id) × AreaWithin area one.table.rows one.table.cols
        → IfSome (area_followed area.sheet axis count change area) IsOwnArea
    area_moved same area here =
        let bands = bands_within axis area one.table here.1 in
        let sizes = size_here one other goes same in
        let tracked = IfSome_then (track_of (band_on axis area) count change)
        (within (band_on axis area) count change fits (subst (Within (band_on axis area)) (own same) bands.here))
        (λ band held.
        let both = with_lines_within axis area band other.table (record {
          here = subst (Within band) (sym (sizes.0 ∙ ap (count_after change) (own same))) held;
          there = subst (Within (band_on (other_axis axis) area)) (sym sizes.1) bands.there;
        }) in
        (both.0 ∙ here.0 ∙ sym goes.id, both.1)) in
        some_of_either IsOwnArea (area.sheet == area.sheet)
        (option_map (with_band axis area) (track_of (band_on axis area) count change)) (Some area)
        (λ is. mapped_holds (with_band axis area) IsOwnArea (track_of (band_on axis area) count change) tracked)
        (λ is. absurd (false≢true (sym is ∙ eq-eqb area.sheet area.sheet refl)))

    own_area : one.id ≡ id → (area : Area) → CameFrom axis count change one.merges area → IsOwnArea area
    own_area same area came =
        subst (λ found. IfSome found IsOwnArea) came.followed
        (area_moved same came.merge
        (All-contains (λ m. (m.sheet ≡ one.id) × AreaWithin m one.table.rows one.table.cols) one.merges came.merge
        sound.merges.1 came.listed))

    merges_moved : (b : Bool) → (one.id == id) ≡ b → AreMergesOf other other.merges
    merges_moved true is =
        let same = eqb-true one.id id is in
        let lists = goes.merges_follow same in (
          stay.stays axis count change one.merges other.merges fits sound.merges.0 (merges_within same)
              (goes.whole same) lists,
          λ k d there. own_area same (get_or other.merges k d)
              ((lists.exactly (get_or other.merges k d)).0 (Contains-get_or other.merges k d there)),
        )
    merges_moved false is =
        let apart : one.id ≢ id = λ same. false≢true (sym is ∙ eq-eqb one.id id same) in
        let stays : goes.moved ≡ one.table = goes.stays apart in
        merges_kept one other goes.id (goes.followed.rows ∙ ap (λ (table : Table Content). table.rows) stays)
        (goes.followed.cols ∙ ap (λ (table : Table Content). table.cols) stays) (goes.merges_stay apart) sound.merges

    -- its filter is, too, and of columns that it has, unless it is lost
    filter_of : one.id ≡ id → (found : Option Filter) → IfSome found (IsFilterOf one)
        → IfSome (option_and_then (filter_followed axis count change) found) (IsFilterOf other)
    filter_of same None is = tt
    filter_of same (Some filter) is =
        let sizes = size_here one other goes same in
        mapped_holds (λ area. record { area = area; criteria = criteria_followed axis change filter.criteria })
        (IsFilterOf other) (area_followed filter.area.sheet axis count change filter.area)
        (IfSome_then (area_followed filter.area.sheet axis count change filter.area)
        (area_moved same filter.area (is.own, is.within))
        (λ area held. record {
          own = held.0;
          within = held.1;
          columns = criteria_below below change count fits axis filter.criteria one.table other.table (own same)
              (sizes.0 ∙ ap (count_after change) (own same)) sizes.1 is.columns;
        }))

    filter_stays : (b : Bool) → (one.id == id) ≡ b → IfSome other.filter (IsFilterOf other)
    filter_stays true is =
        let same = eqb-true one.id id is in
        subst (λ found. IfSome found (IsFilterOf other)) (sym (goes.filter_follows same))
        (filter_of same one.filter sound.filter)
    filter_stays false is =
        let apart : one.id ≢ id = λ same. false≢true (sym is ∙ eq-eqb one.id id same) in
        let stays : goes.moved ≡ one.table = goes.stays apart in
        filter_kept one other goes.id (goes.followed.rows ∙ ap (λ (table : Table Content). table.rows) stays)
        (goes.followed.cols ∙ ap (λ (table : Table Content). table.cols) stays) (goes.filter_stays apart) sound.filter

    -- it has as many lines as a sheet can have
    lines_stay : (b : Bool) → (one.id == id) ≡ b → (on : Axis)
        → IsLineCount on (lines_on on other.table.rows other.table.cols)
    lines_stay true is on =
        let same = eqb-true one.id id is in
        let sizes = size_here one other goes same in
        on_both (λ on. IsLineCount on (lines_on on other.table.rows other.table.cols)) axis on
        (subst (IsLineCount axis) (sym (sizes.0 ∙ ap (count_after change) (own same))) room)
        (subst (IsLineCount (other_axis axis)) (sym sizes.1) (can_have one (other_axis axis) sound))
    lines_stay false is on =
        let stays : goes.moved ≡ one.table = goes.stays (λ same. false≢true (sym is ∙ eq-eqb one.id id same)) in
        subst (IsLineCount on)
        (sym (same_size on other.table goes.moved goes.followed.rows goes.followed.cols
        ∙ ap (λ (table : Table Content). lines_on on table.rows table.cols) stays))
        (can_have one on sound)

    sheet_stays : IsSheetSound afters other
    sheet_stays = record {
      titled = subst (λ title. 0 < length title) (sym goes.title) sound.titled;
      rows = lines_stay (one.id == id) refl Rows;
      cols = lines_stay (one.id == id) refl Columns;
      inside = λ row col some.
          let held : is_some (item_at goes.moved row col) ≡ true =
          sym (is_some-followed (item_at goes.moved row col)) ∙ ap is_some (sym (goes.followed.items row col)) ∙ some in
          let there = moved_inside (one.id == id) refl row col held in (
            subst (λ n. row < n) (sym goes.followed.rows) there.0,
            subst (λ n. col < n) (sym goes.followed.cols) there.1,
          );
      within = λ row col.
          subst (λ held. IfSome held (IsContentWithin afters)) (sym (goes.followed.items row col))
          (held_stays (item_at goes.moved row col) (moved_within (one.id == id) refl row col));
      merges = merges_moved (one.id == id) refl;
      filter = filter_stays (one.id == id) refl;
    }

  sheets_stay : All (IsSheetSound befores) befores → All (IsSheetSound afters) afters
  sheets_stay sound k d there =
      let inside = there_before Goes keeps befores afters all k there in
      sheet_stays (get_or befores k d) (get_or afters k d) (AllZip-get_or Goes befores afters k d d all inside)
      (sound k d inside)
      (only_one id (λ sheet. lines_on axis sheet.table.rows sheet.table.cols ≡ count) befores distinct long k d inside)

-- the law, where the sheet may be there
pub changes_stay_sound : TracksStayWithin → PlacesStayBelow → FollowedStayMerges → (before after : PlaceBook) (id : ℕ)
    (axis : Axis) (count : ℕ) (change : Change) → IsSound before → Fits change count
    → IsLineCount axis (count_after change count)
    → IfSome (place_sheet_with id before.sheets) (λ sheet. lines_on axis sheet.table.rows sheet.table.cols ≡ count)
    → BookChanged id axis count change before after → grid_places after.sheets ≤ most_places → IsSound after
changes_stay_sound within below stay before after id axis count change sound fits room long changed few = record {
  distinct = distinct_stay (SheetChanged id axis count change) (goes_keeps id axis count change) before.sheets
      after.sheets changed.sheets sound.distinct;
  titles = titles_stay (SheetChanged id axis count change) (goes_keeps id axis count change) before.sheets after.sheets
      changed.sheets sound.titles;
  visible = visible_stays (SheetChanged id axis count change) (goes_keeps id axis count change) before.sheets
      after.sheets changed.sheets ∙ sound.visible;
  sheets = sheets_stay within below stay before.sheets after.sheets id axis count change fits changed.sheets
      sound.distinct long room sound.sheets;
  few_sheets = subst (λ n. n ≤ most_sheets)
      (same_length (SheetChanged id axis count change) (goes_keeps id axis count change) before.sheets after.sheets
      changed.sheets) sound.few_sheets;
  few_places = few;
  ranges = subst (AreOnSheets after.sheets) (sym changed.ranges)
      (ranges_stay within below stay before.sheets after.sheets id axis count change fits changed.sheets sound.distinct
      long room before.ranges sound.ranges);
  protections = subst (AreProtectionsWithin after.sheets) (sym changed.protections)
      (protections_stay within below stay before.sheets after.sheets id axis count change fits changed.sheets
      sound.distinct long room before.protections sound.protections);
  metadata = subst (AreItemsWithin after.sheets) (sym changed.metadata)
      (items_stay within below stay before.sheets after.sheets id axis count change fits changed.sheets
      sound.distinct long
      room before.metadata sound.metadata);
}
