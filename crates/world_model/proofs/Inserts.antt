-- Lines that are inserted leave each cell protected that was.
use Rattle.std.proofs.Common.{◌≡◌, ℕ, ◌+◌, ◌<◌, ◌≤◌, ◌&&◌, refl, sym, ap, subst, ◌∙◌, List, length, get_or, cond, Bool, true, false, arith}
use Rattle.std.specs.Prelude.{Any, Contains, IfSome, IsSomeAnd, None, Option, Some, map, slice_get, ◌==◌}
use Rattle.std.specs.List.{All, AllZip, filter_map, range_with_len}
use Rattle.std.specs.Option.{option_map}
use Rattle.std.proofs.lemmas.Bool.{eqb-true}
use Rattle.std.proofs.lemmas.Bool.Decides.{nat_tests}
use Rattle.std.proofs.lemmas.List.{get_or-map, length-map}
use Rattle.std.proofs.lemmas.List.Elements.{All-contains, All-map}
use Rattle.std.proofs.lemmas.Option.{slice_get-get_or}
use Rattle.cell_value.specs.Elements.{Contains-filter_map, Contains-map_from}
use Rattle.grid_range.specs.Area.{band_on, with_band}
use Rattle.grid_range.specs.Band.{HasLine, Within}
use Rattle.grid_range.specs.Change.{Changes, Fits, order_change}
use Rattle.grid_range.specs.FollowingLaws.{OrdersStay}
use Rattle.grid_range.specs.Order.{IsOrder}
use Rattle.grid_range.specs.Tracking.{area_followed, end_opened, start_opened, track_of}
use Rattle.grid_range.specs.TrackingLaws.{PlacesAll, TracksAll}
use Rattle.grid_range.specs.declared.area.Area.{Area}
use Rattle.grid_range.specs.declared.axis.Axis.{Axis}
use Rattle.grid_range.specs.declared.axis.Axis.TheVariants.{Rows, Columns}
use Rattle.grid_range.specs.declared.band.Band.{Band}
use Rattle.grid_range.specs.declared.band.Band.TheVariants.{Whole, From, Span}
use Rattle.grid_range.specs.declared.change.Change.TheVariants.{Insert}
use Rattle.cell_store.specs.Moved.{lines_on}
use Rattle.protection.specs.declared.range.Protection.{Protection}
use Rattle.world_model.specs.Area.{Orders, area_named, band_named}
use Rattle.world_model.specs.Book.{PlaceBook, orders_of, sheet_with}
use Rattle.world_model.specs.BookChange.{BookChange, Named, NamedStandsFor, changed_by}
use Rattle.world_model.specs.Leaving.{HasCell}
use Rattle.world_model.specs.LineChange.{LineChange, line_change, name_area_followed, name_protection_followed, sheet_followed}
use Rattle.world_model.specs.Protected.{CoversCell, HasName, IsProtected, KeepsOff}
use Rattle.world_model.specs.Protections.{NameProtection, protection_named}
use Rattle.world_model.specs.Sheet.{NameSheet, PlaceSheet, lines_of}
use Rattle.world_model.specs.Sound.{IsOnSheet, IsProtectionWithin, place_sheet_with}
use Rattle.world_model.specs.StandsFor.{SheetStandsFor}
use Rattle.world_model.proofs.Areas.{other_axis}
use Rattle.world_model.proofs.Changed.{areas, lines_go, new_distinct}
use Rattle.world_model.proofs.ContentsApart.{IsInOrders, in_orders}
use Rattle.world_model.proofs.Counts.{count_after_change}
use Rattle.world_model.proofs.Found.{as_long, distinct_on, found_by_name}
use Rattle.world_model.proofs.Lines.{lines_there}
use Rattle.world_model.proofs.NewLines.{fresh_changes, orders_below}
use Rattle.world_model.proofs.Orders.{on_both, order_here, orders_across, orders_elsewhere}
use Rattle.world_model.proofs.Protected.{has_line, has_name}
use Rattle.world_model.proofs.RangesNamed.{All-filter_map}

-- ---- a band has a line afterwards just where it had it

module _ (at more : ℕ) where
  starts_in_order : (a b : ℕ) → a ≤ b → start_opened at more a ≤ start_opened at more b
  starts_in_order a b less = grind (arith, nat_tests)

  starts_in_turn : (a b : ℕ) → start_opened at more a ≤ start_opened at more b → a ≤ b
  starts_in_turn a b less = grind (arith, nat_tests)

  before_end : (line end : ℕ) → line < end → start_opened at more line < end_opened at more end
  before_end line end less = grind (arith, nat_tests)

  was_before_end : (line end : ℕ) → start_opened at more line < end_opened at more end → line < end
  was_before_end line end less = grind (arith, nat_tests)

  start_inside : (line count : ℕ) → line < count → start_opened at more line < count + more
  start_inside line count less = grind (arith, nat_tests)

  end_inside : (end count : ℕ) → end ≤ count → end_opened at more end ≤ count + more
  end_inside end count less = grind (arith, nat_tests)

  abbrev band_opened : Band → Band
  band_opened Whole = Whole
  band_opened (From start) = From (start_opened at more start)
  band_opened (Span start end) = Span (start_opened at more start) (end_opened at more end)

  tracked : (count : ℕ) (band : Band) → track_of band count (Insert at more) ≡ Some (band_opened band)
  tracked count Whole = refl
  tracked count (From start) = refl
  tracked count (Span start end) = refl

  line_then : (band : Band) (line : ℕ) → HasLine band line → HasLine (band_opened band) (start_opened at more line)
  line_then Whole line has = tt
  line_then (From start) line has = starts_in_order start line has
  line_then (Span start end) line has = (starts_in_order start line has.0, before_end line end has.1)

  line_before : (band : Band) (line : ℕ) → HasLine (band_opened band) (start_opened at more line) → HasLine band line
  line_before Whole line has = tt
  line_before (From start) line has = starts_in_turn start line has
  line_before (Span start end) line has = (starts_in_turn start line has.0, was_before_end line end has.1)

  within_then : (band : Band) (count : ℕ) → Within band count → Within (band_opened band) (count + more)
  within_then Whole count within = tt
  within_then (From start) count within = start_inside start count within
  within_then (Span start end) count within = (before_end start end within.0, end_inside end count within.1)

  -- ---- by the names of lines, where an order may be the one that is changed

  abbrev opened_if : Bool → Band → Band
  opened_if true band = band_opened band
  opened_if false band = band

  -- the line stands in the order before, and in the one afterwards
  record IsOpened (b : Bool) (order order' : List ℕ) (line name : ℕ) : Type 0 where
    pub distinct : IsOrder order → IsOrder order'
    pub long : length order' ≡ cond b (length order + more) (length order)
    pub stood : slice_get order line ≡ Some name
    pub stands : slice_get order' (cond b (start_opened at more line) line) ≡ Some name

  name_then : (b : Bool) (order order' : List ℕ) (line name : ℕ) → IsOpened b order order' line name → IsOrder order
      → (band : Band) → Within band (length order) → HasName (band_named order band) name
      → HasName (band_named order' (opened_if b band)) name
  name_then true order order' line name is distinct band within has =
      has_name order' (is.distinct distinct) (start_opened at more line) name is.stands (band_opened band)
      (subst (Within (band_opened band)) (sym is.long) (within_then band (length order) within))
      (line_then band line (has_line order distinct line name is.stood band within has))
  name_then false order order' line name is distinct band within has =
      has_name order' (is.distinct distinct) line name is.stands band (subst (Within band) (sym is.long) within)
      (has_line order distinct line name is.stood band within has)

  name_before : (b : Bool) (order order' : List ℕ) (line name : ℕ) → IsOpened b order order' line name → IsOrder order
      → (band : Band) → Within band (length order) → HasName (band_named order' (opened_if b band)) name
      → HasName (band_named order band) name
  name_before true order order' line name is distinct band within has =
      has_name order distinct line name is.stood band within
      (line_before band line (has_line order' (is.distinct distinct) (start_opened at more line) name is.stands
      (band_opened band)
      (subst (Within (band_opened band)) (sym is.long) (within_then band (length order) within)) has))
  name_before false order order' line name is distinct band within has =
      has_name order distinct line name is.stood band within
      (has_line order' (is.distinct distinct) line name is.stands band (subst (Within band) (sym is.long) within) has)

  -- ---- an area

  abbrev is_on : Axis → Axis → Bool
  is_on Rows Rows = true
  is_on Rows Columns = false
  is_on Columns Rows = false
  is_on Columns Columns = true

  module _ (sheet : ℕ) (axis : Axis) where
    abbrev area_opened : Area → Area
    area_opened area = cond (area.sheet == sheet) (with_band axis area (band_opened (band_on axis area))) area

    sheet_kept : (axis : Axis) (b : Bool) (area : Area) (band : Band) → (cond b (with_band axis area band) area).sheet
        ≡ area.sheet
    sheet_kept axis false area band = refl
    sheet_kept Rows true area band = refl
    sheet_kept Columns true area band = refl

    opened_band : (on axis : Axis) (b : Bool) (area : Area)
        → band_on on (cond b (with_band axis area (band_opened (band_on axis area))) area)
        ≡ opened_if (b && is_on axis on) (band_on on area)
    opened_band on axis false area = refl
    opened_band Rows Rows true area = refl
    opened_band Rows Columns true area = refl
    opened_band Columns Rows true area = refl
    opened_band Columns Columns true area = refl

    area_tracked : (count : ℕ) (area : Area)
        → area_followed sheet axis count (Insert at more) area ≡ Some (area_opened area)
    area_tracked count area =
        either (area.sheet == sheet)
        (ap (option_map (with_band axis area)) (tracked count (band_on axis area)))
      where
        either : (b : Bool) → option_map (with_band axis area) (track_of (band_on axis area) count (Insert at more))
            ≡ Some (with_band axis area (band_opened (band_on axis area)))
            → cond b
            (option_map (with_band axis area) (track_of (band_on axis area) count (Insert at more))) (Some area)
            ≡ Some (cond b (with_band axis area (band_opened (band_on axis area))) area)
        either true is = is
        either false is = refl

    module _ (before after : Orders) (id : ℕ) where
      abbrev IsOpenedOn : Axis → ℕ → ℕ → Type 0
      IsOpenedOn on line name = IsOpened ((id == sheet) && is_on axis on) (before id on) (after id on) line name

      module _ (on : Axis) (line name : ℕ) (is : IsOpenedOn on line name) (area : Area) (same : area.sheet ≡ id)
          (distinct : IsOrder (before area.sheet on))
          (within : Within (band_on on area) (length (before area.sheet on))) where
        own_distinct : IsOrder (before id on)
        own_distinct = subst (λ n. IsOrder (before n on)) same distinct

        own_within : Within (band_on on area) (length (before id on))
        own_within = subst (λ n. Within (band_on on area) (length (before n on))) same within

        band_is : band_on on (area_opened area) ≡ opened_if ((id == sheet) && is_on axis on) (band_on on area)
        band_is = opened_band on axis (area.sheet == sheet) area
            ∙ ap (λ n. opened_if ((n == sheet) && is_on axis on) (band_on on area)) same

        kept : (area_opened area).sheet ≡ area.sheet
        kept = sheet_kept axis (area.sheet == sheet) area (band_opened (band_on axis area))

        on_then : HasName (band_named (before area.sheet on) (band_on on area)) name
            → HasName (band_named (after (area_opened area).sheet on) (band_on on (area_opened area))) name
        on_then has =
            subst (λ n. HasName (band_named (after n on) (band_on on (area_opened area))) name) (sym (kept ∙ same))
            (subst (λ band. HasName (band_named (after id on) band) name) (sym band_is)
            (name_then ((id == sheet) && is_on axis on) (before id on) (after id on) line name is own_distinct
            (band_on on area) own_within
            (subst (λ n. HasName (band_named (before n on) (band_on on area)) name) same has)))

        on_before : HasName (band_named (after (area_opened area).sheet on) (band_on on (area_opened area))) name
            → HasName (band_named (before area.sheet on) (band_on on area)) name
        on_before has =
            subst (λ n. HasName (band_named (before n on) (band_on on area)) name) (sym same)
            (name_before ((id == sheet) && is_on axis on) (before id on) (after id on) line name is own_distinct
            (band_on on area) own_within
            (subst (λ band. HasName (band_named (after id on) band) name) band_is
            (subst (λ n. HasName (band_named (after n on) (band_on on (area_opened area))) name) (kept ∙ same) has)))

      -- the cell is in the area afterwards just where it was
      module _ (row col r c : ℕ) (rows : IsOpenedOn Rows row r) (cols : IsOpenedOn Columns col c) (area : Area)
          (within : IsInOrders before area) where
        covers_then : CoversCell id r c (area_named before area)
            → CoversCell id r c (area_named after (area_opened area))
        covers_then covers = (
          sheet_kept axis (area.sheet == sheet) area (band_opened (band_on axis area)) ∙ covers.0,
          on_then Rows row r rows area covers.0 within.distinct_rows within.rows covers.1,
          on_then Columns col c cols area covers.0 within.distinct_cols within.cols covers.2,
        )

        covers_before : CoversCell id r c (area_named after (area_opened area))
            → CoversCell id r c (area_named before area)
        covers_before covers =
            let same : area.sheet ≡ id =
            sym (sheet_kept axis (area.sheet == sheet) area (band_opened (band_on axis area))) ∙ covers.0 in (
              same,
              on_before Rows row r rows area same within.distinct_rows within.rows covers.1,
              on_before Columns col c cols area same within.distinct_cols within.cols covers.2,
            )

-- ---- in a spreadsheet

module _ (tracks : TracksAll) (places : PlacesAll) (orders_stay : OrdersStay) (placed : List PlaceSheet)
    (sheets : List NameSheet) (all : AllZip (SheetStandsFor sheets) placed sheets) (sheet : ℕ) (axis : Axis)
    (at more count : ℕ) (fresh : List ℕ) (fits : Fits (Insert at more) count)
    (made : Changes (Insert at more) count (orders_of sheets sheet axis) fresh
    (line_change sheets sheet axis (order_change (Insert at more) fresh)).order) where
  abbrev to : LineChange
  to = line_change sheets sheet axis (order_change (Insert at more) fresh)

  abbrev before : Orders
  before = orders_of sheets

  abbrev after : Orders
  after = orders_of (map (sheet_followed to) sheets)

  follow_is : (area : Area) → IsOnSheet placed area
      → name_area_followed to (area_named before area) ≡ Some (area_named after (area_opened at more sheet axis area))
  follow_is area on =
      (areas tracks places orders_stay placed sheets all sheet axis count (Insert at more) fresh fits
      made).follow area on
      ∙ ap (option_map (area_named after)) (area_tracked at more sheet axis count area)

  module _ (id : ℕ) (found : NameSheet) (is : sheet_with id sheets ≡ Some found) where
    -- the lines of another sheet, and those on the other axis, stay
    stays : (on : Axis) (line name : ℕ) → after id on ≡ before id on → slice_get (before id on) line ≡ Some name
        → IsOpened at more false (before id on) (after id on) line name
    stays on line name same stood = record {
      distinct = λ distinct. subst IsOrder (sym same) distinct;
      long = ap length same;
      stood = stood;
      stands = subst (λ order. slice_get order line ≡ Some name) (sym same) stood;
    }

    changes : (id == sheet) ≡ true → (line name : ℕ) → slice_get (before id axis) line ≡ Some name
        → IsOpened at more true (before id axis) (after id axis) line name
    changes own line name stood =
        let one : id ≡ sheet = eqb-true id sheet own in
        let here : after id axis ≡ to.order = order_here to sheets id found is own in
        let new : IsOrder to.order =
        new_distinct tracks places orders_stay placed sheets all sheet axis count (Insert at more) fresh fits made in
        record {
          distinct = λ distinct. subst IsOrder (sym here) new;
          long = ap length here ∙ count_after_change (Insert at more) count (before sheet axis) fresh to.order made
              ∙ ap (λ n. n + more) (sym made.long ∙ ap (λ n. length (before n axis)) (sym one));
          stood = stood;
          stands = subst (λ order. slice_get order (start_opened at more line) ≡ Some name) (sym here)
              ((lines_go tracks places orders_stay placed sheets all sheet axis count (Insert at more) fresh fits
              made).places line name (subst (λ n. slice_get (before n axis) line ≡ Some name) one stood));
        }

    on_axis : (own : Bool) → (id == sheet) ≡ own → (line name : ℕ) → slice_get (before id axis) line ≡ Some name
        → IsOpened at more own (before id axis) (after id axis) line name
    on_axis true own line name stood = changes own line name stood
    on_axis false own line name stood = stays axis line name (orders_elsewhere to sheets id own axis) stood

    across : (line name : ℕ) → slice_get (before id (other_axis axis)) line ≡ Some name
        → IsOpened at more false (before id (other_axis axis)) (after id (other_axis axis)) line name
    across line name stood = stays (other_axis axis) line name (orders_across to sheets id) stood

    own_axis : (axis : Axis) (b : Bool) → (b && is_on at more axis axis) ≡ b
    own_axis Rows true = refl
    own_axis Rows false = refl
    own_axis Columns true = refl
    own_axis Columns false = refl

    no_axis : (axis : Axis) (b : Bool) → (b && is_on at more axis (other_axis axis)) ≡ false
    no_axis Rows true = refl
    no_axis Rows false = refl
    no_axis Columns true = refl
    no_axis Columns false = refl

    abbrev IsOpenedThere : Axis → Type 0
    IsOpenedThere on = (line name : ℕ) → slice_get (before id on) line ≡ Some name
        → IsOpenedOn at more sheet axis before after id on line name

    opened : (on : Axis) → IsOpenedThere on
    opened on =
        on_both IsOpenedThere axis on
        (λ line name stood.
        subst (λ b. IsOpened at more b (before id axis) (after id axis) line name) (sym (own_axis axis (id == sheet)))
        (on_axis (id == sheet) refl line name stood))
        (λ line name stood.
        subst (λ b. IsOpened at more b (before id (other_axis axis)) (after id (other_axis axis)) line name)
        (sym (no_axis axis (id == sheet))) (across line name stood))

    -- what a protection is afterwards
    abbrev then_named : Protection → NameProtection
    then_named one = record (protection_named before one) {
      area = area_named after (area_opened at more sheet axis one.area);
      unprotected = filter_map (name_area_followed to) (map (area_named before) one.unprotected);
    }

    follows : (one : Protection) → IsProtectionWithin placed one
        → name_protection_followed to (protection_named before one) ≡ Some (then_named one)
    follows one within =
        ap (option_map (λ area. record (protection_named before one) {
          area = area;
          unprotected = filter_map (name_area_followed to) (map (area_named before) one.unprotected);
        })) (follow_is one.area within.0)

    module _ (row col r c : ℕ) (at_row : slice_get (before id Rows) row ≡ Some r)
        (at_col : slice_get (before id Columns) col ≡ Some c) where
      then_covers : (area : Area) → IsOnSheet placed area → CoversCell id r c (area_named before area)
          → CoversCell id r c (area_named after (area_opened at more sheet axis area))
      then_covers area on =
          covers_then at more sheet axis before after id row col r c (opened Rows row r at_row)
          (opened Columns col c at_col)
          area (in_orders sheets placed area all on)

      covered_before : (area : Area) → IsOnSheet placed area
          → CoversCell id r c (area_named after (area_opened at more sheet axis area))
          → CoversCell id r c (area_named before area)
      covered_before area on =
          covers_before at more sheet axis before after id row col r c (opened Rows row r at_row)
          (opened Columns col c at_col) area (in_orders sheets placed area all on)

      keeps_then : (user owner : List ℕ) (one : Protection) → IsProtectionWithin placed one
          → KeepsOff user owner id r c (protection_named before one) → KeepsOff user owner id r c (then_named one)
      keeps_then user owner one within keeps = record {
        guards = keeps.guards;
        covered = then_covers one.area within.0 keeps.covered;
        not_opened = All-filter_map (name_area_followed to) (λ range. ¬ (CoversCell id r c range))
            (map (area_named before) one.unprotected)
            (All-map (λ range. IfSome (name_area_followed to range) (λ found. ¬ (CoversCell id r c found)))
            (area_named before) one.unprotected
            (λ k d there.
            let area = get_or one.unprotected k d in
            let on : IsOnSheet placed area = within.1 k d there in
            subst (λ found. IfSome found (λ range. ¬ (CoversCell id r c range))) (sym (follow_is area on))
            (λ covers. keeps.not_opened k (area_named before d)
            (subst (λ n. k < n) (sym (length-map one.unprotected (area_named before))) there)
            (subst (CoversCell id r c)
            (sym (get_or-map (area_named before) one.unprotected k d (area_named before d) there))
            (covered_before area on covers)))));
        not_editor = keeps.not_editor;
        not_owner = keeps.not_owner;
      }

      protected_then : (user owner : List ℕ) (protections : List Protection)
          → All (IsProtectionWithin placed) protections
          → Any (KeepsOff user owner id r c) (map (protection_named before) protections)
          → Any (KeepsOff user owner id r c)
          (filter_map (name_protection_followed to) (map (protection_named before) protections))
      protected_then user owner protections within (k, named, there, is, keeps) =
          let (one, has, same) = Contains-map_from (protection_named before) protections named (k, there, is) in
          let own : IsProtectionWithin placed one =
          All-contains (IsProtectionWithin placed) protections one within has in
          let (place, inside, found) =
          Contains-filter_map (name_protection_followed to) (map (protection_named before) protections) named
          (then_named one) (k, there, is) (ap (name_protection_followed to) (sym same) ∙ follows one own) in (
            place,
            then_named one,
            inside,
            found,
            keeps_then user owner one own (subst (KeepsOff user owner id r c) (sym same) keeps),
          )

-- the law
pub inserts_keep_protected : TracksAll → PlacesAll → OrdersStay → (book : PlaceBook) (named : Named) (user : List ℕ)
    (sheet : ℕ) (axis : Axis) (at inserted : ℕ) (id row col : ℕ) → NamedStandsFor book named
    → IsSomeAnd (place_sheet_with sheet book.sheets)
    (λ found. Fits (Insert at inserted) (lines_on axis found.table.rows found.table.cols))
    → HasCell id row col named.book → IsProtected user named.book id row col
    → IsProtected user (changed_by named (BookChange.LinesChanged sheet axis (Insert at inserted))).book id row col
inserts_keep_protected tracks places orders_stay book named user sheet axis at inserted id row col is fits
    cell protected =
    on_found (sheet_with id named.book.sheets) refl cell
  where
    on_found : (cell_sheet : Option NameSheet) → sheet_with id named.book.sheets ≡ cell_sheet
        → IsSomeAnd cell_sheet (λ one. Contains one.rows row × Contains one.cols col)
        → IsProtected user (changed_by named (BookChange.LinesChanged sheet axis (Insert at inserted))).book id row col
    on_found None found there = absurd there
    on_found (Some own) found ((r, below_rows, is_row), (c, below_cols, is_col)) =
        let sheets = named.book.sheets in
        let here = found_by_name sheets
        (λ one. Fits (Insert at inserted) (lines_on axis one.table.rows one.table.cols)) sheet book.sheets sheets
        is.stands.sheets fits in
        let lines : orders_of sheets sheet axis ≡ lines_of here.names axis =
        lines_there sheets sheet axis here.names here.is in
        let made = fresh_changes named.next (orders_of sheets sheet axis)
        (orders_below named.next sheet axis sheets is.called)
        (subst IsOrder (sym lines) (distinct_on sheets here.sheet here.names axis here.stands)) (Insert at inserted)
        (lines_on axis here.sheet.table.rows here.sheet.table.cols) here.holds
        (ap length lines ∙ sym (as_long sheets here.sheet here.names axis here.stands)) in
        subst
        (λ all. Any (KeepsOff user named.book.owner id row col)
        (filter_map (name_protection_followed (line_change sheets sheet axis
        (order_change (Insert at inserted) (range_with_len named.next inserted)))) all)) (sym is.stands.protections)
        (protected_then tracks places orders_stay book.sheets sheets is.stands.sheets sheet axis at inserted
        (lines_on axis here.sheet.table.rows here.sheet.table.cols) (range_with_len named.next inserted)
        here.holds made id
        own found r c row col
        (ap (λ order. slice_get order r) (lines_there sheets id Rows own found)
        ∙ slice_get-get_or own.rows r row below_rows
        ∙ ap Some is_row)
        (ap (λ order. slice_get order c) (lines_there sheets id Columns own found)
        ∙ slice_get-get_or own.cols c col below_cols ∙ ap Some is_col)
        user named.book.owner book.protections is.stands.sound.protections
        (subst (Any (KeepsOff user named.book.owner id row col)) is.stands.protections protected))
