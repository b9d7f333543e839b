-- A sheet that gets another title or mark, by places and by names.
use Rattle.std.proofs.Common.{◌≡◌, ◌≢◌, ℕ, ◌+◌, ◌*◌, ◌<◌, ◌≤◌, refl, sym, ap, subst, ◌∙◌, List, [], ◌∷◌, length, get_or, Bool, true, false, cond, arith, ◌&&◌}
use Rattle.std.specs.Prelude.{IfSome, IsSomeAnd, Option, Some, map, ◌==◌}
use Rattle.std.specs.List.{All, AllPairs, AllZip, list_all}
use Rattle.std.specs.Option.{option_map}
use Rattle.std.specs.Str.{str_eq_ignore_ascii_case}
use Rattle.std.proofs.lemmas.Bool.{eqb-true, false≢true}
use Rattle.std.proofs.lemmas.List.{get_or-map, length-map}
use Rattle.std.proofs.lemmas.List.Elements.{All-map}
use Rattle.std.proofs.lemmas.List.Sums.{sum_by-cons}
use Rattle.grid_range.specs.Area.{AreaWithin}
use Rattle.grid_range.specs.declared.area.Area.{Area}
use Rattle.grid_range.specs.declared.axis.Axis.{Axis}
use Rattle.grid_range.specs.declared.axis.Axis.TheVariants.{Rows, Columns}
use Rattle.cell_store.specs.Table.{HasItemsInside, Table, item_at}
use Rattle.named_ranges.specs.declared.range.NamedRange.{NamedRange}
use Rattle.ref_rewrite.specs.declared.cell_content.Content.{Content}
use Rattle.world_model.specs.Area.{area_named}
use Rattle.world_model.specs.Book.{PlaceBook}
use Rattle.world_model.specs.BookChange.{AreChanges, BookChange, Named, NamedStandsFor, marked_hidden, on_sheet, titled}
use Rattle.world_model.specs.Content.{content_named}
use Rattle.world_model.specs.Counts.{grid_places}
use Rattle.world_model.specs.Filters.{filter_named}
use Rattle.world_model.specs.Metadata.{item_named}
use Rattle.world_model.specs.Protections.{protection_named}
use Rattle.world_model.specs.Ranges.{range_named}
use Rattle.world_model.specs.Sheet.{NameSheet, PlaceSheet, lines_of}
use Rattle.world_model.specs.SheetChange.{on_place_sheet, place_marked_hidden, place_titled}
use Rattle.world_model.specs.Sound.{AreMergesOf, IsContentWithin, IsFilterOf, IsLineCount, IsOnSheet, IsSheetSound, IsSound, most_places, most_sheets, place_sheet_with}
use Rattle.world_model.specs.StandsFor.{SheetStandsFor}
use Rattle.world_model.proofs.Kept.{filter_fits, merges_fit}
use Rattle.world_model.proofs.Lines.{KeepsLines, orders_stay_same}
use Rattle.world_model.proofs.MetadataNamed.{AreWithin as AreItemsWithin, items_stay}
use Rattle.world_model.proofs.ProtectionsNamed.{AreWithin, protections_stay}
use Rattle.world_model.proofs.SheetAdded.{titles_apart}
use Rattle.world_model.proofs.StillStands.{still_stands}
use Rattle.world_model.proofs.WrittenSound.{held_within}

-- ---- the spreadsheet is sound

-- a sheet that is changed keeps its id and what it holds
pub record KeepsTable (change : PlaceSheet → PlaceSheet) : Type 0 where
  pub id : (sheet : PlaceSheet) → (change sheet).id ≡ sheet.id
  pub table : (sheet : PlaceSheet) → (change sheet).table ≡ sheet.table

pub chosen_keeps : (id : ℕ) (change : PlaceSheet → PlaceSheet) → KeepsTable change
    → KeepsTable (λ sheet. cond (sheet.id == id) (change sheet) sheet)
chosen_keeps id change keeps = record {
  id = λ sheet. own_id (sheet.id == id) sheet;
  table = λ sheet. own_table (sheet.id == id) sheet;
}
  where
    own_id : (b : Bool) (sheet : PlaceSheet) → (cond b (change sheet) sheet).id ≡ sheet.id
    own_id true sheet = keeps.id sheet
    own_id false sheet = refl

    own_table : (b : Bool) (sheet : PlaceSheet) → (cond b (change sheet) sheet).table ≡ sheet.table
    own_table true sheet = keeps.table sheet
    own_table false sheet = refl

module _ (change : PlaceSheet → PlaceSheet) (keeps : KeepsTable change) where
  first_found : (P : Table Content → Type 0) (b b' : Bool) (sheet : PlaceSheet) (rest rest' : Option PlaceSheet)
      → b ≡ b' → (IsSomeAnd rest (λ one. P one.table) → IsSomeAnd rest' (λ one. P one.table))
      → IsSomeAnd (cond b (Some sheet) rest) (λ one. P one.table)
      → IsSomeAnd (cond b' (Some (change sheet)) rest') (λ one. P one.table)
  first_found P true true sheet rest rest' same behind found = subst P (sym (keeps.table sheet)) found
  first_found P true false sheet rest rest' same behind found = absurd (false≢true (sym same))
  first_found P false true sheet rest rest' same behind found = absurd (false≢true same)
  first_found P false false sheet rest rest' same behind found = behind found

  found_changed : (P : Table Content → Type 0) (id : ℕ) (sheets : List PlaceSheet)
      → IsSomeAnd (place_sheet_with id sheets) (λ one. P one.table)
      → IsSomeAnd (place_sheet_with id (map change sheets)) (λ one. P one.table)
  found_changed P id [] found = found
  found_changed P id (s ∷ ss) found =
      first_found P (s.id == id) ((change s).id == id) s (place_sheet_with id ss) (place_sheet_with id (map change ss))
      (ap (λ n. n == id) (sym (keeps.id s))) (found_changed P id ss) found

  module _ (sheets : List PlaceSheet) where
    area_stays : (area : Area) → IsOnSheet sheets area → IsOnSheet (map change sheets) area
    area_stays area on = found_changed (λ table. AreaWithin area table.rows table.cols) area.sheet sheets on

    table_sound : (one other : PlaceSheet) → other.id ≡ one.id → other.table ≡ one.table → 0 < length other.title
        → AreMergesOf one other.merges → IfSome other.filter (IsFilterOf one) → IsSheetSound sheets one
        → IsSheetSound (map change sheets) other
    table_sound one other id same titled merges filter sound = record {
      titled = titled;
      rows = subst (λ (table : Table Content). IsLineCount Rows table.rows) (sym same) sound.rows;
      cols = subst (λ (table : Table Content). IsLineCount Columns table.cols) (sym same) sound.cols;
      inside = subst (λ (table : Table Content). HasItemsInside table) (sym same) sound.inside;
      within =
          subst (λ (table : Table Content). (row col : ℕ)
          → IfSome (item_at table row col) (IsContentWithin (map change sheets)))
          (sym same)
          (λ row col. held_within sheets (map change sheets) area_stays (item_at one.table row col)
          (sound.within row col));
      merges = merges_fit one other other.merges id (ap (λ (table : Table Content). table.rows) same)
          (ap (λ (table : Table Content). table.cols) same) merges;
      filter = filter_fits one other other.filter id (ap (λ (table : Table Content). table.rows) same)
          (ap (λ (table : Table Content). table.cols) same) filter;
    }

  places_kept : (sheets : List PlaceSheet) → grid_places (map change sheets) ≡ grid_places sheets
  places_kept [] = refl
  places_kept (s ∷ ss) =
      sum_by-cons (λ (sheet : PlaceSheet). sheet.table.rows * sheet.table.cols) (change s) (map change ss)
      ∙ ap (λ (table : Table Content). table.rows * table.cols + grid_places (map change ss)) (keeps.table s)
      ∙ ap (λ n. s.table.rows * s.table.cols + n) (places_kept ss)
      ∙ sym (sum_by-cons (λ (sheet : PlaceSheet). sheet.table.rows * sheet.table.cols) s ss)

  -- the sheets are sound if no two titles are one, each has one and can have its merges and its filter, and one is
  -- shown
  pub changed_sound : (book after : PlaceBook) → after.sheets ≡ map change book.sheets → after.ranges ≡ book.ranges
      → after.protections ≡ book.protections → after.metadata ≡ book.metadata → IsSound book
      → All (λ sheet. 0 < length (change sheet).title) book.sheets
      → AllPairs (λ one other. str_eq_ignore_ascii_case (change one).title (change other).title ≡ false) book.sheets
      → list_all (λ sheet. sheet.hidden) (map change book.sheets) ≡ false
      → All (λ sheet. AreMergesOf sheet (change sheet).merges) book.sheets
      → All (λ sheet. IfSome (change sheet).filter (IsFilterOf sheet)) book.sheets → IsSound after
  changed_sound book after made same same' same'' sound titled apart visible merges filters = record {
    distinct = subst (λ sheets. AllPairs (λ (one other : PlaceSheet). one.id ≢ other.id) sheets) (sym made)
        (λ i j d below there.
        let inside : j < length book.sheets = subst (λ n. j < n) (length-map book.sheets change) there in
        let one = get_or-map change book.sheets i d d (omega (arith, below, inside)) in
        let other = get_or-map change book.sheets j d d inside in
        λ same. sound.distinct i j d below inside
        (sym (keeps.id (get_or book.sheets i d)) ∙ sym (ap (λ (s : PlaceSheet). s.id) one) ∙ same
        ∙ ap (λ (s : PlaceSheet). s.id) other ∙ keeps.id (get_or book.sheets j d)));
    titles = subst
        (λ sheets. AllPairs (λ (one other : PlaceSheet). str_eq_ignore_ascii_case one.title other.title ≡ false) sheets)
        (sym made)
        (λ i j d below there.
        let inside : j < length book.sheets = subst (λ n. j < n) (length-map book.sheets change) there in
        let one = get_or-map change book.sheets i d d (omega (arith, below, inside)) in
        let other = get_or-map change book.sheets j d d inside in
        ap (λ (s : PlaceSheet). str_eq_ignore_ascii_case s.title (get_or (map change book.sheets) j d).title) one
        ∙ ap (λ (s : PlaceSheet). str_eq_ignore_ascii_case (change (get_or book.sheets i d)).title s.title) other
        ∙ apart i j d below inside);
    visible = subst (λ sheets. list_all (λ (sheet : PlaceSheet). sheet.hidden) sheets ≡ false) (sym made) visible;
    sheets = subst (λ sheets. All (IsSheetSound sheets) sheets) (sym made)
        (All-map (IsSheetSound (map change book.sheets)) change book.sheets
        (λ k d there. table_sound book.sheets (get_or book.sheets k d) (change (get_or book.sheets k d))
        (keeps.id (get_or book.sheets k d)) (keeps.table (get_or book.sheets k d)) (titled k d there) (merges k d there)
        (filters k d there) (sound.sheets k d there)));
    few_sheets = subst (λ sheets. length sheets ≤ most_sheets) (sym made)
        (subst (λ n. n ≤ most_sheets) (sym (length-map book.sheets change)) sound.few_sheets);
    few_places = subst (λ sheets. grid_places sheets ≤ most_places) (sym made)
        (subst (λ n. n ≤ most_places) (sym (places_kept book.sheets)) sound.few_places);
    ranges = subst (λ sheets. All (λ (range : NamedRange). IsOnSheet sheets range.area) after.ranges) (sym made)
        (subst (λ ranges. All (λ (range : NamedRange). IsOnSheet (map change book.sheets) range.area) ranges) (sym same)
        (λ k d there. area_stays book.sheets (get_or book.ranges k d).area (sound.ranges k d there)));
    protections = subst (λ sheets. AreWithin sheets after.protections) (sym made)
        (subst (AreWithin (map change book.sheets)) (sym same')
        (protections_stay book.sheets (map change book.sheets) (area_stays book.sheets) book.protections
        sound.protections));
    metadata = subst (λ sheets. AreItemsWithin sheets after.metadata) (sym made)
        (subst (AreItemsWithin (map change book.sheets)) (sym same'')
        (items_stay book.sheets (map change book.sheets) (area_stays book.sheets) book.metadata sound.metadata));
  }

-- a sheet that may be changed keeps a part that the change keeps
module _ {A : Type 0} (part : PlaceSheet → A) (change : PlaceSheet → PlaceSheet)
    (keeps : (sheet : PlaceSheet) → part (change sheet) ≡ part sheet) where
  pub chosen_part : (b : Bool) (sheet : PlaceSheet) → part (cond b (change sheet) sheet) ≡ part sheet
  chosen_part true sheet = keeps sheet
  chosen_part false sheet = refl

-- its merges
pub merges_stay : (id : ℕ) (change : PlaceSheet → PlaceSheet)
    → ((sheet : PlaceSheet) → (change sheet).merges ≡ sheet.merges)
    → (sheets placed : List PlaceSheet) → All (IsSheetSound placed) sheets
    → All (λ sheet. AreMergesOf sheet (cond (sheet.id == id) (change sheet) sheet).merges) sheets
merges_stay id change keeps sheets placed sound k d there =
    let sheet = get_or sheets k d in
    subst (AreMergesOf sheet) (sym (chosen_part (λ one. one.merges) change keeps (sheet.id == id) sheet))
    (sound k d there).merges

-- and its filter
pub filters_stay : (id : ℕ) (change : PlaceSheet → PlaceSheet)
    → ((sheet : PlaceSheet) → (change sheet).filter ≡ sheet.filter)
    → (sheets placed : List PlaceSheet) → All (IsSheetSound placed) sheets
    → All (λ sheet. IfSome (cond (sheet.id == id) (change sheet) sheet).filter (IsFilterOf sheet)) sheets
filters_stay id change keeps sheets placed sound k d there =
    let sheet = get_or sheets k d in
    subst (λ filter. IfSome filter (IsFilterOf sheet))
    (sym (chosen_part (λ one. one.filter) change keeps (sheet.id == id) sheet)) (sound k d there).filter

-- ---- other merges, or another filter

-- a sheet that is changed keeps its title and its mark, too
pub record KeepsMarks (change : PlaceSheet → PlaceSheet) : Type 0 where
  pub title : (sheet : PlaceSheet) → (change sheet).title ≡ sheet.title
  pub hidden : (sheet : PlaceSheet) → (change sheet).hidden ≡ sheet.hidden

module _ (id : ℕ) (change : PlaceSheet → PlaceSheet) (table : KeepsTable change) (marks : KeepsMarks change) where
  abbrev chosen : PlaceSheet → PlaceSheet
  chosen sheet = cond (sheet.id == id) (change sheet) sheet

  same_title : (sheet : PlaceSheet) → (chosen sheet).title ≡ sheet.title
  same_title sheet = chosen_part (λ one. one.title) change marks.title (sheet.id == id) sheet

  same_mark : (sheet : PlaceSheet) → (chosen sheet).hidden ≡ sheet.hidden
  same_mark sheet = chosen_part (λ one. one.hidden) change marks.hidden (sheet.id == id) sheet

  still_hidden : (sheets : List PlaceSheet)
      → list_all (λ sheet. sheet.hidden) (map chosen sheets) ≡ list_all (λ sheet. sheet.hidden) sheets
  still_hidden [] = refl
  still_hidden (s ∷ ss) =
      ap (λ b. b && list_all (λ (sheet : PlaceSheet). sheet.hidden) (map chosen ss)) (same_mark s)
      ∙ ap (λ b. s.hidden && b) (still_hidden ss)

  -- the spreadsheet is sound where the sheets can have their merges and filters
  pub marks_kept_sound : (book : PlaceBook) → IsSound book
      → All (λ sheet. AreMergesOf sheet (chosen sheet).merges) book.sheets
      → All (λ sheet. IfSome (chosen sheet).filter (IsFilterOf sheet)) book.sheets
      → IsSound (on_place_sheet id change book)
  marks_kept_sound book sound merges filters =
      changed_sound chosen (chosen_keeps id change table) book (on_place_sheet id change book) refl refl refl refl sound
      (λ k d there. subst (λ title. 0 < length title) (sym (same_title (get_or book.sheets k d)))
      (sound.sheets k d there).titled)
      (λ i j d below there.
      let one = get_or book.sheets i d in
      let other = get_or book.sheets j d in
      ap (λ title. str_eq_ignore_ascii_case title (chosen other).title) (same_title one)
      ∙ ap (str_eq_ignore_ascii_case one.title) (same_title other)
      ∙ sound.titles i j d below there)
      (still_hidden book.sheets ∙ sound.visible) merges filters

-- what holds of the sheet that is found by its id holds of the one that is changed
pub chosen_has : {A : Type 0} (part : PlaceSheet → A) (P : PlaceSheet → A → Type 0) (change : PlaceSheet → PlaceSheet)
    (b : Bool) (sheet : PlaceSheet) → (b ≡ true → P sheet (part (change sheet))) → P sheet (part sheet)
    → P sheet (part (cond b (change sheet) sheet))
chosen_has part P change true sheet new old = new refl
chosen_has part P change false sheet new old = old

-- ---- another title

titled_keeps : (title : List ℕ) → KeepsTable (place_titled title)
titled_keeps title = record { id = λ sheet. refl; table = λ sheet. refl }

module _ (id : ℕ) (title : List ℕ) where
  abbrev with_title : PlaceSheet → PlaceSheet
  with_title sheet = cond (sheet.id == id) (place_titled title sheet) sheet

  has_title : (b : Bool) (sheet : PlaceSheet) → 0 < length title → 0 < length sheet.title
      → 0 < length (cond b (place_titled title sheet) sheet).title
  has_title true sheet some own = some
  has_title false sheet some own = own

  apart_titled : (b b' : Bool) (one other : PlaceSheet) → (one.id == id) ≡ b → (other.id == id) ≡ b'
      → one.id ≢ other.id → str_eq_ignore_ascii_case one.title other.title ≡ false
      → (one.id ≢ id → str_eq_ignore_ascii_case one.title title ≡ false)
      → (other.id ≢ id → str_eq_ignore_ascii_case other.title title ≡ false)
      → str_eq_ignore_ascii_case (cond b (place_titled title one) one).title
      (cond b' (place_titled title other) other).title ≡ false
  apart_titled true true one other is is' ids titles free free' =
      absurd (ids (eqb-true one.id id is ∙ sym (eqb-true other.id id is')))
  apart_titled true false one other is is' ids titles free free' =
      titles_apart other.title title (free' (λ same. ids (eqb-true one.id id is ∙ sym same)))
  apart_titled false true one other is is' ids titles free free' =
      free (λ same. ids (same ∙ sym (eqb-true other.id id is')))
  apart_titled false false one other is is' ids titles free free' = titles

  hidden_kept : (b : Bool) (sheet : PlaceSheet) → (cond b (place_titled title sheet) sheet).hidden ≡ sheet.hidden
  hidden_kept true sheet = refl
  hidden_kept false sheet = refl

  all_hidden : (sheets : List PlaceSheet)
      → list_all (λ sheet. sheet.hidden) (map with_title sheets) ≡ list_all (λ sheet. sheet.hidden) sheets
  all_hidden [] = refl
  all_hidden (s ∷ ss) =
      ap (λ b. b && list_all (λ (sheet : PlaceSheet). sheet.hidden) (map with_title ss))
      (hidden_kept (s.id == id) s)
      ∙ ap (λ b. s.hidden && b) (all_hidden ss)

  pub titled_sound : (book : PlaceBook) → IsSound book → 0 < length title
      → All (λ other. other.id ≢ id → str_eq_ignore_ascii_case other.title title ≡ false) book.sheets
      → IsSound (on_place_sheet id (place_titled title) book)
  titled_sound book sound some free =
      changed_sound with_title (chosen_keeps id (place_titled title) (titled_keeps title)) book
      (on_place_sheet id (place_titled title) book) refl refl refl refl sound
      (λ k d there. has_title ((get_or book.sheets k d).id == id) (get_or book.sheets k d) some
      (sound.sheets k d there).titled)
      (λ i j d below there.
      let inside : i < length book.sheets = omega (arith, below, there) in
      apart_titled ((get_or book.sheets i d).id == id) ((get_or book.sheets j d).id == id) (get_or book.sheets i d)
      (get_or book.sheets j d) refl refl (sound.distinct i j d below there) (sound.titles i j d below there)
      (free i d inside) (free j d there))
      (all_hidden book.sheets ∙ sound.visible)
      (merges_stay id (place_titled title) (λ sheet. refl) book.sheets book.sheets sound.sheets)
      (filters_stay id (place_titled title) (λ sheet. refl) book.sheets book.sheets sound.sheets)

-- ---- another mark

hidden_keeps : (hidden : Bool) → KeepsTable (place_marked_hidden hidden)
hidden_keeps hidden = record { id = λ sheet. refl; table = λ sheet. refl }

module _ (id : ℕ) (hidden : Bool) where
  abbrev with_mark : PlaceSheet → PlaceSheet
  with_mark sheet = cond (sheet.id == id) (place_marked_hidden hidden sheet) sheet

  title_kept : (b : Bool) (sheet : PlaceSheet) → (cond b (place_marked_hidden hidden sheet) sheet).title ≡ sheet.title
  title_kept true sheet = refl
  title_kept false sheet = refl

  pub hidden_sound : (book : PlaceBook) → IsSound book
      → list_all (λ other. other.hidden) (on_place_sheet id (place_marked_hidden hidden) book).sheets ≡ false
      → IsSound (on_place_sheet id (place_marked_hidden hidden) book)
  hidden_sound book sound visible =
      changed_sound with_mark (chosen_keeps id (place_marked_hidden hidden) (hidden_keeps hidden)) book
      (on_place_sheet id (place_marked_hidden hidden) book) refl refl refl refl sound
      (λ k d there. subst (λ title. 0 < length title)
      (sym (title_kept ((get_or book.sheets k d).id == id) (get_or book.sheets k d)))
      (sound.sheets k d there).titled)
      (λ i j d below there.
      let one = get_or book.sheets i d in
      let other = get_or book.sheets j d in
      ap (λ title. str_eq_ignore_ascii_case title (with_mark other).title) (title_kept (one.id == id) one)
      ∙ ap (str_eq_ignore_ascii_case one.title) (title_kept (other.id == id) other)
      ∙ sound.titles i j d below there)
      visible (merges_stay id (place_marked_hidden hidden) (λ sheet. refl) book.sheets book.sheets sound.sheets)
      (filters_stay id (place_marked_hidden hidden) (λ sheet. refl) book.sheets book.sheets sound.sheets)

-- ---- and stands for the one by names

module _ (id : ℕ) (by_names : NameSheet → NameSheet) (by_places : PlaceSheet → PlaceSheet)
    (keeps : KeepsLines by_names) where
  -- the changed sheet stands for the changed one
  abbrev Follows : List NameSheet → Type 0
  Follows sheets = (sheet : PlaceSheet) (names : NameSheet) → SheetStandsFor sheets sheet names
      → SheetStandsFor sheets (by_places sheet) (by_names names)

  abbrev on_names : NameSheet → NameSheet
  on_names sheet = cond (sheet.id == id) (by_names sheet) sheet

  abbrev on_places : PlaceSheet → PlaceSheet
  on_places sheet = cond (sheet.id == id) (by_places sheet) sheet

  on_keeps : KeepsLines on_names
  on_keeps = record { id = λ sheet. own_id (sheet.id == id) sheet; lines = λ sheet. own_lines (sheet.id == id) sheet }
    where
      own_id : (b : Bool) (sheet : NameSheet) → (cond b (by_names sheet) sheet).id ≡ sheet.id
      own_id true sheet = keeps.id sheet
      own_id false sheet = refl

      own_lines : (b : Bool) (sheet : NameSheet) (axis : Axis)
          → lines_of (cond b (by_names sheet) sheet) axis ≡ lines_of sheet axis
      own_lines true sheet axis = keeps.lines sheet axis
      own_lines false sheet axis = refl

  one_stands : (b b' : Bool) (sheets : List NameSheet) (sheet : PlaceSheet) (names : NameSheet) → b ≡ b'
      → Follows sheets → SheetStandsFor sheets sheet names
      → SheetStandsFor sheets (cond b (by_places sheet) sheet) (cond b' (by_names names) names)
  one_stands true true sheets sheet names same follows stands = follows sheet names stands
  one_stands true false sheets sheet names same follows stands = absurd (false≢true (sym same))
  one_stands false true sheets sheet names same follows stands = absurd (false≢true same)
  one_stands false false sheets sheet names same follows stands = stands

  each_stands : (sheets : List NameSheet) → Follows sheets → (ones : List PlaceSheet) (others : List NameSheet)
      → AllZip (SheetStandsFor sheets) ones others
      → AllZip (SheetStandsFor (map on_names sheets)) (map on_places ones) (map on_names others)
  each_stands sheets follows [] [] all = tt
  each_stands sheets follows [] (n ∷ ns) all = absurd all
  each_stands sheets follows (s ∷ ss) [] all = absurd all
  each_stands sheets follows (s ∷ ss) (n ∷ ns) all = (
    still_stands sheets (map on_names sheets) (on_places s) (on_names n)
        (λ row col. ap (λ orders. option_map (content_named orders) (item_at (on_places s).table row col))
        (sym (orders_stay_same on_names on_keeps sheets)))
        (ap (λ orders. map (area_named orders) (on_places s).merges) (sym (orders_stay_same on_names on_keeps sheets)))
        (ap (λ orders. option_map (filter_named orders) (on_places s).filter)
        (sym (orders_stay_same on_names on_keeps sheets)))
        (one_stands (s.id == id) (n.id == id) sheets s n (ap (λ m. m == id) all.0.id) follows all.0),
    each_stands sheets follows ss ns all.1,
  )

  names_below : (next : ℕ) (sheet : NameSheet) → All (λ name. name < next) sheet.rows
      × All (λ name. name < next) sheet.cols
      → All (λ name. name < next) (on_names sheet).rows × All (λ name. name < next) (on_names sheet).cols
  names_below next sheet below = (
    subst (All (λ name. name < next)) (sym (on_keeps.lines sheet Rows)) below.0,
    subst (All (λ name. name < next)) (sym (on_keeps.lines sheet Columns)) below.1,
  )

  pub marked_stands : (book : PlaceBook) → IsSound (on_place_sheet id by_places book) → (named : Named)
      → Follows named.book.sheets → NamedStandsFor book named
      → NamedStandsFor (on_place_sheet id by_places book) (record named { book = on_sheet id by_names named.book })
  marked_stands book sound named follows is = record {
    stands = record {
      sound = sound;
      id = is.stands.id;
      title = is.stands.title;
      owner = is.stands.owner;
      sheets = each_stands named.book.sheets follows book.sheets named.book.sheets is.stands.sheets;
      ranges = is.stands.ranges
          ∙ ap (λ orders. map (range_named orders) book.ranges)
          (sym (orders_stay_same on_names on_keeps named.book.sheets));
      protections = is.stands.protections
          ∙ ap (λ orders. map (protection_named orders) book.protections)
          (sym (orders_stay_same on_names on_keeps named.book.sheets));
      metadata = is.stands.metadata
          ∙ ap (λ orders. map (item_named orders) book.metadata)
          (sym (orders_stay_same on_names on_keeps named.book.sheets));
    };
    called = All-map
        (λ (one : NameSheet). All (λ name. name < named.next) one.rows × All (λ name. name < named.next) one.cols)
        on_names named.book.sheets
        (λ k d there. names_below named.next (get_or named.book.sheets k d) (is.called k d there));
  }

titled_lines : (title : List ℕ) → KeepsLines (titled title)
titled_lines title = record { id = λ sheet. refl; lines = own }
  where
    own : (sheet : NameSheet) (axis : Axis) → lines_of (titled title sheet) axis ≡ lines_of sheet axis
    own sheet Rows = refl
    own sheet Columns = refl

hidden_lines : (hidden : Bool) → KeepsLines (marked_hidden hidden)
hidden_lines hidden = record { id = λ sheet. refl; lines = own }
  where
    own : (sheet : NameSheet) (axis : Axis) → lines_of (marked_hidden hidden sheet) axis ≡ lines_of sheet axis
    own sheet Rows = refl
    own sheet Columns = refl

titled_follows : (title : List ℕ) (sheets : List NameSheet) (sheet : PlaceSheet) (names : NameSheet)
    → SheetStandsFor sheets sheet names → SheetStandsFor sheets (place_titled title sheet) (titled title names)
titled_follows title sheets sheet names stands = record {
  id = stands.id;
  title = refl;
  hidden = stands.hidden;
  distinct_rows = stands.distinct_rows;
  distinct_cols = stands.distinct_cols;
  rows = stands.rows;
  cols = stands.cols;
  cells = stands.cells;
  nowhere_else = stands.nowhere_else;
  merges = stands.merges;
  filter = stands.filter;
}

hidden_follows : (hidden : Bool) (sheets : List NameSheet) (sheet : PlaceSheet) (names : NameSheet)
    → SheetStandsFor sheets sheet names
    → SheetStandsFor sheets (place_marked_hidden hidden sheet) (marked_hidden hidden names)
hidden_follows hidden sheets sheet names stands = record {
  id = stands.id;
  title = stands.title;
  hidden = refl;
  distinct_rows = stands.distinct_rows;
  distinct_cols = stands.distinct_cols;
  rows = stands.rows;
  cols = stands.cols;
  cells = stands.cells;
  nowhere_else = stands.nowhere_else;
  merges = stands.merges;
  filter = stands.filter;
}

pub titled_changes : (book : PlaceBook) (id : ℕ) (title : List ℕ)
    → IsSound (on_place_sheet id (place_titled title) book)
    → AreChanges (BookChange.SheetTitled id title ∷ []) book (on_place_sheet id (place_titled title) book)
titled_changes book id title sound = record {
  id = refl;
  names = λ named.
      marked_stands id (titled title) (place_titled title) (titled_lines title) book sound named
      (titled_follows title named.book.sheets);
}

pub hidden_changes : (book : PlaceBook) (id : ℕ) (hidden : Bool)
    → IsSound (on_place_sheet id (place_marked_hidden hidden) book)
    → AreChanges (BookChange.SheetHidden id hidden ∷ []) book (on_place_sheet id (place_marked_hidden hidden) book)
hidden_changes book id hidden sound = record {
  id = refl;
  names = λ named.
      marked_stands id (marked_hidden hidden) (place_marked_hidden hidden) (hidden_lines hidden) book sound named
      (hidden_follows hidden named.book.sheets);
}
