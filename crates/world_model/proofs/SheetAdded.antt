-- A sheet that is added, by places and by names.
use Rattle.std.proofs.Common.{◌≡◌, ◌≢◌, ℕ, zero, suc, ◌+◌, ◌*◌, ◌<◌, ◌≤◌, refl, sym, ap, subst, ◌∙◌, List, [], ◌∷◌, get_or, length, Bool, true, false, cond, arith}
use Rattle.std.specs.Prelude.{IfSome, IsSomeAnd, None, Option, Some, map, ◌==◌}
use Rattle.std.specs.List.{All, AllPairs, AllZip, insert, list_all, range_with_len}
use Rattle.std.specs.List.Sorted.{IsStrictlySortedBy}
use Rattle.std.specs.Option.{IsSome, option_map, option_map_or}
use Rattle.std.specs.Str.{bytes_eq, str_eq_ignore_ascii_case, str_to_ascii_lowercase}
use Rattle.std.proofs.Math.Path.{fun_ext}
use Rattle.std.proofs.lemmas.Bool.{eq-eqb, eqb-true, false_from_ne_true, false≢true}
use Rattle.std.proofs.lemmas.List.FromFn.{get_or-range_with_len, length-range_with_len}
use Rattle.std.proofs.lemmas.List.Sums.{sum_by-insert}
use Rattle.std.proofs.lemmas.Option.{none-some}
use Rattle.std.proofs.lemmas.Slice.Eq.{bytes_eq-Decides}
use Rattle.grid_range.specs.Area.{AreaWithin}
use Rattle.grid_range.specs.Order.{IsOrder}
use Rattle.grid_range.specs.declared.area.Area.{Area}
use Rattle.cell_store.specs.Table.{empty_table, item_at}
use Rattle.merge_ranges.specs.Merges.{AreMerges, by_first_cell}
use Rattle.ref_rewrite.specs.declared.cell_content.Content.{Content}
use Rattle.world_model.specs.Book.{NameBook, PlaceBook, orders_of}
use Rattle.world_model.specs.BookChange.{AreChanges, BookChange, Named, NewSheet, new_sheet, sheet_added}
use Rattle.world_model.specs.Content.{content_named}
use Rattle.world_model.specs.Counts.{grid_places}
use Rattle.world_model.specs.Metadata.{item_named}
use Rattle.world_model.specs.Protections.{protection_named}
use Rattle.world_model.specs.Ranges.{range_named}
use Rattle.world_model.specs.Sheet.{NameSheet, PlaceSheet, lines_of}
use Rattle.world_model.specs.SheetChange.{new_place_sheet, place_sheet_added}
use Rattle.world_model.specs.SheetLaws.{IsRoomFor}
use Rattle.world_model.specs.Sound.{IsContentWithin, IsOnSheet, IsSheetSound, IsSound, most_places, most_sheets, place_sheet_with}
use Rattle.world_model.specs.StandsFor.{BookStandsFor, SheetStandsFor}
use Rattle.world_model.specs.World.{HasNamesBelow}
use Rattle.world_model.proofs.Inserted.{All-inserted, AllPairs-inserted, AllZip-inserted, find-inserted, length-inserted, still_not_all}
use Rattle.world_model.proofs.MetadataNamed.{AreWithin as AreItemsWithin, items_same, items_stay}
use Rattle.world_model.proofs.ProtectionsNamed.{AreWithin, protections_same, protections_stay}
use Rattle.world_model.proofs.RangesNamed.{AreOnSheets, ranges_same}
use Rattle.world_model.proofs.StillStands.{filter_same, held_same, merges_same, still_stands}
use Rattle.world_model.proofs.WrittenSound.{held_within}

-- ---- fresh names

pub fresh_order : (first count : ℕ) → IsOrder (range_with_len first count)
fresh_order first count i j d less there =
    let inside : j < count = subst (λ n. j < n) (length-range_with_len first count) there in
    let one = get_or-range_with_len first count i d (omega (arith, less, inside)) in
    let other = get_or-range_with_len first count j d inside in
    λ same. absurd (omega (arith, sym one ∙ same ∙ other, less))

pub fresh_below : (first count next : ℕ) → first + count ≤ next → All (λ name. name < next) (range_with_len first count)
fresh_below first count next fits k d there =
    let inside : k < count = subst (λ n. k < n) (length-range_with_len first count) there in
    let name = get_or-range_with_len first count k d inside in
    omega (arith, fits, inside, name)

-- ---- texts that aren't one

bytes_apart : (one other : List ℕ) → bytes_eq one other ≡ false → bytes_eq other one ≡ false
bytes_apart one other apart = false_from_ne_true (bytes_eq other one) (λ same.
    false≢true (sym apart ∙ (bytes_eq-Decides one other).1 (sym ((bytes_eq-Decides other one).0 same))))

pub titles_apart : (one other : List ℕ) → str_eq_ignore_ascii_case one other ≡ false
    → str_eq_ignore_ascii_case other one ≡ false
titles_apart one other apart = bytes_apart (str_to_ascii_lowercase one) (str_to_ascii_lowercase other) apart

-- ---- nothing has the id

none_has : (b : Bool) (sheet : PlaceSheet) (rest : Option PlaceSheet) → cond b (Some sheet) rest ≡ None
    → (b ≡ false) × (rest ≡ None)
none_has true sheet rest none = absurd (none-some sheet (sym none))
none_has false sheet rest none = (refl, none)

nothing_has : (id : ℕ) (sheets : List PlaceSheet) → place_sheet_with id sheets ≡ None
    → All (λ sheet. (sheet.id == id) ≡ false) sheets
nothing_has id [] none k d there = absurd (omega arith)
nothing_has id (s ∷ ss) none zero d there = (none_has (s.id == id) s (place_sheet_with id ss) none).0
nothing_has id (s ∷ ss) none (suc k) d there =
    nothing_has id ss (none_has (s.id == id) s (place_sheet_with id ss) none).1 k d (omega arith)

-- an id that is found isn't one that nothing has
apart_if_found : (P : PlaceSheet → Type 0) (sheets : List PlaceSheet) (id new : ℕ)
    → place_sheet_with new sheets ≡ None → IsSomeAnd (place_sheet_with id sheets) P → (new == id) ≡ false
apart_if_found P sheets id new none found = false_from_ne_true (new == id) (λ same.
    subst (λ held. IsSomeAnd held P)
    (ap (λ n. place_sheet_with n sheets) (sym (eqb-true new id same)) ∙ none) found)

-- ---- no merges

none_in_order : IsStrictlySortedBy by_first_cell []
unfolding IsStrictlySortedBy
none_in_order = tt

no_merges : AreMerges []
no_merges = record {
  each = λ k d there. absurd (omega (arith, there));
  apart = λ i j d less there. absurd (omega (arith, there));
  in_order = none_in_order;
}

-- ---- a spreadsheet all of whose sheets may be hidden still

pub record IsNearlySound (book : PlaceBook) : Type 0 where
  pub distinct : AllPairs (λ one other. one.id ≢ other.id) book.sheets
  pub titles : AllPairs (λ one other. str_eq_ignore_ascii_case one.title other.title ≡ false) book.sheets
  pub sheets : All (IsSheetSound book.sheets) book.sheets
  pub few_sheets : length book.sheets ≤ most_sheets
  pub few_places : grid_places book.sheets ≤ most_places
  pub ranges : AreOnSheets book.sheets book.ranges
  pub protections : AreWithin book.sheets book.protections
  pub metadata : AreItemsWithin book.sheets book.metadata

pub record NearlyStands (book : PlaceBook) (names : NameBook) : Type 0 where
  pub sound : IsNearlySound book
  pub id : book.id ≡ names.id
  pub title : book.title ≡ names.title
  pub owner : book.owner ≡ names.owner
  pub sheets : AllZip (SheetStandsFor names.sheets) book.sheets names.sheets
  pub ranges : names.ranges ≡ map (range_named (orders_of names.sheets)) book.ranges
  pub protections : names.protections ≡ map (protection_named (orders_of names.sheets)) book.protections
  pub metadata : names.metadata ≡ map (item_named (orders_of names.sheets)) book.metadata

nearly_sound : (book : PlaceBook) → IsSound book → IsNearlySound book
nearly_sound book sound = record {
  distinct = sound.distinct;
  titles = sound.titles;
  sheets = sound.sheets;
  few_sheets = sound.few_sheets;
  few_places = sound.few_places;
  ranges = sound.ranges;
  protections = sound.protections;
  metadata = sound.metadata;
}

pub sound_visible : (book : PlaceBook) → IsNearlySound book → list_all (λ sheet. sheet.hidden) book.sheets ≡ false
    → IsSound book
sound_visible book sound visible = record {
  distinct = sound.distinct;
  titles = sound.titles;
  visible = visible;
  sheets = sound.sheets;
  few_sheets = sound.few_sheets;
  few_places = sound.few_places;
  ranges = sound.ranges;
  protections = sound.protections;
  metadata = sound.metadata;
}

nearly_stands : (book : PlaceBook) (names : NameBook) → BookStandsFor book names → NearlyStands book names
nearly_stands book names stands = record {
  sound = nearly_sound book stands.sound;
  id = stands.id;
  title = stands.title;
  owner = stands.owner;
  sheets = stands.sheets;
  ranges = stands.ranges;
  protections = stands.protections;
  metadata = stands.metadata;
}

pub stands_visible : (book : PlaceBook) (names : NameBook) → NearlyStands book names
    → list_all (λ sheet. sheet.hidden) book.sheets ≡ false → BookStandsFor book names
stands_visible book names stands visible = record {
  sound = sound_visible book stands.sound visible;
  id = stands.id;
  title = stands.title;
  owner = stands.owner;
  sheets = stands.sheets;
  ranges = stands.ranges;
  protections = stands.protections;
  metadata = stands.metadata;
}

module _ (empty : (rows cols row col : ℕ) → item_at (empty_table {T = Content} rows cols) row col ≡ None)
    (book : PlaceBook) (at : ℕ) (sheet : NewSheet) (room : IsRoomFor sheet book) where
  abbrev new : PlaceSheet
  new = new_place_sheet sheet

  abbrev after : List PlaceSheet
  after = insert book.sheets at new

  abbrev added : PlaceBook
  added = place_sheet_added at new book

  no_other : All (λ other. (other.id == sheet.id) ≡ false) book.sheets
  no_other = nothing_has sheet.id book.sheets room.id

  -- ---- the spreadsheet is sound

  area_stays : (area : Area) → IsOnSheet book.sheets area → IsOnSheet after area
  area_stays area on =
      subst (λ found. IsSomeAnd found (λ one. AreaWithin area one.table.rows one.table.cols))
      (sym (find-inserted (λ (one : PlaceSheet). one.id == area.sheet) at new book.sheets
      (apart_if_found (λ one. AreaWithin area one.table.rows one.table.cols) book.sheets area.sheet sheet.id
      room.id on)))
      on

  old_sound : (one : PlaceSheet) → IsSheetSound book.sheets one → IsSheetSound after one
  old_sound one sound = record {
    titled = sound.titled;
    rows = sound.rows;
    cols = sound.cols;
    inside = sound.inside;
    within = λ row col. held_within book.sheets after area_stays (item_at one.table row col) (sound.within row col);
    merges = sound.merges;
    filter = sound.filter;
  }

  no_some : (held : Option Content) → held ≡ None → IsSome held → ⊥
  no_some None is some = absurd (false≢true some)
  no_some (Some item) is some = none-some item (sym is)

  if_none : (P : Content → Type 0) (held : Option Content) → held ≡ None → IfSome held P
  if_none P None is = tt
  if_none P (Some item) is = absurd (none-some item (sym is))

  new_sound : IsSheetSound after new
  new_sound = record {
    titled = room.titled;
    rows = room.rows;
    cols = room.cols;
    inside = λ row col some.
        absurd (no_some (item_at new.table row col) (empty sheet.rows sheet.cols row col) some);
    within = λ row col.
        if_none (IsContentWithin after) (item_at new.table row col) (empty sheet.rows sheet.cols row col);
    merges = (no_merges, λ k d there. absurd (omega (arith, there)));
    filter = tt;
  }

  pub added_nearly : IsNearlySound book → IsNearlySound added
  added_nearly sound = record {
    distinct = AllPairs-inserted (λ (one other : PlaceSheet). one.id ≢ other.id) at new book.sheets
        (λ k d there same. false≢true (sym (no_other k d there)
        ∙ eq-eqb (get_or book.sheets k d).id sheet.id (sym same)))
        (λ k d there same. false≢true (sym (no_other k d there) ∙ eq-eqb (get_or book.sheets k d).id sheet.id same))
        sound.distinct;
    titles = AllPairs-inserted
        (λ (one other : PlaceSheet). str_eq_ignore_ascii_case one.title other.title ≡ false) at new book.sheets
        (λ k d there. titles_apart (get_or book.sheets k d).title sheet.title (room.title k d there))
        room.title sound.titles;
    sheets = All-inserted (IsSheetSound after) at new book.sheets new_sound
        (λ k d there. old_sound (get_or book.sheets k d) (sound.sheets k d there));
    few_sheets = let long = length-inserted at new book.sheets in let few = room.few_sheets in
        omega (arith, long, few);
    few_places = let places =
        sum_by-insert (λ (one : PlaceSheet). one.table.rows * one.table.cols) book.sheets at new in
        let few = room.few_places in
        omega (arith, places, few);
    ranges = λ k d there. area_stays (get_or book.ranges k d).area (sound.ranges k d there);
    protections = protections_stay book.sheets after area_stays book.protections sound.protections;
    metadata = items_stay book.sheets after area_stays book.metadata sound.metadata;
  }

  still_visible : IsSound book → list_all (λ (one : PlaceSheet). one.hidden) after ≡ false
  still_visible sound = still_not_all (λ (one : PlaceSheet). one.hidden) at new book.sheets sound.visible

  pub added_sound : IsSound book → IsSound added
  added_sound sound = sound_visible added (added_nearly (nearly_sound book sound)) (still_visible sound)

  -- ---- and stands for the one with a sheet of new lines

  module _ (named : Named) (stands : NearlyStands book named.book) (called : HasNamesBelow named.next named.book) where
    abbrev meant : NameSheet
    meant = new_sheet named.next sheet

    abbrev names : List NameSheet
    names = insert named.book.sheets at meant

    same_lines : (id : ℕ) → (sheet.id == id) ≡ false → orders_of named.book.sheets id ≡ orders_of names id
    same_lines id other = fun_ext (λ axis.
        ap (λ (found : Option NameSheet). option_map_or (λ one. lines_of one axis) found [])
        (sym (find-inserted (λ (one : NameSheet). one.id == id) at meant named.book.sheets other)))

    same_area : (area : Area) → IsOnSheet book.sheets area
        → orders_of named.book.sheets area.sheet ≡ orders_of names area.sheet
    same_area area on =
        same_lines area.sheet
        (apart_if_found (λ one. AreaWithin area one.table.rows one.table.cols) book.sheets area.sheet
        sheet.id room.id on)

    old_stands : (one : PlaceSheet) (other : NameSheet) → IsSheetSound book.sheets one → (one.id == sheet.id) ≡ false
        → SheetStandsFor named.book.sheets one other → SheetStandsFor names one other
    old_stands one other sound apart is =
        still_stands named.book.sheets names one other
        (λ row col. held_same book.sheets (orders_of named.book.sheets) (orders_of names) same_area
        (item_at one.table row col) (sound.within row col))
        (merges_same (orders_of named.book.sheets) (orders_of names) one own sound.merges)
        (filter_same (orders_of named.book.sheets) (orders_of names) one own one.filter sound.filter) is
      where
        own : orders_of named.book.sheets one.id ≡ orders_of names one.id
        own = same_lines one.id (false_from_ne_true (sheet.id == one.id)
            (λ is. false≢true (sym apart ∙ eq-eqb one.id sheet.id (sym (eqb-true sheet.id one.id is)))))

    all_old : (ones : List PlaceSheet) (others : List NameSheet) → All (IsSheetSound book.sheets) ones
        → All (λ one. (one.id == sheet.id) ≡ false) ones → AllZip (SheetStandsFor named.book.sheets) ones others
        → AllZip (SheetStandsFor names) ones others
    all_old [] [] sound apart all = tt
    all_old [] (n ∷ ns) sound apart all = absurd all
    all_old (s ∷ ss) [] sound apart all = absurd all
    all_old (s ∷ ss) (n ∷ ns) sound apart all = (
      old_stands s n (sound 0 s (omega arith)) (apart 0 s (omega arith)) all.0,
      all_old ss ns (λ k d there. sound (suc k) d (omega arith)) (λ k d there. apart (suc k) d (omega arith)) all.1,
    )

    new_stands : SheetStandsFor names new meant
    new_stands = record {
      id = refl;
      title = refl;
      hidden = refl;
      distinct_rows = fresh_order named.next sheet.rows;
      distinct_cols = fresh_order (named.next + sheet.rows) sheet.cols;
      rows = sym (length-range_with_len named.next sheet.rows);
      cols = sym (length-range_with_len (named.next + sheet.rows) sheet.cols);
      cells = λ row col r c at_row at_col.
          ap (option_map (content_named (orders_of names))) (sym (empty sheet.rows sheet.cols row col));
      nowhere_else = λ r c out. refl;
      merges = λ area. (λ none. none, λ none. none);
      filter = refl;
    }

    pub added_stands : NearlyStands added (sheet_added at meant named.book)
    added_stands = record {
      sound = added_nearly stands.sound;
      id = stands.id;
      title = stands.title;
      owner = stands.owner;
      sheets = AllZip-inserted (SheetStandsFor names) at new meant book.sheets named.book.sheets new_stands
          (all_old book.sheets named.book.sheets stands.sound.sheets no_other stands.sheets);
      ranges = stands.ranges
          ∙ ranges_same book.sheets (orders_of named.book.sheets) (orders_of names) same_area book.ranges
          stands.sound.ranges;
      protections = stands.protections
          ∙ protections_same book.sheets (orders_of named.book.sheets) (orders_of names) same_area book.protections
          stands.sound.protections;
      metadata = stands.metadata
          ∙ items_same book.sheets (orders_of named.book.sheets) (orders_of names) same_area book.metadata
          stands.sound.metadata;
    }

    abbrev next : ℕ
    next = named.next + sheet.rows + sheet.cols

    abbrev IsCalled : NameSheet → Type 0
    IsCalled one = All (λ name. name < next) one.rows × All (λ name. name < next) one.cols

    pub added_called : HasNamesBelow next (sheet_added at meant named.book)
    added_called = All-inserted IsCalled at meant named.book.sheets (
      fresh_below named.next sheet.rows next (omega arith),
      fresh_below (named.next + sheet.rows) sheet.cols next (omega arith),
    )
        (λ k d there. (
          λ i e inside. let below = (called k d there).0 i e inside in omega (arith, below),
          λ i e inside. let below = (called k d there).1 i e inside in omega (arith, below),
        ))

  -- the law
  pub added_changes : AreChanges (BookChange.SheetAdded at sheet ∷ []) book added
  added_changes = record {
    id = refl;
    names = λ named is.
        let nearly = nearly_stands book named.book is.stands in
        record {
          stands = stands_visible added (sheet_added at (new_sheet named.next sheet) named.book)
              (added_stands named nearly is.called) (still_visible is.stands.sound);
          called = added_called named nearly is.called;
        };
  }
