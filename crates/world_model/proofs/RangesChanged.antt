-- Named ranges that are added, changed or deleted, by places and by names.
use Rattle.std.proofs.Common.{◌≡◌, ℕ, refl, sym, ap, ◌∙◌, List, [], ◌∷◌, ◌++◌, get_or, Bool, true, false, cond, not}
use Rattle.std.specs.Prelude.{filter, map}
use Rattle.std.specs.Str.{bytes_eq}
use Rattle.std.proofs.lemmas.List.{map-append}
use Rattle.std.proofs.lemmas.List.Elements.{All-filter, All-map, All-push}
use Rattle.named_ranges.specs.declared.range.NamedRange.{NamedRange}
use Rattle.world_model.specs.Area.{Orders}
use Rattle.world_model.specs.Book.{PlaceBook, orders_of}
use Rattle.world_model.specs.BookChange.{AreChanges, BookChange, Named, NamedStandsFor, with_ranges}
use Rattle.world_model.specs.RangeChange.{place_range_added, place_range_changed, place_range_deleted, with_place_ranges}
use Rattle.world_model.specs.Ranges.{NameRange, range_named}
use Rattle.world_model.specs.Sheet.{PlaceSheet}
use Rattle.world_model.specs.Sound.{IsOnSheet, IsSound}
use Rattle.world_model.proofs.RangesNamed.{AreOnSheets, filter-named}

-- ---- a spreadsheet with other ranges

with_ranges_sound : (book : PlaceBook) (ranges : List NamedRange) → IsSound book → AreOnSheets book.sheets ranges
    → IsSound (with_place_ranges ranges book)
with_ranges_sound book ranges sound on = record {
  distinct = sound.distinct;
  titles = sound.titles;
  visible = sound.visible;
  sheets = sound.sheets;
  few_sheets = sound.few_sheets;
  few_places = sound.few_places;
  ranges = on;
  protections = sound.protections;
  metadata = sound.metadata;
}

with_ranges_stands : (book : PlaceBook) (ranges : List NamedRange) (named : Named) (names : List NameRange)
    → NamedStandsFor book named → AreOnSheets book.sheets ranges
    → names ≡ map (range_named (orders_of named.book.sheets)) ranges
    → NamedStandsFor (with_place_ranges ranges book) (record named { book = with_ranges names named.book })
with_ranges_stands book ranges named names is on same = record {
  stands = record {
    sound = with_ranges_sound book ranges is.stands.sound on;
    id = is.stands.id;
    title = is.stands.title;
    owner = is.stands.owner;
    sheets = is.stands.sheets;
    ranges = same;
    protections = is.stands.protections;
    metadata = is.stands.metadata;
  };
  called = is.called;
}

-- ---- one is added

pub added_sound : (book : PlaceBook) (range : NamedRange) → IsSound book → IsOnSheet book.sheets range.area
    → IsSound (place_range_added range book)
added_sound book range sound on =
    with_ranges_sound book (book.ranges ++ range ∷ []) sound
    (All-push (λ (one : NamedRange). IsOnSheet book.sheets one.area) book.ranges range sound.ranges on)

pub added_changes : (book : PlaceBook) (range : NamedRange) → IsOnSheet book.sheets range.area
    → AreChanges (BookChange.RangeAdded range ∷ []) book (place_range_added range book)
added_changes book range on = record {
  id = refl;
  names = λ named is.
      let by_names : NamedRange → NameRange = range_named (orders_of named.book.sheets) in
      with_ranges_stands book (book.ranges ++ range ∷ []) named (named.book.ranges ++ by_names range ∷ []) is
      (All-push (λ (one : NamedRange). IsOnSheet book.sheets one.area) book.ranges range is.stands.sound.ranges on)
      (ap (λ ranges. ranges ++ by_names range ∷ []) is.stands.ranges
      ∙ sym (map-append by_names book.ranges (range ∷ [])));
}

-- ---- one is changed

one_on : (sheets : List PlaceSheet) (b : Bool) (range other : NamedRange) → IsOnSheet sheets range.area
    → IsOnSheet sheets other.area → IsOnSheet sheets (cond b range other).area
one_on sheets true range other on on' = on
one_on sheets false range other on on' = on'

changed_on : (sheets : List PlaceSheet) (range : NamedRange) (ranges : List NamedRange) → IsOnSheet sheets range.area
    → AreOnSheets sheets ranges
    → AreOnSheets sheets (map (λ other. cond (bytes_eq range.id other.id) range other) ranges)
changed_on sheets range ranges on all =
    All-map (λ (one : NamedRange). IsOnSheet sheets one.area) (λ other. cond (bytes_eq range.id other.id) range other)
    ranges
    (λ k d there. one_on sheets (bytes_eq range.id (get_or ranges k d).id) range (get_or ranges k d) on (all k d there))

module _ (orders : Orders) (range : NamedRange) where
  one_named : (b : Bool) (other : NamedRange)
      → cond b (range_named orders range) (range_named orders other) ≡ range_named orders (cond b range other)
  one_named true other = refl
  one_named false other = refl

  changed_named : (ranges : List NamedRange)
      → map (λ other. cond (bytes_eq range.id other.id) (range_named orders range) other)
      (map (range_named orders) ranges)
      ≡ map (range_named orders) (map (λ other. cond (bytes_eq range.id other.id) range other) ranges)
  changed_named [] = refl
  changed_named (r ∷ rs) =
      ap (λ first. first ∷ map (λ other. cond (bytes_eq range.id other.id) (range_named orders range) other)
      (map (range_named orders) rs)) (one_named (bytes_eq range.id r.id) r)
      ∙ ap (λ rest. range_named orders (cond (bytes_eq range.id r.id) range r) ∷ rest) (changed_named rs)

pub changed_sound : (book : PlaceBook) (range : NamedRange) → IsSound book → IsOnSheet book.sheets range.area
    → IsSound (place_range_changed range book)
changed_sound book range sound on =
    with_ranges_sound book (map (λ other. cond (bytes_eq range.id other.id) range other) book.ranges) sound
    (changed_on book.sheets range book.ranges on sound.ranges)

pub changed_changes : (book : PlaceBook) (range : NamedRange) → IsOnSheet book.sheets range.area
    → AreChanges (BookChange.RangeChanged range ∷ []) book (place_range_changed range book)
changed_changes book range on = record {
  id = refl;
  names = λ named is.
      let orders : Orders = orders_of named.book.sheets in
      with_ranges_stands book (map (λ other. cond (bytes_eq range.id other.id) range other) book.ranges) named
      (map (λ other. cond (bytes_eq range.id other.id) (range_named orders range) other) named.book.ranges) is
      (changed_on book.sheets range book.ranges on is.stands.sound.ranges)
      (ap (map (λ other. cond (bytes_eq range.id other.id) (range_named orders range) other)) is.stands.ranges
      ∙ changed_named orders range book.ranges);
}

-- ---- one is deleted

pub deleted_sound : (book : PlaceBook) (id : List ℕ) → IsSound book → IsSound (place_range_deleted id book)
deleted_sound book id sound =
    with_ranges_sound book _ sound
    (All-filter (λ (range : NamedRange). not (bytes_eq id range.id)) (λ range. IsOnSheet book.sheets range.area)
    book.ranges sound.ranges)

pub deleted_changes : (book : PlaceBook) (id : List ℕ)
    → AreChanges (BookChange.RangeDeleted id ∷ []) book (place_range_deleted id book)
deleted_changes book id = record {
  id = refl;
  names = λ named is.
      let by_names : NamedRange → NameRange = range_named (orders_of named.book.sheets) in
      with_ranges_stands book _ named _ is
      (All-filter (λ (range : NamedRange). not (bytes_eq id range.id)) (λ range. IsOnSheet book.sheets range.area)
      book.ranges is.stands.sound.ranges)
      (ap (filter (λ range. not (bytes_eq id range.id))) is.stands.ranges
      ∙ filter-named by_names by_names (λ range. not (bytes_eq id range.id)) (λ range. not (bytes_eq id range.id))
      (λ range. refl) book.ranges (λ k d there left. refl));
}
