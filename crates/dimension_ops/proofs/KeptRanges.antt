-- A spreadsheet whose list of named ranges is changed, or isn't, is sound.
use Rattle.std.proofs.Common.{◌≡◌, ℕ, sym, subst, List, get_or, cond, Bool, true, false}
use Rattle.std.specs.Prelude.{Option, None, Some, Result, Ok, Err, IfOk, IfSome, OnErr, OnOk}
use Rattle.std.specs.Str.{bytes_eq}
use Rattle.std.proofs.lemmas.List.Elements.{All-map}
use Rattle.grid_range.specs.declared.area.Area.{Area}
use Rattle.named_ranges.specs.Given.{given_range}
use Rattle.named_ranges.specs.Listed.{with_changed, with_one_more, without_id}
use Rattle.named_ranges.specs.declared.range.NameFault.{NameFault}
use Rattle.named_ranges.specs.declared.range.NamedRange.{NamedRange}
use Rattle.world_model.specs.Book.{PlaceBook}
use Rattle.world_model.specs.RangeChange.{with_place_ranges}
use Rattle.world_model.specs.RangeLaws.{RangesAdded, RangesDeleted}
use Rattle.world_model.specs.Sound.{IsOnSheet, IsSound}
use Rattle.dimension_ops.specs.RangeRequests.{range_of}

module _ (book : PlaceBook) (now : List NamedRange) (sound : IsSound book) where
  as_it_was : now ≡ book.ranges → IsSound (with_place_ranges now book)
  as_it_was same = subst (λ ranges. IsSound (with_place_ranges ranges book)) (sym same) sound

  pub after_adding : RangesAdded → (name : List ℕ) (area : Area) → IsOnSheet book.sheets area
      → (answer : Result (List ℕ) NameFault) → IfOk answer (λ new. now ≡ with_one_more new name area book.ranges)
      → OnErr answer (now ≡ book.ranges) → IsSound (with_place_ranges now book)
  after_adding law name area on (Ok new) made kept =
      subst (λ ranges. IsSound (with_place_ranges ranges book)) (sym made)
      (law.stays book (range_of new name area) sound on)
  after_adding law name area on (Err broken) made kept = as_it_was kept

  pub after_dropping : RangesDeleted → (dropped : List ℕ) → (answer : Result NamedRange NameFault)
      → OnOk answer (now ≡ without_id dropped book.ranges) → OnErr answer (now ≡ book.ranges)
      → IsSound (with_place_ranges now book)
  after_dropping law dropped (Ok range) made kept =
      subst (λ ranges. IsSound (with_place_ranges ranges book)) (sym made) (law.stays book dropped sound)
  after_dropping law dropped (Err broken) made kept = as_it_was kept

  -- what is given is on a sheet, and so is what was there
  given_on : (name : Option (List ℕ)) (area : Option Area) (range : NamedRange) → IfSome area (IsOnSheet book.sheets)
      → IsOnSheet book.sheets range.area → IsOnSheet book.sheets (given_range name area range).area
  given_on name None range on own = own
  given_on name (Some area) range on own = on

  changed_on : (b : Bool) (name : Option (List ℕ)) (area : Option Area) (range : NamedRange)
      → IfSome area (IsOnSheet book.sheets) → IsOnSheet book.sheets range.area
      → IsOnSheet book.sheets (cond b (given_range name area range) range).area
  changed_on true name area range on own = given_on name area range on own
  changed_on false name area range on own = own

  changed_sound : (changed : List ℕ) (name : Option (List ℕ)) (area : Option Area)
      → IfSome area (IsOnSheet book.sheets)
      → IsSound (with_place_ranges (with_changed changed (given_range name area) book.ranges) book)
  changed_sound changed name area on = record {
    distinct = sound.distinct;
    titles = sound.titles;
    visible = sound.visible;
    sheets = sound.sheets;
    few_sheets = sound.few_sheets;
    few_places = sound.few_places;
    protections = sound.protections;
    metadata = sound.metadata;
    ranges = All-map (λ (range : NamedRange). IsOnSheet book.sheets range.area)
        (λ range. cond (bytes_eq changed range.id) (given_range name area range) range) book.ranges
        (λ k d there. changed_on (bytes_eq changed (get_or book.ranges k d).id) name area (get_or book.ranges k d) on
        (sound.ranges k d there));
  }

  pub after_updating : (changed : List ℕ) (name : Option (List ℕ)) (area : Option Area)
      → IfSome area (IsOnSheet book.sheets) → (answer : Result (Unit {0}) NameFault)
      → OnOk answer (now ≡ with_changed changed (given_range name area) book.ranges)
      → OnErr answer (now ≡ book.ranges) → IsSound (with_place_ranges now book)
  after_updating changed name area on (Ok done) made kept =
      subst (λ ranges. IsSound (with_place_ranges ranges book)) (sym made) (changed_sound changed name area on)
  after_updating changed name area on (Err broken) made kept = as_it_was kept
