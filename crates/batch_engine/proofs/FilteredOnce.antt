-- A read of values by data filters has one answer.
use Rattle.std.proofs.Common.{◌≡◌, ℕ, refl, sym, ap, subst, ◌∙◌, List, [], ◌∷◌}
use Rattle.std.specs.Prelude.{Option, None, Some, IsSomeAnd, Result, Ok, Err, MatchResult, map}
use Rattle.std.specs.List.{AllZip}
use Rattle.cell_value.specs.declared.cell.Cell.{Cell}
use Rattle.grid_range.specs.declared.area.Area.{Area}
use Rattle.a1_notation.specs.Laws.{HasOneReading}
use Rattle.dev_metadata.specs.Listed.{found}
use Rattle.world_model.specs.Book.{PlaceBook}
use Rattle.world_model.specs.Sheet.{PlaceSheet}
use Rattle.world_model.specs.Sound.{IsSound, place_sheet_with}
use Rattle.dimension_ops.specs.Broken.{first_broken}
use Rattle.dimension_ops.specs.declared.rule.Rule.{Rule}
use Rattle.values_api.specs.Laws.{ReadsOnce}
use Rattle.values_api.specs.Ranges.{FoundArea, Resolves, named, unnamed, part_of}
use Rattle.values_api.specs.Shown.{IsAreaShown}
use Rattle.json_requests.specs.declared.request.DataFilter.{DataFilter}
use Rattle.json_requests.specs.declared.request.DataFilter.TheVariants as filter
use Rattle.json_requests.specs.declared.request.MetadataLookup.{MetadataLookup}
use Rattle.json_shapes.specs.Reading.{Reading}
use Rattle.sheets_json.specs.declared.answer.MatchedRange.{MatchedRange}
use Rattle.sheets_json.specs.declared.answer.ShownRange.{ShownRange}
use Rattle.request_kinds.specs.Metadata.{broken_by_lookups, items_seen, lookup_of}
use Rattle.request_kinds.specs.ItemLaws.{ids_once}
use Rattle.batch_engine.specs.Filtered.{AreAreasLookedUp, AreAreasOf, AreAreasShown, AreShownBy, IsShownAs, Showing}
use Rattle.batch_engine.specs.Filtered.{alone_or_broken, area_found, areas_of_items, matched_range}
use Rattle.batch_engine.specs.Values.{axis_or_rows, is_columns, render_or_formatted, shown_range}

-- what a range text names
pub resolves_once : HasOneReading → (text : List ℕ) (book : PlaceBook) (one other : Result FoundArea Rule)
    → Resolves text book one → Resolves text book other → one ≡ other
resolves_once one_reading text book one other (named range names is) (named range' names' is') =
    is ∙ ap (λ read. part_of book read.sheet read.part) (one_reading 3 text range range' names names') ∙ sym is'
resolves_once one_reading text book one other (named range names is) (unnamed none is') = absurd (none range names)
resolves_once one_reading text book one other (unnamed none is) (named range' names' is') = absurd (none range' names')
resolves_once one_reading text book one other (unnamed none is) (unnamed none' is') = is ∙ sym is'

module _ (reads : ReadsOnce) (how : Showing) (book : PlaceBook) (sound : IsSound book) where
  -- ---- one area

  abbrev IsShownOn : Area → PlaceSheet → ShownRange → Type 0
  IsShownOn area sheet shown =
      (lines : List (List Cell))
      × IsAreaShown book area (is_columns (axis_or_rows how.dimension)) (render_or_formatted how.render) sheet lines
      × (shown ≡ shown_range (axis_or_rows how.dimension) area sheet lines)

  shown_on_once : (area : Area) (found : Option PlaceSheet) (one other : ShownRange)
      → IsSomeAnd found (λ sheet. IsShownOn area sheet one) → IsSomeAnd found (λ sheet. IsShownOn area sheet other)
      → one ≡ other
  shown_on_once area None one other is is' = absurd is
  shown_on_once area (Some sheet) one other (lines, are, is) (lines', are', is') =
      is
      ∙ ap (shown_range (axis_or_rows how.dimension) area sheet)
      (reads.once book area (is_columns (axis_or_rows how.dimension)) (render_or_formatted how.render) sheet
      lines lines'
      sound are are')
      ∙ sym is'

  -- ---- areas

  all_shown_once : (areas : List Area) (one other : List ShownRange) → AllZip (IsShownAs how book) areas one
      → AllZip (IsShownAs how book) areas other → one ≡ other
  all_shown_once [] [] [] is is' = refl
  all_shown_once [] [] (shown ∷ rest) is is' = absurd is'
  all_shown_once [] (shown ∷ rest) other is is' = absurd is
  all_shown_once (area ∷ areas) [] other is is' = absurd is
  all_shown_once (area ∷ areas) (shown ∷ rest) [] is is' = absurd is'
  all_shown_once (area ∷ areas) (shown ∷ rest) (shown' ∷ rest') (is, are) (is', are') =
      ap (λ first. first ∷ rest) (shown_on_once area (place_sheet_with area.sheet book.sheets) shown shown' is is')
      ∙ ap (λ others. shown' ∷ others) (all_shown_once areas rest rest' are are')

  areas_shown_once : (one : DataFilter) (areas : List Area) (all all' : List MatchedRange)
      → AreAreasShown how book one areas all → AreAreasShown how book one areas all' → all ≡ all'
  areas_shown_once one areas all all' is is' =
      is.all_are ∙ ap (map (matched_range one)) (all_shown_once areas is.ranges is'.ranges is.each is'.each)
      ∙ sym is'.all_are

  -- ---- filters

  module _ (one_reading : HasOneReading) (project : List ℕ) where
    looked_up_once : (asked : MetadataLookup) (broken : Option Rule) (one other : Result (List Area) Rule)
        → AreAreasLookedUp project asked book broken one → AreAreasLookedUp project asked book broken other
        → one ≡ other
    looked_up_once asked None one other is is' =
        is.areas_are
        ∙ ap (λ ids. Ok (areas_of_items (items_seen project ids book.metadata)))
        (ids_once (found (lookup_of asked) project book.metadata) is.ids is'.ids is.in_order is'.in_order)
        ∙ sym is'.areas_are
    looked_up_once asked (Some broken) one other is is' = is ∙ sym is'

    areas_once : (given : DataFilter) (one other : Result (List Area) Rule) → AreAreasOf project book given one
        → AreAreasOf project book given other → one ≡ other
    areas_once (filter.DeveloperMetadataLookup asked) one other is is' =
        looked_up_once asked (first_broken (broken_by_lookups book.sheets (asked ∷ []))) one other is is'
    areas_once (filter.A1Range text) one other (found, names, is) (found', names', is') =
        is ∙ ap (λ found. alone_or_broken (area_found found))
        (resolves_once one_reading text book found found' names names')
        ∙ sym is'
    areas_once (filter.GridRange area) one other is is' = is ∙ sym is'

    abbrev Tells : DataFilter → Result (List MatchedRange) Rule → Result (List Area) Rule → Type 0
    Tells given told areas = MatchResult areas
        (λ some. (all : List MatchedRange) × AreAreasShown how book given some all × (told ≡ Ok all))
        (λ broken. told ≡ Err broken)

    tells_once : (given : DataFilter) (areas : Result (List Area) Rule) (told told' : Result (List MatchedRange) Rule)
        → Tells given told areas → Tells given told' areas → told ≡ told'
    tells_once given (Ok areas) told told' (all, are, is) (all', are', is') =
        is ∙ ap (λ all. Ok all) (areas_shown_once given areas all all' are are') ∙ sym is'
    tells_once given (Err broken) told told' is is' = is ∙ sym is'

    pub shown_by_once : (given : Reading DataFilter) (told told' : Result (List MatchedRange) Rule)
        → AreShownBy project how book given told → AreShownBy project how book given told' → told ≡ told'
    shown_by_once (Ok given) told told' one other =
        tells_once given other.areas told told'
        (subst (Tells given told) (areas_once given one.areas other.areas one.are other.are) one.tells) other.tells
    shown_by_once (Err shape) told told' is is' = is ∙ sym is'
