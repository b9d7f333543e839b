-- A read of values by data filters (Google Sheets API v4 reference, spreadsheets.values.batchGetByDataFilter): a filter
-- of cells shows these, and a look-up the sheet, the row or the column of each item that it finds.
use Rattle.std.specs.Prelude.{◌≡◌, ◌+◌, ℕ, List, [], ◌∷◌, flat_map, map, Option, None, Some, Result, Ok, Err, IsSomeAnd, MatchResult}
use Rattle.std.specs.List.{AllZip, filter_map}
use Rattle.cell_value.specs.declared.cell.Cell.{Cell}
use Rattle.cell_value.specs.declared.cell.Render.{Render}
use Rattle.dev_metadata.specs.Listed.{AreIdsInOrder, found}
use Rattle.dev_metadata.specs.declared.types.Item.{Item}
use Rattle.dev_metadata.specs.declared.types.Spot.{Spot}
use Rattle.dev_metadata.specs.declared.types.Spot.TheVariants.{Spreadsheet, Sheet, Line}
use Rattle.grid_range.specs.Area.{with_band}
use Rattle.grid_range.specs.declared.area.Area.{Area}
use Rattle.grid_range.specs.declared.axis.Axis.{Axis}
use Rattle.grid_range.specs.declared.band.Band.TheVariants.{Span}
use Rattle.world_model.specs.Book.{PlaceBook}
use Rattle.world_model.specs.Sound.{place_sheet_with}
use Rattle.dimension_ops.specs.Broken.{first_broken}
use Rattle.dimension_ops.specs.declared.rule.Rule.{Rule}
use Rattle.values_api.specs.Ranges.{FoundArea, Resolves}
use Rattle.values_api.specs.Shown.{IsAreaShown}
use Rattle.json_requests.specs.declared.request.DataFilter.{DataFilter}
use Rattle.json_requests.specs.declared.request.DataFilter.TheVariants as filter
use Rattle.json_requests.specs.declared.request.MetadataLookup.{MetadataLookup}
use Rattle.json_shapes.specs.Reading.{Reading}
use Rattle.sheets_json.specs.declared.answer.MatchedRange.{MatchedRange}
use Rattle.sheets_json.specs.declared.answer.ShownRange.{ShownRange}
use Rattle.request_kinds.specs.Dimensions.{whole_sheet}
use Rattle.request_kinds.specs.Metadata.{broken_by_lookups, items_seen, lookup_of}
use Rattle.request_kinds.specs.Rows.{area_or_broken}
use Rattle.batch_engine.specs.Members.{InOrder, ToldOfAll}
use Rattle.batch_engine.specs.Values.{axis_or_rows, is_columns, render_or_formatted, rule_of, shown_range}

-- ---- the areas of a filter

-- the sheet, the row or the column where an item lies; one on the spreadsheet has no cells
abbrev pub area_of_spot : Spot → Option Area
area_of_spot Spreadsheet = None
area_of_spot (Sheet sheet) = Some (whole_sheet sheet)
area_of_spot (Line sheet axis place) = Some (with_band axis (whole_sheet sheet) (Span place (place + 1)))

abbrev pub areas_of_items : List Item → List Area
areas_of_items items = filter_map (λ item. area_of_spot item.spot) items

-- those of the items that the project sees and that the look-up finds, in order of id
pub record AreAreasFound (project : List ℕ) (asked : MetadataLookup) (book : PlaceBook)
    (areas : Result (List Area) Rule) : Type 0 where
  pub ids : List ℕ
  pub in_order : AreIdsInOrder (found (lookup_of asked) project book.metadata) ids
  pub areas_are : areas ≡ Ok (areas_of_items (items_seen project ids book.metadata))

abbrev pub AreAreasLookedUp : List ℕ → MetadataLookup → PlaceBook → Option Rule → Result (List Area) Rule → Type 0
AreAreasLookedUp project asked book None areas = AreAreasFound project asked book areas
AreAreasLookedUp project asked book (Some broken) areas = areas ≡ Err broken

-- the one area
abbrev pub alone_or_broken : Result Area Rule → Result (List Area) Rule
alone_or_broken (Ok area) = Ok (area ∷ [])
alone_or_broken (Err broken) = Err broken

abbrev pub area_found : Result FoundArea Rule → Result Area Rule
area_found (Ok found) = Ok found.0
area_found (Err broken) = Err broken

-- the areas of a filter, each cut at the grid of its sheet, or the first rule that it breaks
abbrev pub AreAreasOf : List ℕ → PlaceBook → DataFilter → Result (List Area) Rule → Type 0
AreAreasOf project book (filter.DeveloperMetadataLookup asked) areas =
    AreAreasLookedUp project asked book (first_broken (broken_by_lookups book.sheets (asked ∷ []))) areas
AreAreasOf project book (filter.A1Range text) areas =
    (found : Result FoundArea Rule) × Resolves text book found × (areas ≡ alone_or_broken (area_found found))
AreAreasOf project book (filter.GridRange area) areas = areas ≡ alone_or_broken (area_or_broken book.sheets area)

-- ---- what they show

-- how the cells of areas are shown
pub record Showing : Type 0 where
  pub dimension : Option Axis
  pub render : Option Render

-- the area is shown so
abbrev pub IsShownAs : Showing → PlaceBook → Area → ShownRange → Type 0
IsShownAs how book area shown = IsSomeAnd (place_sheet_with area.sheet book.sheets) (λ sheet.
    (lines : List (List Cell))
    × IsAreaShown book area (is_columns (axis_or_rows how.dimension)) (render_or_formatted how.render) sheet lines
    × (shown ≡ shown_range (axis_or_rows how.dimension) area sheet lines))

-- a range with the filter that finds it
abbrev pub matched_range : DataFilter → ShownRange → MatchedRange
matched_range one shown = record { data_filters = one ∷ []; value_range = shown }

-- each of the areas is shown so, with the filter that finds it
pub record AreAreasShown (how : Showing) (book : PlaceBook) (one : DataFilter) (areas : List Area)
    (all : List MatchedRange) : Type 0 where
  pub ranges : List ShownRange
  pub each : AllZip (IsShownAs how book) areas ranges
  pub all_are : all ≡ map (matched_range one) ranges

-- what a filter shows, area by area
pub record AreFilterShown (project : List ℕ) (how : Showing) (book : PlaceBook) (one : DataFilter)
    (told : Result (List MatchedRange) Rule) : Type 0 where
  pub areas : Result (List Area) Rule
  pub are : AreAreasOf project book one areas
  pub tells : MatchResult areas
      (λ some. (all : List MatchedRange) × AreAreasShown how book one some all × (told ≡ Ok all))
      (λ broken. told ≡ Err broken)

-- one whose shape is broken is refused in its turn
abbrev pub AreShownBy : List ℕ → Showing → PlaceBook → Reading DataFilter → Result (List MatchedRange) Rule → Type 0
AreShownBy project how book (Ok one) told = AreFilterShown project how book one told
AreShownBy project how book (Err shape) told = told ≡ Err (rule_of shape)

-- ---- what the private functions hand to one another

-- what filters show, one filter behind another, or the place of the first that breaks a rule, and the rule
abbrev pub joined : ToldOfAll (List MatchedRange) → ToldOfAll MatchedRange
joined (Ok all) = Ok (flat_map (λ part. part) all)
joined (Err broken) = Err broken

pub record AreAllShown (project : List ℕ) (how : Showing) (book : PlaceBook) (filters : List (Reading DataFilter))
    (told : ToldOfAll MatchedRange) : Type 0 where
  pub shown : ToldOfAll (List MatchedRange)
  pub each : InOrder (AreShownBy project how book) 0 filters shown
  pub told_is : told ≡ joined shown
