-- What data filters show, from what each step says.
use Rattle.std.proofs.Common.{◌≡◌, ◌+◌, ◌<◌, ◌≤◌, ◌++◌, ℕ, refl, sym, ap, subst, ◌∙◌, List, [], ◌∷◌, All, length, get_or, take, arith}
use Rattle.std.specs.Prelude.{◌==◌, ◌&&◌, map, flat_map, Option, None, Some, IsSomeAnd, IfSome, Result, Ok, Err}
use Rattle.std.specs.List.{AllZip, cons_option}
use Rattle.std.specs.Option.{IsSome}
use Rattle.std.proofs.lemmas.Bool.{false≢true}
use Rattle.std.proofs.lemmas.Grind.{flat_map-append}
use Rattle.std.proofs.lemmas.List.{append-nil, map-append, take_more}
use Rattle.std.proofs.lemmas.List.Elements.{All-cons, All-head, All-nil, All-tail}
use Rattle.cell_store.specs.Moved.{lines_on}
use Rattle.dev_metadata.specs.Listed.{seen_with_id}
use Rattle.dev_metadata.specs.Lookup.{sees}
use Rattle.dev_metadata.specs.declared.types.Item.{Item}
use Rattle.dev_metadata.specs.declared.types.Spot.{Spot}
use Rattle.dev_metadata.specs.declared.types.Spot.TheVariants.{Spreadsheet, Sheet, Line}
use Rattle.grid_range.specs.Area.{AreaWithin, with_band}
use Rattle.grid_range.specs.declared.area.Area.{Area}
use Rattle.grid_range.specs.declared.axis.Axis.{Axis}
use Rattle.grid_range.specs.declared.axis.Axis.TheVariants.{Rows, Columns}
use Rattle.grid_range.specs.declared.band.Band.TheVariants.{Span}
use Rattle.world_model.specs.declared.limits.TheConstants.{MOST_COLUMNS, MOST_ROWS}
use Rattle.world_model.specs.Book.{PlaceBook}
use Rattle.world_model.specs.Sheet.{PlaceSheet}
use Rattle.world_model.specs.Sound.{IsItemWithin, IsSheetSound, IsSound, IsSpotWithin, place_sheet_with}
use Rattle.dimension_ops.specs.Broken.{first_broken}
use Rattle.dimension_ops.specs.Rules.{IsUnlessNoMemory}
use Rattle.dimension_ops.specs.declared.rule.Rule.{Rule}
use Rattle.dimension_ops.specs.declared.rule.RuleOr.{RuleOr}
use Rattle.dimension_ops.specs.declared.rule.RuleOr.TheVariants as refusal
use Rattle.values_api.specs.Ranges.{FoundArea, IsThere, Resolves}
use Rattle.json_requests.specs.declared.request.DataFilter.{DataFilter}
use Rattle.json_requests.specs.declared.request.DataFilter.TheVariants as filter
use Rattle.json_requests.specs.declared.request.MetadataLookup.{MetadataLookup}
use Rattle.json_shapes.specs.Reading.{Reading}
use Rattle.sheets_json.specs.declared.answer.MatchedRange.{MatchedRange}
use Rattle.sheets_json.specs.declared.answer.ShownRange.{ShownRange}
use Rattle.request_kinds.specs.Dimensions.{whole_sheet}
use Rattle.request_kinds.specs.Metadata.{AreIdsFound, broken_by_lookups, items_seen}
use Rattle.request_kinds.specs.Rows.{area_or_broken}
use Rattle.values_api.specs.FoundLaws.{holds_of_found, some_and, sound_sheet}
use Rattle.batch_engine.specs.Filtered.{AreAllShown, AreAreasLookedUp, AreAreasOf, AreAreasShown, AreFilterShown, AreShownBy}
use Rattle.batch_engine.specs.Filtered.{IsShownAs, Showing, alone_or_broken, area_of_spot, areas_of_items, matched_range}
use Rattle.batch_engine.proofs.Judging.{SoFar, all_told, broken_told, one_more}

-- ---- where items lie

few_on : (sheets : List PlaceSheet) (axis : Axis) (line : ℕ) (sheet : PlaceSheet) → IsSheetSound sheets sheet
    → line < lines_on axis sheet.table.rows sheet.table.cols → line < MOST_ROWS
few_on sheets Rows line sheet sound below =
    let most : sheet.table.rows ≤ MOST_ROWS = sound.rows.1 in omega (arith, most, below)
few_on sheets Columns line sheet sound below =
    let most : sheet.table.cols ≤ MOST_COLUMNS = sound.cols.1 in omega (arith, most, below)

-- a line that is there is one of few
pub few_lines : (book : PlaceBook) → IsSound book → (id : ℕ) (axis : Axis) (line : ℕ)
    → IsSomeAnd (place_sheet_with id book.sheets) (λ sheet. line < lines_on axis sheet.table.rows sheet.table.cols)
    → line < MOST_ROWS
few_lines book sound id axis line there =
    let (sheet, is, below) =
    some_and (λ (sheet : PlaceSheet). line < lines_on axis sheet.table.rows sheet.table.cols)
    (place_sheet_with id book.sheets) there in
    few_on book.sheets axis line sheet (sound_sheet book sound id sheet is) below

whole_there : (id : ℕ) (found : Option PlaceSheet) → IsSome found
    → IsSomeAnd found (λ sheet. AreaWithin (whole_sheet id) sheet.table.rows sheet.table.cols)
whole_there id None there = absurd (false≢true there)
whole_there id (Some sheet) there = (tt, tt)

line_there : (id : ℕ) (axis : Axis) (line : ℕ) (found : Option PlaceSheet)
    → IsSomeAnd found (λ sheet. line < lines_on axis sheet.table.rows sheet.table.cols)
    → IsSomeAnd found (λ sheet. AreaWithin (with_band axis (whole_sheet id) (Span line (line + 1)))
    sheet.table.rows sheet.table.cols)
line_there id axis line None there = absurd there
line_there id Rows line (Some sheet) there = ((omega arith, omega (arith, there)), tt)
line_there id Columns line (Some sheet) there = (tt, (omega arith, omega (arith, there)))

spot_there : (sheets : List PlaceSheet) (spot : Spot) → IsSpotWithin sheets spot
    → IfSome (area_of_spot spot) (IsThere sheets)
spot_there sheets Spreadsheet within = tt
spot_there sheets (Sheet id) within = whole_there id (place_sheet_with id sheets) within
spot_there sheets (Line id Rows line) within = line_there id Rows line (place_sheet_with id sheets) within
spot_there sheets (Line id Columns line) within = line_there id Columns line (place_sheet_with id sheets) within

one_there : (sheets : List PlaceSheet) (area : Option Area) (rest : List Area) → IfSome area (IsThere sheets)
    → All (IsThere sheets) rest → All (IsThere sheets) (cons_option area rest)
one_there sheets None rest there all = all
one_there sheets (Some area) rest there all = All-cons (IsThere sheets) area rest there all

pub items_there : (sheets : List PlaceSheet) (items : List Item) → All (IsItemWithin sheets) items
    → All (IsThere sheets) (areas_of_items items)
items_there sheets [] within = All-nil (IsThere sheets)
items_there sheets (item ∷ rest) within =
    one_there sheets (area_of_spot item.spot) (areas_of_items rest)
    (spot_there sheets item.spot (All-head (IsItemWithin sheets) item rest within))
    (items_there sheets rest (All-tail (IsItemWithin sheets) item rest within))

-- items that are seen are among all items
module _ (project : List ℕ) (P : Item → Type 0) (items : List Item) (all : All P items) where
  one_holds : (id : ℕ) (found : Option Item) → seen_with_id id project items ≡ found → (rest : List Item) → All P rest
      → All P (cons_option found rest)
  one_holds id None is rest holds = holds
  one_holds id (Some item) is rest holds =
      All-cons P item rest
      (holds_of_found P (λ (one : Item). id == one.id && sees project one) items item all is) holds

  pub seen_hold : (ids : List ℕ) → All P (items_seen project ids items)
  seen_hold [] = All-nil P
  seen_hold (id ∷ rest) =
      one_holds id (seen_with_id id project items) refl (items_seen project rest items) (seen_hold rest)

-- ---- the areas of a filter

module _ (project : List ℕ) (book : PlaceBook) where
  module _ (asked : MetadataLookup) where
    abbrev LookedUp : Result (List Area) Rule → Type 0
    LookedUp = AreAreasLookedUp project asked book (first_broken (broken_by_lookups book.sheets (asked ∷ [])))

    pub look_up_refused : (fault : RuleOr) → IsUnlessNoMemory (AreIdsFound project asked book) (Err fault)
        → IsUnlessNoMemory LookedUp (Err fault)
    look_up_refused (refusal.Rule broken) is =
        subst (λ first. AreAreasLookedUp project asked book first (Err broken)) (sym is.broken) refl
    look_up_refused refusal.NoMemory is = tt

    pub looked_up : (ids : List ℕ) (areas : List Area) → AreIdsFound project asked book (Ok ids)
        → areas ≡ areas_of_items (items_seen project ids book.metadata) → LookedUp (Ok areas)
    looked_up ids areas is areas_are =
        subst (λ first. AreAreasLookedUp project asked book first (Ok areas)) (sym is.unbroken)
        (record { ids = ids; in_order = is.in_order; areas_are = ap (λ areas. Ok areas) areas_are })

  pub name_refused : (text : List ℕ) (fault : RuleOr) → IsUnlessNoMemory (Resolves text book) (Err fault)
      → IsUnlessNoMemory (AreAreasOf project book (filter.A1Range text)) (Err fault)
  name_refused text (refusal.Rule broken) is = (Err broken, is, refl)
  name_refused text refusal.NoMemory is = tt

  pub named_area : (text : List ℕ) (found : FoundArea) (areas : List Area) → Resolves text book (Ok found)
      → areas ≡ found.0 ∷ [] → AreAreasOf project book (filter.A1Range text) (Ok areas)
  named_area text found areas is areas_are = (Ok found, is, ap (λ areas. Ok areas) areas_are)

  pub given_area : (area cut : Area) (areas : List Area) (found : Result Area Rule)
      → found ≡ area_or_broken book.sheets area → found ≡ Ok cut → areas ≡ cut ∷ []
      → AreAreasOf project book (filter.GridRange area) (Ok areas)
  given_area area cut areas found is cut_is areas_are =
      ap (λ areas. Ok areas) areas_are ∙ ap alone_or_broken (sym cut_is ∙ is)

  pub area_refused : (area : Area) (broken : Rule) (found : Result Area Rule) → found ≡ area_or_broken book.sheets area
      → found ≡ Err broken → AreAreasOf project book (filter.GridRange area) (Err broken)
  area_refused area broken found is refused = ap alone_or_broken (sym refused ∙ is)

-- ---- what areas show

module _ (how : Showing) (book : PlaceBook) (one : DataFilter) where
  pub none_shown : AreAreasShown how book one [] []
  none_shown = record { ranges = []; each = tt; all_are = refl }

  zip_more : (areas : List Area) (ranges : List ShownRange) (area : Area) (shown : ShownRange)
      → AllZip (IsShownAs how book) areas ranges → IsShownAs how book area shown
      → AllZip (IsShownAs how book) (areas ++ area ∷ []) (ranges ++ shown ∷ [])
  zip_more [] [] area shown each is = (is, tt)
  zip_more [] (other ∷ ranges) area shown each is = absurd each
  zip_more (other ∷ areas) [] area shown each is = absurd each
  zip_more (other ∷ areas) (range ∷ ranges) area shown (first, each) is =
      (first, zip_more areas ranges area shown each is)

  abbrev as_matched : List DataFilter → ShownRange → MatchedRange
  as_matched filters shown = record { data_filters = filters; value_range = shown }

  pub area_shown : (areas : List Area) (at : ℕ) (d : Area) (all : List MatchedRange) (shown : ShownRange)
      (filters : List DataFilter) → at < length areas → AreAreasShown how book one (take at areas) all
      → filters ≡ one ∷ [] → IsShownAs how book (get_or areas at d) shown
      → AreAreasShown how book one (take (at + 1) areas)
      (all ++ as_matched filters shown ∷ [])
  area_shown areas at d all shown filters there are filters_are is = record {
    ranges = are.ranges ++ shown ∷ [];
    each = subst (λ areas. AllZip (IsShownAs how book) areas (are.ranges ++ shown ∷ []))
        (sym (take_more areas at d there))
        (zip_more (take at areas) are.ranges (get_or areas at d) shown are.each is);
    all_are = ap (λ before. before ++ as_matched filters shown ∷ []) are.all_are
        ∙ ap (λ filters. map (matched_range one) are.ranges ++ as_matched filters shown ∷ []) filters_are
        ∙ sym (map-append (matched_range one) are.ranges (shown ∷ []));
  }

-- ---- what a filter shows

module _ (project : List ℕ) (how : Showing) (book : PlaceBook) where
  pub filter_refused : (one : DataFilter) (fault : RuleOr) → IsUnlessNoMemory (AreAreasOf project book one) (Err fault)
      → IsUnlessNoMemory (AreFilterShown project how book one) (Err fault)
  filter_refused one (refusal.Rule broken) is = record { areas = Err broken; are = is; tells = refl }
  filter_refused one refusal.NoMemory is = tt

  pub filter_shown : (one : DataFilter) (areas : List Area) (all : List MatchedRange)
      → AreAreasOf project book one (Ok areas)
      → AreAreasShown how book one areas all → AreFilterShown project how book one (Ok all)
  filter_shown one areas all are shown = record { areas = Ok areas; are = are; tells = (all, shown, refl) }

  -- ---- filters, one after another

  module _ (filters : List (Reading DataFilter)) where
    -- the filters before a place show these
    pub record ShownTo (at : ℕ) (all : List MatchedRange) : Type 0 where
      pub parts : List (List MatchedRange)
      pub so_far : SoFar (AreShownBy project how book) filters at parts
      pub all_are : all ≡ flat_map (λ part. part) parts

    pub none_yet : ShownTo 0 []
    none_yet = record { parts = []; so_far = λ rest is. is; all_are = refl }

    module _ (at : ℕ) (all : List MatchedRange) (shown : ShownTo at all) (there : at < length filters)
        (d : Reading DataFilter) where
      pub one_behind : (last : List MatchedRange) → AreShownBy project how book (get_or filters at d) (Ok last)
          → ShownTo (at + 1) (all ++ last)
      one_behind last is =
          let join = flat_map (λ (part : List MatchedRange). part) in
          record {
            parts = shown.parts ++ last ∷ [];
            so_far = one_more (AreShownBy project how book) filters at shown.parts shown.so_far d last there is;
            all_are = ap (λ before. before ++ last) shown.all_are
                ∙ ap (λ more. join shown.parts ++ more) (sym (append-nil last))
                ∙ sym (flat_map-append (λ (part : List MatchedRange). part) shown.parts (last ∷ []));
          }

      pub one_refused : (broken : Rule) → AreShownBy project how book (get_or filters at d) (Err broken)
          → AreAllShown project how book filters (Err (at, broken))
      one_refused broken is = record {
        shown = Err (at, broken);
        each = broken_told (AreShownBy project how book) filters at shown.parts shown.so_far d broken there is;
        told_is = refl;
      }

    pub all_behind : (at : ℕ) (all : List MatchedRange) → ShownTo at all → length filters ≤ at
        → AreAllShown project how book filters (Ok all)
    all_behind at all shown past = record {
      shown = Ok shown.parts;
      each = all_told (AreShownBy project how book) filters at shown.parts shown.so_far past;
      told_is = ap (λ all. Ok all) shown.all_are;
    }
