-- Each call that looks at a spreadsheet has an answer, and so has one that empties the cells of a range.
use Rattle.std.proofs.Common.{◌≡◌, inl, inr, ℕ, zero, suc, ◌+◌, ◌-◌, ◌<◌, ◌≤◌, Bool, true, false, List, [], ◌∷◌, length, map, get_or, refl, ap, sym, subst, ◌∙◌, arith}
use Rattle.std.specs.Prelude.{IsTrue, Option, Some, None, unwrap_or, flat_map, Result, Ok, Err, IfOk, IfSome, IsSomeAnd}
use Rattle.std.specs.List.{All, AllZip, range_with_len}
use Rattle.std.specs.Option.{IsSome, option_map_or}
use Rattle.std.proofs.lemmas.Bool.{false≢true, cases_lt}
use Rattle.std.proofs.lemmas.List.Elements.{All-cons, All-head, All-nil, All-tail}
use Rattle.std.proofs.lemmas.List.FromFn.{length-map-range_with_len, get_or-map-range_with_len}
use Rattle.basic_filter.specs.Hiding.{hides}
use Rattle.basic_filter.specs.declared.types.Criterion.{Criterion}
use Rattle.basic_filter.specs.declared.types.Filter.{Filter}
use Rattle.cell_value.specs.declared.cell.Cell.{Cell}
use Rattle.cell_value.specs.declared.cell.Render.{Render}
use Rattle.cell_value.specs.declared.cell.Value.{Value}
use Rattle.grid_range.specs.Area.{AreaWithin, cut_area}
use Rattle.grid_range.specs.declared.area.Area.{Area}
use Rattle.grid_range.specs.declared.axis.Axis.{Axis}
use Rattle.dev_metadata.specs.Listed.{AreIdsInOrder, found, found_by_some}
use Rattle.dev_metadata.specs.Order.{HaveOrder}
use Rattle.cell_calc.specs.Book.{Place}
use Rattle.cell_calc.specs.Calculated.{IsValueIn}
use Rattle.world_model.specs.Book.{PlaceBook}
use Rattle.world_model.specs.BookChange.{BookChange}
use Rattle.world_model.specs.ChangingLaws.{ChangesInTurn, UpdatesAreChanges}
use Rattle.world_model.specs.Sheet.{PlaceSheet}
use Rattle.world_model.specs.Sound.{IsItemWithin, IsSound, place_sheet_with}
use Rattle.dimension_ops.specs.Broken.{first_broken}
use Rattle.dimension_ops.specs.World.{book_with}
use Rattle.dimension_ops.specs.declared.rule.Rule.{Rule}
use Rattle.values_api.specs.Answered.{AreasEmpty, ReadsAnswered}
use Rattle.values_api.specs.DenialLaws.{some_denial}
use Rattle.values_api.specs.Denials.{AreaCells, unless_denied}
use Rattle.values_api.specs.Ranges.{FoundArea, IsThere, Resolves}
use Rattle.values_api.specs.Sheets.{stored_in}
use Rattle.values_api.specs.Shown.{IsAreaShown}
use Rattle.values_api.specs.Updates.{cleared}
use Rattle.json_requests.specs.declared.request.DataFilter.{DataFilter}
use Rattle.json_requests.specs.declared.request.DataFilter.TheVariants as data_filter
use Rattle.json_requests.specs.declared.request.MetadataLookup.{MetadataLookup}
use Rattle.json_shapes.specs.Reading.{Reading}
use Rattle.sheets_json.specs.declared.answer.Answer.{Answer}
use Rattle.sheets_json.specs.declared.answer.Answer.TheVariants as answer
use Rattle.sheets_json.specs.declared.answer.MatchedRange.{MatchedRange}
use Rattle.sheets_json.specs.declared.answer.ShownRange.{ShownRange}
use Rattle.sheets_json.specs.declared.call.Call.{Call}
use Rattle.sheets_json.specs.declared.call.Call.TheVariants as call
use Rattle.sheets_json.specs.declared.place.Place.TheVariants as place
use Rattle.sheets_json.specs.declared.spreadsheet.DimensionProperties.{DimensionProperties}
use Rattle.sheets_json.specs.declared.spreadsheet.GridData.{GridData}
use Rattle.values_api.specs.FoundLaws.{some_and}
use Rattle.request_kinds.specs.Metadata.{broken_by_lookups, items_seen, lookup_of, lookups_of}
use Rattle.request_kinds.specs.Rows.{area_or_broken, broken_by_area, cut_or_broken}
use Rattle.request_kinds.specs.TellingLaws.{update_made}
use Rattle.batch_engine.specs.Answered.{HasNoAnswer, LooksAnswered, looks_or_clears}
use Rattle.batch_engine.specs.Calls.{HasItsBook, IsAlone, IsAnswered, IsClearManyOf, IsClearOf, IsItemOf, IsLookOf, IsReadFilteredOf, IsReadManyOf, IsReadOf, IsSearchOf, OnBook, Refusal, alone, answered_at, answered_by}
use Rattle.batch_engine.specs.Effects.{Effect}
use Rattle.batch_engine.specs.Effects.Effect.{Nothing}
use Rattle.batch_engine.specs.Filtered.{AreAreasLookedUp, AreAreasOf, AreFilterShown, AreShownBy, IsShownAs, Showing, alone_or_broken, area_found, areas_of_items, matched_range}
use Rattle.batch_engine.specs.HiddenRows.{AreRowsTold, IsAskedValue, IsHidden, IsHiddenIf, can_hide, is_told_hidden, row_told}
use Rattle.batch_engine.specs.Looks.{IsGridShown, spreadsheet_with, with_rows}
use Rattle.batch_engine.specs.MadeLaws.{CanBeMade, no_on_range, some_alone, some_made, some_made_alone, some_sound}
use Rattle.batch_engine.specs.Members.{InOrder, ToldOfAll, with_first}
use Rattle.batch_engine.specs.Searches.{asked_or_broken, item_told, search_answer}
use Rattle.batch_engine.specs.Values.{IsClear, IsCleared, IsRead, IsShown, axis_or_rows, clear, is_columns, render_or_formatted, rule_of, shown_range}
use Rattle.batch_engine.specs.declared.calls.Caller.{Caller}
use Rattle.batch_engine.proofs.Filtering.{items_there, seen_hold}
use Rattle.batch_engine.proofs.HiddenRows.{behind_last}
use Rattle.batch_engine.proofs.Once.{found_sound}

-- ---- parts of calls

-- a sheet is there
found_there : (sheet : Option PlaceSheet) → IsSome sheet → IsSomeAnd sheet (λ sheet. Unit {0})
found_there None some = absurd (false≢true some)
found_there (Some sheet) some = tt

-- members in order: one before others
some_then : {M A : Type 0} (Is : M → Result A Rule → Type 0) (at : ℕ) (member : M) (members : List M)
    → ¬ ((told : ToldOfAll A) → ¬ (InOrder Is (at + 1) members told))
    → ((told : ToldOfAll A) → ¬ (InOrder Is at (member ∷ members) told)) → (one : Result A Rule) → ¬ (Is member one)
some_then Is at member members later none (Ok first) is =
    later (λ rest are. none (with_first first rest) (Ok first, is, (rest, are, refl)))
some_then Is at member members later none (Err broken) is = none (Err (at, broken)) (Err broken, is, refl)

some_in_order : {M A : Type 0} (Is : M → Result A Rule → Type 0)
    → ((member : M) → ¬ ((one : Result A Rule) → ¬ (Is member one))) → (at : ℕ) (members : List M)
    → ¬ ((told : ToldOfAll A) → ¬ (InOrder Is at members told))
some_in_order Is each at [] none = none (Ok []) refl
some_in_order Is each at (member ∷ members) none =
    each member (some_then Is at member members (some_in_order Is each (at + 1) members) none)

-- ---- rows that filters hide

module _ (book : PlaceBook) (values : Place → Value)
    (are : (place : Place) → IsValueIn (stored_in book) place (values place)) (sheet : PlaceSheet) where
  -- the value of a row's cell in the column of a criterion
  abbrev asked_value : ℕ → Criterion → Value
  asked_value row criterion = values (record { sheet = sheet.id; row = row; column = criterion.column })

  asked_values : (row : ℕ) (criteria : List Criterion)
      → AllZip (IsAskedValue book sheet.id row) criteria (map (asked_value row) criteria)
  asked_values row [] = tt
  asked_values row (criterion ∷ criteria) =
      (are (record { sheet = sheet.id; row = row; column = criterion.column }), asked_values row criteria)

  -- whether a row is hidden
  abbrev hidden_if : Bool → ℕ → List Criterion → Bool
  hidden_if true row criteria = hides criteria (map (asked_value row) criteria)
  hidden_if false row criteria = false

  abbrev hidden_at : Option Filter → ℕ → Bool
  hidden_at None row = false
  hidden_at (Some given) row = hidden_if (can_hide sheet given row) row given.criteria

  is_hidden_if : (b : Bool) (row : ℕ) (criteria : List Criterion)
      → IsHiddenIf b book sheet.id row criteria (hidden_if b row criteria)
  is_hidden_if true row criteria = record {
    values = map (asked_value row) criteria;
    asked = asked_values row criteria;
    hidden_is = refl;
  }
  is_hidden_if false row criteria = refl

  is_hidden : (given : Option Filter) (row : ℕ) → IsHidden book sheet given row (hidden_at given row)
  is_hidden None row = refl
  is_hidden (Some given) row = is_hidden_if (can_hide sheet given row) row given.criteria

  module _ (given : Option Filter) where
    -- how many of the first rows are told: those up to the last one that is hidden
    record IsLast (rows last : ℕ) : Type 0 where
      few : last ≤ rows
      hidden : 0 < last → hidden_at given (last - 1) ≡ true
      behind : (row : ℕ) → last ≤ row → row < rows → hidden_at given row ≡ false

    some_last : (rows : ℕ) → (last : ℕ) × IsLast rows last
    some_last zero = (
      0,
      record {
        few = omega arith;
        hidden = λ some. absurd (let no : ⊥ = omega (arith, some) in no);
        behind = λ row from there. absurd (let no : ⊥ = omega (arith, there) in no);
      },
    )
    some_last (suc rows) = by_row (hidden_at given rows) refl (some_last rows)
      where
        by_row : (b : Bool) → hidden_at given rows ≡ b → (last : ℕ) × IsLast rows last
            → (last : ℕ) × IsLast (suc rows) last
        by_row true is (last, so_far) = (
          suc rows,
          record {
            few = omega arith;
            hidden = λ some.
                let last_is : rows ≡ suc rows - 1 = omega arith in subst (λ n. hidden_at given n ≡ true) last_is is;
            behind = λ row from there. absurd (let no : ⊥ = omega (arith, from, there) in no);
          },
        )
        by_row false is (last, so_far) = (
          last,
          record {
            few = let few = so_far.few in omega (arith, few);
            hidden = so_far.hidden;
            behind = λ row from there. elim (cases_lt row rows) [
              | inl below ↦ so_far.behind row from below
              | inr above ↦
                  let same : rows ≡ row = omega (arith, above, there) in
                  subst (λ n. hidden_at given n ≡ false) same is
            ];
          },
        )

    -- what is told of the first rows
    abbrev told_of_rows : ℕ → List DimensionProperties
    told_of_rows last = map (λ row. row_told (hidden_at given row)) (range_with_len 0 last)

    as_many : (last : ℕ) → length (told_of_rows last) ≡ last
    as_many last = length-map-range_with_len (λ row. row_told (hidden_at given row)) 0 last

    told_there : (last row : ℕ) → row < last → is_told_hidden (told_of_rows last) row ≡ hidden_at given row
    told_there last row there =
        ap (λ (one : DimensionProperties). one.hidden_by_filter)
        (get_or-map-range_with_len (λ row. row_told (hidden_at given row)) 0 last row row (row_told false) there
        (omega arith))

    rows_told : (last : ℕ) → IsLast sheet.table.rows last → AreRowsTold book sheet given (told_of_rows last)
    rows_told last is = record {
      few = let few = is.few in let many = as_many last in omega (arith, few, many);
      each = λ row there. elim (cases_lt row last) [
        | inl before ↦
            subst (IsHidden book sheet given row) (sym (told_there last row before)) (is_hidden given row)
        | inr behind ↦
            subst (IsHidden book sheet given row)
            (is.behind row behind there
            ∙ sym (behind_last (told_of_rows last) row (let many = as_many last in omega (arith, many, behind))))
            (is_hidden given row)
      ];
      last_hidden = λ some.
          let many = as_many last in
          subst (λ n. is_told_hidden (told_of_rows last) (n - 1) ≡ true) (sym many)
          (told_there last (last - 1) (omega (arith, some, many)) ∙ is.hidden (omega (arith, some, many)));
    }

-- what is known of the rows of each sheet
module _ (book : PlaceBook) (values : Place → Value)
    (are : (place : Place) → IsValueIn (stored_in book) place (values place)) where
  some_grid : (wanted : Bool) (sheet : PlaceSheet) → (grid : Option GridData) × IsGridShown wanted book sheet grid
  some_grid false sheet = (None, refl)
  some_grid true sheet =
      let (last, is) = some_last book values are sheet sheet.filter sheet.table.rows in
      let rows = told_of_rows book values are sheet sheet.filter last in
      (with_rows rows, (rows, rows_told book values are sheet sheet.filter last is, refl))

  some_grids : (wanted : Bool) (sheets : List PlaceSheet)
      → (grids : List (Option GridData)) × AllZip (IsGridShown wanted book) sheets grids
  some_grids wanted [] = ([], tt)
  some_grids wanted (sheet ∷ sheets) =
      let (grid, is) = some_grid wanted sheet in
      let (grids, all) = some_grids wanted sheets in
      (grid ∷ grids, (is, all))

-- ---- what areas show

module _ (reads : ReadsAnswered) (order : HaveOrder) (book : PlaceBook) (sound : IsSound book) where
  -- the area's sheet is there
  abbrev IsHere : Area → Type 0
  IsHere area = IsSome (place_sheet_with area.sheet book.sheets)

  some_read : (dimension : Option Axis) (render : Option Render) (one : FoundArea) (sheet : PlaceSheet)
      → ¬ ((told : Result ShownRange Rule) → ¬ (IsRead book dimension render one sheet told))
  some_read dimension render one sheet none =
      reads.shown book one.0 (is_columns (axis_or_rows dimension)) (render_or_formatted render) sheet sound
      (λ lines are. none (Ok (shown_range (axis_or_rows dimension) one.0 sheet lines))
      (record { lines = lines; shown = are; told_is = refl }))

  some_shown : (dimension : Option Axis) (render : Option Render) (range : List ℕ)
      → ¬ ((told : Result ShownRange Rule) → ¬ (IsShown dimension render book range told))
  some_shown dimension render range none =
      no_on_range (Resolves range book) book.sheets (IsRead book dimension render) (λ told. Unit {0})
      (λ one sheet. Unit {0}) (reads.resolves range book)
      (λ one names. found_there (place_sheet_with one.0.sheet book.sheets) (reads.there range book one sound names))
      (λ broken. tt) (λ one sheet at here none. some_read dimension render one sheet (λ told is. none told is tt))
      (λ told is holds. none told is)

  some_shown_as : (how : Showing) (area : Area) → IsHere area
      → ¬ ((shown : ShownRange) → ¬ (IsShownAs how book area shown))
  some_shown_as how area = on_sheet (place_sheet_with area.sheet book.sheets)
    where
      on_sheet : (sheet : Option PlaceSheet) → IsSome sheet
          → ¬ ((shown : ShownRange) → ¬ (IsSomeAnd sheet (λ sheet.
          (lines : List (List Cell))
          × IsAreaShown book area (is_columns (axis_or_rows how.dimension)) (render_or_formatted how.render) sheet lines
          × (shown ≡ shown_range (axis_or_rows how.dimension) area sheet lines))))
      on_sheet None some none = false≢true some
      on_sheet (Some sheet) some none =
          reads.shown book area (is_columns (axis_or_rows how.dimension)) (render_or_formatted how.render) sheet sound
          (λ lines are. none (shown_range (axis_or_rows how.dimension) area sheet lines) (lines, are, refl))

  all_shown_as : (how : Showing) (areas : List Area) → All IsHere areas
      → ¬ ((ranges : List ShownRange) → ¬ (AllZip (IsShownAs how book) areas ranges))
  all_shown_as how [] here none = none [] tt
  all_shown_as how (area ∷ areas) here none =
      some_shown_as how area (All-head IsHere area areas here) (λ shown is.
      all_shown_as how areas (All-tail IsHere area areas here) (λ ranges are.
      none (shown ∷ ranges) (is, are)))

  -- ---- filters

  there_here : (area : Area) → IsThere book.sheets area → IsHere area
  there_here area there =
      let (sheet, is, within) = some_and (λ (sheet : PlaceSheet). AreaWithin area sheet.table.rows sheet.table.cols)
      (place_sheet_with area.sheet book.sheets) there in subst IsSome (sym is) refl

  cut_here : (area : Area) (sheet : Option PlaceSheet) → place_sheet_with area.sheet book.sheets ≡ sheet
      → IfOk (cut_or_broken sheet area) IsHere
  cut_here area None is = tt
  cut_here area (Some sheet) is = by_rule (first_broken (broken_by_area (Some sheet) area))
    where
      by_rule : (broken : Option Rule)
          → IfOk (option_map_or Err broken (Ok (cut_area area sheet.table.rows sheet.table.cols))) IsHere
      by_rule None = subst IsSome (sym is) refl
      by_rule (Some broken) = tt

  -- the areas are of sheets that are there
  abbrev AreHere : Result (List Area) Rule → Type 0
  AreHere areas = IfOk areas (All IsHere)

  one_here : (area : Result Area Rule) → IfOk area IsHere → AreHere (alone_or_broken area)
  one_here (Ok area) here = All-cons IsHere area [] here (All-nil IsHere)
  one_here (Err broken) here = tt

  found_here : (text : List ℕ) (one : Result FoundArea Rule) → Resolves text book one → IfOk (area_found one) IsHere
  found_here text (Ok one) names = reads.there text book one sound names
  found_here text (Err broken) names = tt

  module _ (project : List ℕ) where
    some_looked_up : (asked : MetadataLookup) (broken : Option Rule)
        → ¬ ((areas : Result (List Area) Rule) → AreAreasLookedUp project asked book broken areas → ¬ (AreHere areas))
    some_looked_up asked None none =
        let (ids, in_order) = order (found (lookup_of asked) project book.metadata) in
        let areas = areas_of_items (items_seen project ids book.metadata) in
        let all = items_there book.sheets (items_seen project ids book.metadata)
        (seen_hold project (IsItemWithin book.sheets) book.metadata sound.metadata ids) in
        none (Ok areas) (record { ids = ids; in_order = in_order; areas_are = refl })
        (λ k d there. there_here (get_or areas k d) (all k d there))
    some_looked_up asked (Some broken) none = none (Err broken) refl tt

    some_areas : (given : DataFilter)
        → ¬ ((areas : Result (List Area) Rule) → AreAreasOf project book given areas → ¬ (AreHere areas))
    some_areas (data_filter.DeveloperMetadataLookup asked) none =
        some_looked_up asked (first_broken (broken_by_lookups book.sheets (asked ∷ []))) none
    some_areas (data_filter.A1Range text) none = reads.resolves text book (λ one names.
        none (alone_or_broken (area_found one)) (one, names, refl)
        (one_here (area_found one) (found_here text one names)))
    some_areas (data_filter.GridRange area) none =
        none (alone_or_broken (area_or_broken book.sheets area)) refl
        (one_here (area_or_broken book.sheets area) (cut_here area (place_sheet_with area.sheet book.sheets) refl))

    some_filtered : (how : Showing) (given : DataFilter)
        → ¬ ((told : Result (List MatchedRange) Rule) → ¬ (AreFilterShown project how book given told))
    some_filtered how given none = some_areas given by_areas
      where
        by_areas : (areas : Result (List Area) Rule) → AreAreasOf project book given areas → ¬ (AreHere areas)
        by_areas (Ok areas) are here = all_shown_as how areas here (λ ranges each.
            let all = map (matched_range given) ranges in
            none (Ok all) (record {
              areas = Ok areas;
              are = are;
              tells = (all, record { ranges = ranges; each = each; all_are = refl }, refl);
            }))
        by_areas (Err broken) are here =
            none (Err broken) (record { areas = Err broken; are = are; tells = refl })

    some_shown_by : (how : Showing) (given : Reading DataFilter)
        → ¬ ((told : Result (List MatchedRange) Rule) → ¬ (AreShownBy project how book given told))
    some_shown_by how (Ok given) none = some_filtered how given none
    some_shown_by how (Err shape) none = none (Err (rule_of shape)) refl

  -- ---- calls

  some_look : (user : List ℕ) (grids : Option Bool) → ¬ (HasNoAnswer (IsLookOf user grids book))
  some_look user grids none = reads.valued book sound (λ values are.
      let (rows, each) = some_grids book values are (unwrap_or grids false) book.sheets in
      let shown = spreadsheet_with user book rows in
      none (Ok (answer.Get shown)) Nothing (record {
        shown = shown;
        is = record { grids = rows; each = each; shown_is = refl };
        told_is = refl;
        nothing = refl;
      }))

  some_read_of : (range : List ℕ) (dimension : Option Axis) (render : Option Render)
      → ¬ (HasNoAnswer (IsReadOf range dimension render book))
  some_read_of range dimension render none = some_shown dimension render range (λ one is.
      none (answered_by answer.Read one) Nothing (record { one = one; is = is; told_is = refl; nothing = refl }))

  some_read_many : (ranges : List (List ℕ)) (dimension : Option Axis) (render : Option Render)
      → ¬ (HasNoAnswer (IsReadManyOf ranges dimension render book))
  some_read_many ranges dimension render none =
      some_in_order (IsShown dimension render book) (some_shown dimension render) 0 ranges (λ shown each.
      none (answered_at place.Ranges (λ all. answer.ReadMany book.id all) shown) Nothing
      (record { shown = shown; each = each; told_is = refl; nothing = refl }))

  some_read_filtered : (project : List ℕ) (filters : List (Reading DataFilter)) (how : Showing)
      → ¬ (HasNoAnswer (IsReadFilteredOf project filters how book))
  some_read_filtered project filters how none =
      some_in_order (AreShownBy project how book) (some_shown_by project how) 0 filters (λ shown each.
      none (answered_at place.Filters (λ all. answer.ReadFiltered book.id (flat_map (λ part. part) all)) shown) Nothing
      (record { shown = shown; each = each; told_is = refl; nothing = refl }))

  module _ (empty : AreasEmpty) (updates : UpdatesAreChanges) (user : List ℕ) where
    can_clear : (one : FoundArea) (sheet : PlaceSheet) → place_sheet_with one.0.sheet book.sheets ≡ Some sheet
        → (denied : Option ℕ) → CanBeMade book (unless_denied denied (Ok (clear one sheet)))
    can_clear one sheet at None =
        let (after, updated) = empty book one.0 sound (subst IsSome (sym at) refl) in
        (after, update_made updates one.0.sheet (cleared one.0) book after updated)
    can_clear one sheet at (Some id) = tt

    some_cleared : (range : Reading (List ℕ))
        → ¬ ((told : Result (List ℕ × List BookChange) Rule) → IsCleared user book range told → ¬ (CanBeMade book told))
    some_cleared (Ok range) none =
        no_on_range (Resolves range book) book.sheets (IsClear user book) (CanBeMade book)
        (λ one sheet. Unit {0}) (reads.resolves range book)
        (λ one names. found_there (place_sheet_with one.0.sheet book.sheets) (reads.there range book one sound names))
        (λ broken. tt)
        (λ one sheet at here nothing. some_denial user book (AreaCells book.sheets one.0) (λ denied is_denied.
        nothing (unless_denied denied (Ok (clear one sheet))) (record {
          denied = denied;
          is_denied = is_denied;
          done = Ok (clear one sheet);
          is = refl;
          told_is = refl;
        }) (can_clear one sheet at denied))) none
    some_cleared (Err shape) none = none (Err (rule_of shape)) refl tt

    some_clear : (range : List ℕ) → ¬ (HasNoAnswer (IsClearOf user range book))
    some_clear range =
        some_made_alone (IsCleared user book (Ok range)) (λ text. answer.Clear text book.id) book
        (some_cleared (Ok range))

  -- the ids that a search finds
  searched : (project : List ℕ) (asked : ToldOfAll MetadataLookup)
      → (ids : List ℕ) × IfOk asked (λ all. AreIdsInOrder (found_by_some (lookups_of all) project book.metadata) ids)
  searched project (Ok all) = order (found_by_some (lookups_of all) project book.metadata)
  searched project (Err broken) = ([], tt)

  some_search : (project : List ℕ) (filters : List (Reading MetadataLookup))
      → ¬ (HasNoAnswer (IsSearchOf project filters book))
  some_search project filters none =
      some_in_order (λ given one. one ≡ asked_or_broken book.sheets given)
      (λ given none. none (asked_or_broken book.sheets given) refl) 0 filters (λ asked each.
      let (ids, in_order) = searched project asked in
      none (answered_at place.Filters (search_answer project ids book) asked) Nothing (record {
        asked = asked;
        ids = ids;
        searched = record { each = each; in_order = in_order };
        told_is = refl;
        nothing = refl;
      }))

-- ---- spreadsheets

module _ (Answered : PlaceBook → Result Answer Refusal → Effect → Type 0)
    (each : (book : PlaceBook) → IsSound book → ¬ (HasNoAnswer (Answered book))) where
  some_on : (found : Option PlaceBook) → IsSome found → IfSome found IsSound
      → ¬ (HasNoAnswer (λ told effect. IsSomeAnd found (λ book. Answered book told effect)))
  some_on None some sound = absurd (false≢true some)
  some_on (Some book) some sound = each book sound

module _ (reads : ReadsAnswered) (order : HaveOrder) (empty : AreasEmpty) (updates : UpdatesAreChanges)
    (turns : ChangesInTurn) (caller : Caller) (books : List PlaceBook) (sound : All IsSound books)
  where
    on_book : (id : List ℕ) (Answered : PlaceBook → Result Answer Refusal → Effect → Type 0)
        → ((book : PlaceBook) → IsSound book → ¬ (HasNoAnswer (Answered book))) → IsSome (book_with id books)
        → ¬ (HasNoAnswer (λ told effect. OnBook id books (λ book. Answered book told effect)))
    on_book id Answered each some = some_on Answered each (book_with id books) some (found_sound id books sound)

    some_answered : (called : Call) → IsTrue (looks_or_clears called) → HasItsBook called books
        → ¬ (HasNoAnswer (IsAnswered caller called books))
    some_answered (call.Get id grids) is has =
        on_book id (IsLookOf caller.user grids)
        (λ book sound. some_look reads order book sound caller.user grids) has
    some_answered (call.Read id range dimension render) is has =
        on_book id (λ book. IsAlone (IsReadOf range dimension render book))
        (λ book sound. some_alone (IsReadOf range dimension render book)
        (some_read_of reads order book sound range dimension render)) has
    some_answered (call.Clear id range) is has =
        on_book id (λ book. IsAlone (IsClearOf caller.user range book))
        (λ book sound. some_alone (IsClearOf caller.user range book)
        (some_clear reads order book sound empty updates caller.user range)) has
    some_answered (call.ReadMany id ranges dimension render) is has =
        on_book id (IsReadManyOf ranges dimension render)
        (λ book sound. some_read_many reads order book sound ranges dimension render) has
    some_answered (call.ClearMany id ranges) is has =
        on_book id (IsClearManyOf caller.user ranges)
        (λ book sound. some_made IsSound (IsCleared caller.user)
        (λ book sound range. some_sound turns book sound (IsCleared caller.user book range)
        (some_cleared reads order book sound empty updates caller.user range)) ranges place.Ranges
        (λ texts. answer.ClearMany texts book.id) book sound) has
    some_answered (call.ReadFiltered id filters dimension render) is has =
        on_book id (IsReadFilteredOf caller.project filters (record { dimension = dimension; render = render }))
        (λ book sound. some_read_filtered reads order book sound caller.project filters
        (record { dimension = dimension; render = render })) has
    some_answered (call.Item id item) is has =
        on_book id (IsItemOf caller.project item)
        (λ book sound none. none (alone (item_told caller.project item book)) Nothing (refl, refl)) has
    some_answered (call.Search id filters) is has =
        on_book id (IsSearchOf caller.project filters)
        (λ book sound. some_search reads order book sound caller.project filters) has
    some_answered (call.Create spreadsheet) is has = absurd (false≢true is)
    some_answered (call.Batch id requests) is has = absurd (false≢true is)
    some_answered (call.Write id range mode values) is has = absurd (false≢true is)
    some_answered (call.Append id range mode option values) is has = absurd (false≢true is)
    some_answered (call.WriteMany id mode blocks) is has = absurd (false≢true is)

pub looks_answered : ReadsAnswered → HaveOrder → AreasEmpty → UpdatesAreChanges → ChangesInTurn → LooksAnswered
looks_answered reads order empty updates turns = record {
  answered = λ caller called books sound. some_answered reads order empty updates turns caller books sound called;
}
