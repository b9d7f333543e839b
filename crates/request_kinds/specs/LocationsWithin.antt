-- Laws of locations that break no rule: they are within the spreadsheet.
use Rattle.std.proofs.Common.{◌≡◌, ◌+◌, ◌<◌, ◌≤◌, ℕ, Bool, false, refl, List, get_or, arith}
use Rattle.std.specs.Prelude.{◌==◌, not, nat_lt, Option, None, Some, IsSomeAnd}
use Rattle.std.specs.List.{All, list_any}
use Rattle.std.specs.Option.{IsSome, is_none, option_map_or}
use Rattle.std.proofs.lemmas.Bool.{both_ways, eqb-true, false_from_ne_true, ltb-false, not-false, true≢false}
use Rattle.std.proofs.lemmas.List.Folds.{list_any_at}
use Rattle.cell_store.specs.Moved.{lines_on}
use Rattle.grid_range.specs.declared.axis.Axis.{Axis}
use Rattle.world_model.specs.Sheet.{PlaceSheet}
use Rattle.world_model.specs.Sound.{IsSpotWithin, place_sheet_with}
use Rattle.dimension_ops.specs.Lines.{lines_of_sheet}
use Rattle.json_requests.specs.declared.request.Location.{Location}
use Rattle.json_requests.specs.declared.request.Location.TheVariants as location
use Rattle.request_kinds.specs.Dimensions.{end_of}
use Rattle.request_kinds.specs.Metadata.{broken_by_location, broken_by_locations, spot_of}

-- ---- one location

sheet_is_there : (found : Option PlaceSheet) → is_none found ≡ false → IsSome found
sheet_is_there None there = absurd (true≢false there)
sheet_is_there (Some sheet) there = refl

line_is_there : (axis : Axis) (start end : ℕ) (found : Option PlaceSheet) → is_none found ≡ false
    → not (end == start + 1) ≡ false → nat_lt (option_map_or (lines_of_sheet axis) found 0) end ≡ false
    → IsSomeAnd found (λ sheet. start < lines_on axis sheet.table.rows sheet.table.cols)
line_is_there axis start end None there one within = absurd (true≢false there)
line_is_there axis start end (Some sheet) there one within =
    let alone : end ≡ start + 1 = eqb-true end (start + 1) (not-false (end == start + 1) one) in
    let inside : end ≤ lines_on axis sheet.table.rows sheet.table.cols =
    ltb-false (lines_on axis sheet.table.rows sheet.table.cols) end within in
    omega (arith, alone, inside)

-- a location that breaks no rule is there
pub spot_within : (sheets : List PlaceSheet) (one : Location) → (broken_by_location sheets one).no_sheet ≡ false
    → (broken_by_location sheets one).bad_range ≡ false → (broken_by_location sheets one).outside_grid ≡ false
    → IsSpotWithin sheets (spot_of one)
spot_within sheets location.Spreadsheet there one within = tt
spot_within sheets (location.Sheet id) there one within = sheet_is_there (place_sheet_with id sheets) there
spot_within sheets (location.DimensionRange range) there one within =
    line_is_there range.dimension range.start_index (end_of range sheets)
    (place_sheet_with range.sheet_id sheets) there one
    within

-- ---- locations

-- what none passes each fails
each_fails : {A : Type 0} (test : A → Bool) (all : List A) → list_any test all ≡ false
    → All (λ one. test one ≡ false) all
each_fails test all none at d there =
    false_from_ne_true (test (get_or all at d))
    (λ passes. both_ways (list_any test all) none (list_any_at test all at d there passes))

-- each of several that break none is there
pub spots_within : (sheets : List PlaceSheet) (all : List Location) → (broken_by_locations sheets all).no_sheet ≡ false
    → (broken_by_locations sheets all).bad_range ≡ false → (broken_by_locations sheets all).outside_grid ≡ false
    → All (λ one. IsSpotWithin sheets (spot_of one)) all
spots_within sheets all there one within at d below =
    spot_within sheets (get_or all at d)
    (each_fails (λ one. (broken_by_location sheets one).no_sheet) all there at d below)
    (each_fails (λ one. (broken_by_location sheets one).bad_range) all one at d below)
    (each_fails (λ one. (broken_by_location sheets one).outside_grid) all within at d below)
