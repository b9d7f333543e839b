-- What requests for protected ranges have in common (Google Sheets API v4 reference, ProtectedRange). That areas are
-- cut at the grid, and how many protected ranges there can be, is this project's profile.
use Rattle.std.specs.Prelude.{ℕ, false, ◌++◌, nat_lt, List, [], ◌∷◌, map, unwrap_or}
use Rattle.std.specs.List.{list_any}
use Rattle.std.specs.Option.{option_map, option_map_or}
use Rattle.grid_range.specs.declared.area.Area.{Area}
use Rattle.protection.specs.declared.range.ProtectionPatch.{ProtectionPatch}
use Rattle.world_model.specs.Sheet.{PlaceSheet}
use Rattle.world_model.specs.Sound.{place_sheet_with}
use Rattle.dimension_ops.specs.Broken.{Broken, Passes, unbroken}
use Rattle.dimension_ops.specs.declared.rule.Limit.TheVariants as limit
use Rattle.request_kinds.specs.Rows.{broken_by_area, cut_on}

-- ---- the areas that are given

-- the area of a protected range and those of its unprotected ranges, as far as they are given
abbrev pub areas_given : ProtectionPatch → List Area
areas_given patch = option_map_or (λ area. area ∷ []) patch.area [] ++ unwrap_or patch.unprotected []

-- the rules that an area breaks
abbrev pub broken_of : List PlaceSheet → Area → Broken
broken_of sheets area = broken_by_area (place_sheet_with area.sheet sheets) area

-- the rules that one of them breaks
abbrev pub broken_by_areas : List PlaceSheet → List Area → Broken
broken_by_areas sheets areas = record unbroken {
  no_sheet = list_any (λ area. (broken_of sheets area).no_sheet) areas;
  bad_range = list_any (λ area. (broken_of sheets area).bad_range) areas;
  outside_grid = list_any (λ area. (broken_of sheets area).outside_grid) areas;
}

-- an area, cut at the grid of its sheet
abbrev pub area_cut : List PlaceSheet → Area → Area
area_cut sheets area = cut_on (place_sheet_with area.sheet sheets) area

-- the same members, with each area cut
abbrev pub patch_cut : List PlaceSheet → ProtectionPatch → ProtectionPatch
patch_cut sheets patch = record patch {
  area = option_map (area_cut sheets) patch.area;
  unprotected = option_map (map (area_cut sheets)) patch.unprotected;
}

-- ---- how many there are

-- the most protected ranges that a spreadsheet can have
abbrev pub most_protections : ℕ
most_protections = 500

-- so many of them are past that limit
abbrev pub passes_protections : ℕ → Passes
passes_protections count limit.Protections = nat_lt most_protections count
passes_protections count _ = false
