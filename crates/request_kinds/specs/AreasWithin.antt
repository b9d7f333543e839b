-- Laws of areas that break no rule: each, cut at the grid of its sheet, is within it.
use Rattle.std.proofs.Common.{◌≡◌, ◌<◌, ℕ, Bool, true, false, ◌||◌, ◌&&◌, refl, sym, subst, ◌∙◌, List, [], ◌∷◌, ◌++◌, arith}
use Rattle.std.specs.Prelude.{Option, None, Some, not, nat_lt, map, IsSomeAnd, IfSome, unwrap_or}
use Rattle.std.specs.List.{All, AllByRecursion, list_any}
use Rattle.std.specs.Option.{is_none, option_map, option_map_or}
use Rattle.std.proofs.lemmas.Bool.{ltb-true, or_parts, true≢false}
use Rattle.std.proofs.lemmas.Bool.Decides.{nat_tests}
use Rattle.std.proofs.lemmas.List.Elements.{All-from_recursion}
use Rattle.std.proofs.lemmas.List.Folds.{list_any-append}
use Rattle.grid_range.specs.Area.{AreaWithin, cut_area}
use Rattle.grid_range.specs.Band.{Within, cut_band, first_line}
use Rattle.grid_range.specs.declared.area.Area.{Area}
use Rattle.grid_range.specs.declared.band.Band.{Band}
use Rattle.grid_range.specs.declared.band.Band.TheVariants.{Whole, From, Span}
use Rattle.protection.specs.declared.range.ProtectionPatch.{ProtectionPatch}
use Rattle.world_model.specs.Sheet.{PlaceSheet}
use Rattle.world_model.specs.Sound.{IsOnSheet, place_sheet_with}
use Rattle.dimension_ops.specs.ProtectionRequests.{IsPatchWithin}
use Rattle.request_kinds.specs.Protections.{area_cut, areas_given, broken_by_areas, broken_of, patch_cut}
use Rattle.request_kinds.specs.Rows.{begins_on, cut_on, is_reversed}

-- ---- one area

band_within : (band : Band) (count : ℕ) → is_reversed band ≡ false → nat_lt (first_line band) count ≡ true
    → Within (cut_band band count) count
band_within Whole count kept begins = tt
band_within (From start) count kept begins = ltb-true start count begins
band_within (Span start end) count kept begins =
    let below = ltb-true start count begins in
    let ordered : start < end = grind (arith, nat_tests) in
    (omega arith, omega arith)

both : (one other : Bool) → not (one && other) ≡ false → (one ≡ true) × (other ≡ true)
both true true is = (refl, refl)
both true false is = absurd (true≢false is)
both false other is = absurd (true≢false is)

-- an area that begins on a sheet, cut at its grid, is within it
pub area_within : (sheet : PlaceSheet) (area : Area) → (is_reversed area.rows || is_reversed area.cols) ≡ false
    → not (begins_on area sheet) ≡ false
    → AreaWithin (cut_area area sheet.table.rows sheet.table.cols) sheet.table.rows sheet.table.cols
area_within sheet area kept begins =
    let turned = or_parts (is_reversed area.rows) (is_reversed area.cols) kept in
    let there = both (nat_lt (first_line area.rows) sheet.table.rows) (nat_lt (first_line area.cols) sheet.table.cols)
    begins in (
      band_within area.rows sheet.table.rows turned.0 there.0,
      band_within area.cols sheet.table.cols turned.1 there.1,
    )

found_within : (found : Option PlaceSheet) (area : Area) → is_none found ≡ false
    → (is_reversed area.rows || is_reversed area.cols) ≡ false
    → option_map_or (λ sheet. not (begins_on area sheet)) found false ≡ false
    → IsSomeAnd found (λ sheet. AreaWithin (cut_on found area) sheet.table.rows sheet.table.cols)
found_within None area there kept begins = absurd (true≢false there)
found_within (Some sheet) area there kept begins = area_within sheet area kept begins

cut_sheet : (found : Option PlaceSheet) (area : Area) → (cut_on found area).sheet ≡ area.sheet
cut_sheet None area = refl
cut_sheet (Some sheet) area = refl

module _ (sheets : List PlaceSheet) where
  -- none of the areas breaks a rule
  pub record AreUnbroken (areas : List Area) : Type 0 where
    pub no_sheet : (broken_by_areas sheets areas).no_sheet ≡ false
    pub bad_range : (broken_by_areas sheets areas).bad_range ≡ false
    pub outside_grid : (broken_by_areas sheets areas).outside_grid ≡ false

  -- one that breaks none is on a sheet that is there
  pub on_sheet : (area : Area) → (broken_of sheets area).no_sheet ≡ false → (broken_of sheets area).bad_range ≡ false
      → (broken_of sheets area).outside_grid ≡ false → IsOnSheet sheets (area_cut sheets area)
  on_sheet area there kept begins =
      subst (λ id. IsSomeAnd (place_sheet_with id sheets)
      (λ (sheet : PlaceSheet). AreaWithin (area_cut sheets area) sheet.table.rows sheet.table.cols))
      (sym (cut_sheet (place_sheet_with area.sheet sheets) area))
      (found_within (place_sheet_with area.sheet sheets) area there kept begins)

  -- ---- several

  parts : (breaks : Area → Bool) (one other : List Area) → list_any breaks (one ++ other) ≡ false
      → (list_any breaks one ≡ false) × (list_any breaks other ≡ false)
  parts breaks one other is =
      or_parts (list_any breaks one) (list_any breaks other) (sym (list_any-append breaks one other) ∙ is)

  each_part : (one other : List Area) → AreUnbroken (one ++ other) → AreUnbroken one × AreUnbroken other
  each_part one other are =
      let there = parts (λ area. (broken_of sheets area).no_sheet) one other are.no_sheet in
      let kept = parts (λ area. (broken_of sheets area).bad_range) one other are.bad_range in
      let begins = parts (λ area. (broken_of sheets area).outside_grid) one other are.outside_grid in (
        record { no_sheet = there.0; bad_range = kept.0; outside_grid = begins.0 },
        record { no_sheet = there.1; bad_range = kept.1; outside_grid = begins.1 },
      )

  all_within : (areas : List Area) → AreUnbroken areas
      → AllByRecursion (IsOnSheet sheets) (map (area_cut sheets) areas)
  all_within [] are = tt
  all_within (area ∷ areas) are =
      let there = or_parts (broken_of sheets area).no_sheet
      (list_any (λ area. (broken_of sheets area).no_sheet) areas) are.no_sheet in
      let kept = or_parts (broken_of sheets area).bad_range
      (list_any (λ area. (broken_of sheets area).bad_range) areas) are.bad_range in
      let begins = or_parts (broken_of sheets area).outside_grid
      (list_any (λ area. (broken_of sheets area).outside_grid) areas) are.outside_grid in (
        on_sheet area there.0 kept.0 begins.0,
        all_within areas (record { no_sheet = there.1; bad_range = kept.1; outside_grid = begins.1 }),
      )

  area_so : (area : Option Area) → AreUnbroken (option_map_or (λ area. area ∷ []) area [])
      → IfSome (option_map (area_cut sheets) area) (IsOnSheet sheets)
  area_so None are = tt
  area_so (Some area) are = (all_within (area ∷ []) are).0

  ranges_so : (ranges : Option (List Area)) → AreUnbroken (unwrap_or ranges [])
      → IfSome (option_map (map (area_cut sheets)) ranges) (All (IsOnSheet sheets))
  ranges_so None are = tt
  ranges_so (Some ranges) are =
      All-from_recursion (IsOnSheet sheets) (map (area_cut sheets) ranges) (all_within ranges are)

  -- so are those of a patch
  pub patch_within : (patch : ProtectionPatch) → AreUnbroken (areas_given patch)
      → IsPatchWithin sheets (patch_cut sheets patch)
  patch_within patch are =
      let each = each_part (option_map_or (λ area. area ∷ []) patch.area []) (unwrap_or patch.unprotected []) are in
      (area_so patch.area each.0, ranges_so patch.unprotected each.1)
