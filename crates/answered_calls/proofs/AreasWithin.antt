-- The area that a request is on, where it breaks no rule, is within its sheet, at whose grid it is cut.
use Rattle.std.proofs.Common.{◌≡◌, refl, subst, List}
use Rattle.std.specs.Prelude.{Option, None, Some, Result, Ok, Err}
use Rattle.std.specs.Option.{option_map_or}
use Rattle.grid_range.specs.declared.area.Area.{Area}
use Rattle.world_model.specs.Sheet.{PlaceSheet}
use Rattle.world_model.specs.Sound.{IsOnSheet, place_sheet_with}
use Rattle.dimension_ops.specs.Broken.{first_broken}
use Rattle.dimension_ops.specs.declared.rule.Rule.{Rule}
use Rattle.request_kinds.specs.AreasWithin.{on_sheet}
use Rattle.request_kinds.specs.Protections.{area_cut}
use Rattle.request_kinds.specs.Rows.{area_or_broken, broken_by_area}
use Rattle.dimension_ops.specs.JudgingLaws.{breaks_none}
use Rattle.dimension_ops.specs.JudgingLaws.{breaks_none}

-- what is told of one
abbrev as_area : Area → Result Area Rule
as_area area = Ok area

area_same : (one other : Area) → as_area one ≡ as_area other → one ≡ other
area_same one other is = cc

broken_apart : (broken : Rule) (area : Area) → Err broken ≡ as_area area → ⊥
broken_apart broken area is = cc

module _ (sheets : List PlaceSheet) where
  -- the area that a request is on
  pub judged_within : (area cut : Area) → area_or_broken sheets area ≡ Ok cut → IsOnSheet sheets cut
  judged_within area cut is =
      by_first (first_broken (broken_by_area (place_sheet_with area.sheet sheets) area)) refl is
    where
      by_first : (first : Option Rule)
          → first_broken (broken_by_area (place_sheet_with area.sheet sheets) area) ≡ first
          → option_map_or Err first (Ok (area_cut sheets area)) ≡ Ok cut → IsOnSheet sheets cut
      by_first None none is =
          let unbroken = breaks_none (broken_by_area (place_sheet_with area.sheet sheets) area) none in
          subst (IsOnSheet sheets) (area_same (area_cut sheets area) cut is)
          (on_sheet sheets area unbroken.no_sheet unbroken.bad_range unbroken.outside_grid)
      by_first (Some broken) some is = absurd (broken_apart broken cut is)
