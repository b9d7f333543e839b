-- Protected ranges by the names of lines: the `ProtectedRange` of the Google Sheets API v4.
use Rattle.std.specs.Prelude.{ℕ, Bool, List, Option, None, Some, filter, map, not, ◌==◌, if◌then◌else◌}
use Rattle.protection.specs.declared.range.Protection.{Protection}
use Rattle.world_model.specs.Area.{NameArea, Orders, area_named}

-- the area that only its editors may edit, or that a warning stands on, and the areas that stay open to everybody
pub record NameProtection : Type 0 where
  pub id : ℕ
  pub area : NameArea
  pub description : List ℕ
  pub warning_only : Bool
  pub unprotected : List NameArea
  pub editors : List (List ℕ)

-- the protection of the lines at the places of a protection
abbrev pub protection_named : Orders → Protection → NameProtection
protection_named orders protection = record {
  id = protection.id;
  area = area_named orders protection.area;
  description = protection.description;
  warning_only = protection.warning_only;
  unprotected = map (area_named orders) protection.unprotected;
  editors = protection.editors;
}

-- the areas of other sheets
abbrev pub name_areas_elsewhere : ℕ → List NameArea → List NameArea
name_areas_elsewhere sheet areas = filter (λ area. not (area.sheet == sheet)) areas

-- without the sheet, a protection of it is gone, and another one has no open areas on it
abbrev pub name_protection_without : ℕ → NameProtection → Option NameProtection
name_protection_without sheet protection =
    if protection.area.sheet == sheet then None
    else Some (record protection { unprotected = name_areas_elsewhere sheet protection.unprotected })
