-- Named ranges by the names of lines: the `NamedRange` of the Google Sheets API v4.
use Rattle.std.specs.Prelude.{ℕ, List, filter, not, ◌==◌}
use Rattle.named_ranges.specs.declared.range.NamedRange.{NamedRange}
use Rattle.world_model.specs.Area.{NameArea, Orders, area_named}

-- an area of a sheet that is known by an id, and called by a name
pub record NameRange : Type 0 where
  pub id : List ℕ
  pub name : List ℕ
  pub area : NameArea

-- the range of the lines at the places of a range
abbrev pub range_named : Orders → NamedRange → NameRange
range_named orders range = record { id = range.id; name = range.name; area = area_named orders range.area }

-- the ranges of other sheets
abbrev pub name_ranges_elsewhere : ℕ → List NameRange → List NameRange
name_ranges_elsewhere sheet ranges = filter (λ range. not (range.area.sheet == sheet)) ranges
