-- What updateNamedRange of the Google Sheets API v4 makes of a named range.
use Rattle.std.specs.Prelude.{ℕ, List, Option, unwrap_or}
use Rattle.grid_range.specs.declared.area.Area.{Area}
use Rattle.named_ranges.specs.declared.range.NamedRange.{NamedRange}

-- the range with what is given in the place of what it has; its id stays
abbrev pub given_range : Option (List ℕ) → Option Area → NamedRange → NamedRange
given_range name area range =
    record range { name = unwrap_or name range.name; area = unwrap_or area range.area }
