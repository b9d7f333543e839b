-- What is kept of a patch in the place of what it gives.
use Rattle.std.specs.Prelude.{ℕ, Bool, false, not, List, [], Option, Some, if◌then◌else◌}
use Rattle.std.specs.Option.{option_map, option_map_or}
use Rattle.grid_range.specs.declared.area.Area.{Area}
use Rattle.protection.specs.Editors.{with_requester}
use Rattle.protection.specs.Patch.{is_whole_sheet}

-- no editors of a warning, and else the requester among those that are given
abbrev pub given_editors : List ℕ → List ℕ → Bool → Option (List (List ℕ)) → Option (List (List ℕ))
given_editors user owner warns editors =
    if warns then Some [] else option_map (with_requester user owner) editors

-- no ranges where the area that is given isn't a whole sheet
abbrev pub given_ranges : Option Area → Option (List Area) → Option (List Area)
given_ranges area ranges =
    if option_map_or (λ area. not (is_whole_sheet area)) area false then Some [] else ranges
