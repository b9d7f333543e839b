-- What the requests MergeCells and UnmergeCells of the Google Sheets API v4 make of a sheet's merges. An
-- area to be unmerged must not have a part of a merge (UnmergeCellsRequest); that one to be merged must
-- not either is this project's profile.
use Rattle.std.specs.Prelude.{◌≡◌, ◌↔◌, List, ◌⊎◌, Contains}
use Rattle.std.specs.List.{All, AllPairs}
use Rattle.std.specs.List.Sorted.{IsStrictlySortedBy}
use Rattle.grid_range.specs.declared.area.Area.{Area}
use Rattle.merge_ranges.specs.Merges.{IsMerge, Overlap, HoldsAll, by_first_cell}

-- the area cuts the merge: it has a cell of it, and not all of them
abbrev pub Cuts : Area → Area → Type 0
Cuts area merge = Overlap area merge × ¬ (HoldsAll area merge)

-- the list has just the areas of which that is true, each once, by first row, then by first column
pub record ListsJust (is : Area → Type 0) (areas : List Area) : Type 0 where
  pub in_order : IsStrictlySortedBy by_first_cell areas
  pub exactly : (area : Area) → Contains areas area ↔ is area

-- two lists that have just the same areas are the same
abbrev pub ListsAreSame : Type 0
ListsAreSame = (one other : List Area) → ListsJust (Contains other) one → ListsJust (Contains one) other → one ≡ other

-- the merges that the area doesn't hold whole
abbrev pub IsLeft : Area → List Area → Area → Type 0
IsLeft area merges merge = Contains merges merge × ¬ (HoldsAll area merge)

-- the merges that are left, and parts of the area that are merged
abbrev pub IsLeftOrPart : Area → List Area → List Area → Area → Type 0
IsLeftOrPart area merges parts merge = IsLeft area merges merge ⊎ Contains parts merge

-- ---- what the private functions hand to one another

-- parts of the area that can be merged, no two of which have a cell in common
pub record AreParts (area : Area) (parts : List Area) : Type 0 where
  pub each : All IsMerge parts
  pub apart : AllPairs (λ one other. ¬ (Overlap one other)) parts
  pub inside : All (HoldsAll area) parts
