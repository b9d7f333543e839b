-- The ranges of calls: which cells they are on, and how they are told (Google Sheets API v4 guide, A1 notation;
-- reference, ValueRange).
use Rattle.std.specs.Prelude.{◌≡◌, ℕ, Bool, true, false, ◌&&◌, ◌||◌, List, Option, None, Some, Result, Ok, Err, if◌then◌else◌, ◌==◌}
use Rattle.grid_range.specs.declared.area.Area.{Area}
use Rattle.grid_range.specs.declared.band.Band.{Band}
use Rattle.grid_range.specs.declared.band.Band.TheVariants.{Whole, From, Span}
use Rattle.world_model.specs.Book.{PlaceBook}
use Rattle.dimension_ops.specs.declared.rule.Rule.{Rule}
use Rattle.dimension_ops.specs.declared.rule.Rule.TheVariants.{NoSheet, BadRange, OutsideGrid}
use Rattle.values_api.specs.Ranges.{FoundArea, Resolves}

abbrev pub same_band : Band → Band → Bool
same_band Whole Whole = true
same_band (From start) (From other) = start == other
same_band (Span start end) (Span other last) = start == other && end == last
same_band _ _ = false

abbrev pub same_area : Area → Area → Bool
same_area area other =
    area.sheet == other.sheet && same_band area.rows other.rows && same_band area.cols other.cols

-- which rule a range text breaks
abbrev pub names_no_sheet : Result FoundArea Rule → Bool
names_no_sheet (Err NoSheet) = true
names_no_sheet _ = false

abbrev pub is_bad_range : Result FoundArea Rule → Bool
is_bad_range (Err BadRange) = true
is_bad_range _ = false

abbrev pub is_outside : Result FoundArea Rule → Bool
is_outside (Err OutsideGrid) = true
is_outside _ = false

-- both name one area
abbrev pub is_one_area : Result FoundArea Rule → Result FoundArea Rule → Bool
is_one_area (Ok found) (Ok other) = same_area found.0 other.0
is_one_area _ _ = false

-- what the range of a path names, where the body names one, too: the first rule that one of them breaks, and BadRange
-- where they name two areas
abbrev pub agreed : Result FoundArea Rule → Result FoundArea Rule → Result FoundArea Rule
agreed found other =
    if names_no_sheet found || names_no_sheet other then Err NoSheet
    else if is_bad_range found || is_bad_range other then Err BadRange
    else if is_outside found && is_outside other then Err OutsideGrid
    else if is_one_area found other then found
    else Err BadRange

-- what a write is on, by the range of its path and that of its body
pub record Agree (range body : List ℕ) (book : PlaceBook) (found : Result FoundArea Rule) : Type 0 where
  pub named : Result FoundArea Rule
  pub said : Result FoundArea Rule
  pub resolves : Resolves range book named
  pub says : Resolves body book said
  pub found_is : found ≡ agreed named said

abbrev pub IsTarget : List ℕ → Option (List ℕ) → PlaceBook → Result FoundArea Rule → Type 0
IsTarget range None book found = Resolves range book found
IsTarget range (Some body) book found = Agree range body book found
