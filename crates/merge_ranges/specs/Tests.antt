-- The tests that the program makes of a merge, whose bands have both ends.
use Rattle.std.specs.Prelude.{ℕ, Bool, List, true, false, not, ◌&&◌, ◌||◌, ◌+◌, ◌-◌, nat_le, nat_lt, filter, length, map, Option, None, Some, cond}
use Rattle.std.specs.List.{range_with_len}
use Rattle.std.specs.Option.{option_and_then}
use Rattle.grid_range.specs.declared.area.Area.{Area}
use Rattle.grid_range.specs.declared.axis.Axis.{Axis}
use Rattle.grid_range.specs.declared.band.Band.{Band}
use Rattle.grid_range.specs.declared.band.Band.TheVariants.{Whole, From, Span}
use Rattle.grid_range.specs.declared.change.Change.{Change}
use Rattle.grid_range.specs.Area.{band_on, with_band}
use Rattle.grid_range.specs.Band.{first_line, end_line}
use Rattle.grid_range.specs.Tearing.{tears}
use Rattle.grid_range.specs.Tracking.{area_followed}

-- the band has all lines from `first` to `past - 1`
abbrev pub has_all : Band → ℕ → ℕ → Bool
has_all Whole first past = true
has_all (From start) first past = nat_le start first
has_all (Span start end) first past = nat_le start first && nat_le past end

-- the band has one of them
abbrev pub has_some : Band → ℕ → ℕ → Bool
has_some Whole first past = true
has_some (From start) first past = nat_lt start past
has_some (Span start end) first past = nat_lt start end && nat_lt start past && nat_lt first end

-- the line past the last one
abbrev pub past_line : Band → ℕ
past_line band = end_line band 0

-- how many lines a band with both ends has
abbrev pub line_count : Band → ℕ
line_count band = past_line band - first_line band

abbrev pub holds_all : Area → Area → Bool
holds_all area merge =
    has_all area.rows (first_line merge.rows) (past_line merge.rows)
    && has_all area.cols (first_line merge.cols) (past_line merge.cols)

-- the area has a cell of the merge
abbrev pub has_cell_of : Area → Area → Bool
has_cell_of area merge =
    has_some area.rows (first_line merge.rows) (past_line merge.rows)
    && has_some area.cols (first_line merge.cols) (past_line merge.cols)

abbrev pub cuts : Area → Area → Bool
cuts area merge = has_cell_of area merge && not (holds_all area merge)

-- the merges that the area doesn't hold whole, and how many these are
abbrev pub left_by : Area → List Area → List Area
left_by area merges = filter (λ merge. not (holds_all area merge)) merges

abbrev pub left_count : Area → List Area → ℕ
left_count area merges = length (left_by area merges)

-- the band, or the area, has more than one line or cell
abbrev pub has_many_lines : Band → Bool
has_many_lines Whole = false
has_many_lines (From start) = false
has_many_lines (Span start end) = nat_lt (start + 1) end

abbrev pub has_many_cells : Area → Bool
has_many_cells area = has_many_lines area.rows || has_many_lines area.cols

-- the band has the line
abbrev pub has_line : Band → ℕ → Bool
has_line Whole line = true
has_line (From start) line = nat_le start line
has_line (Span start end) line = nat_le start line && nat_lt line end

-- the line of the area on the axis
abbrev pub line_of : Axis → Area → ℕ → Area
line_of axis area line = with_band axis area (Span line (line + 1))

-- its lines that have more than one cell
abbrev pub lines_of : Axis → Area → List Area
lines_of axis area =
    let first = first_line (band_on axis area) in
    filter has_many_cells (map (line_of axis area) (range_with_len first (past_line (band_on axis area) - first)))

-- the change tears the merge
abbrev pub tears_merge : Axis → ℕ → Change → Area → Bool
tears_merge axis count change merge =
    tears change (first_line (band_on axis merge)) (end_line (band_on axis merge) count)

-- the area that a merge becomes; None where it is lost or one cell is left of it
abbrev pub merge_after : Axis → ℕ → Change → Area → Option Area
merge_after axis count change merge =
    option_and_then (λ area. cond (has_many_cells area) (Some area) None)
    (area_followed merge.sheet axis count change merge)
