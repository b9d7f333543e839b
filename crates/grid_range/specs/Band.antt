-- Bands of lines: one dimension of the `GridRange` of the Google Sheets API v4, whose indexes count
-- from 0, whose start is inclusive and whose end is exclusive; an index that is missing is
-- unbounded. That a range whose start is its end is refused is this project's profile.
use Rattle.std.specs.Prelude.{ℕ, ◌+◌, ◌<◌, ◌≤◌, ⊤, min, Bool, false, ◌==◌}
use Rattle.grid_range.specs.declared.band.Band.{Band}
use Rattle.grid_range.specs.declared.band.Band.TheVariants.{Whole, From, Span}

-- the band has the line
abbrev pub HasLine : Band → ℕ → Type 0
HasLine Whole line = ⊤
HasLine (From start) line = start ≤ line
HasLine (Span start end) line = (start ≤ line) × (line < end)

-- among `count` lines: all lines; a first line that is there; a first and a last that are there
abbrev pub Within : Band → ℕ → Type 0
Within Whole count = ⊤
Within (From start) count = start < count
Within (Span start end) count = (start < end) × (end ≤ count)

-- a band with both ends has a line
abbrev pub IsNonEmpty : Band → Type 0
IsNonEmpty Whole = ⊤
IsNonEmpty (From start) = ⊤
IsNonEmpty (Span start end) = start < end

-- the first line
abbrev pub first_line : Band → ℕ
first_line Whole = 0
first_line (From start) = start
first_line (Span start end) = start

-- the band has a first and a last line, which are one
abbrev pub has_one_line : Band → Bool
has_one_line Whole = false
has_one_line (From start) = false
has_one_line (Span start end) = start + 1 == end

-- the line past the last one, among `count` lines
abbrev pub end_line : Band → ℕ → ℕ
end_line Whole count = count
end_line (From start) count = count
end_line (Span start end) count = end

-- the band with an end past the grid cut at the grid
abbrev pub cut_band : Band → ℕ → Band
cut_band Whole count = Whole
cut_band (From start) count = From start
cut_band (Span start end) count = Span start (min end count)

-- one of `count` lines is in both bands
abbrev pub ShareLine : Band → Band → ℕ → Type 0
ShareLine one other count = (line : ℕ) × (line < count) × HasLine one line × HasLine other line
