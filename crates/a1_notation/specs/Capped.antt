-- What is kept of a corner or an area that may lie past column ZZZ: there a column counts as the number of
-- the columns from A to ZZZ.
use Rattle.std.specs.Prelude.{◌≡◌, ℕ, ◌+◌, ◌<◌, List, length, min}
use Rattle.grid_range.specs.declared.band.Band.{Band}
use Rattle.grid_range.specs.declared.band.Band.TheVariants.{Whole, From, Span}
use Rattle.a1_notation.specs.declared.column.TheConstants.{NAMED_COLUMNS}
use Rattle.a1_notation.specs.declared.corner.Corner.{Corner}
use Rattle.a1_notation.specs.declared.corner.Corner.TheVariants.{Cell, Column, Row}
use Rattle.a1_notation.specs.Area.{IsCorner, IsBetween, IsArea}

abbrev pub capped_corner : Corner → Corner
capped_corner (Cell row column) = Cell row (min column NAMED_COLUMNS)
capped_corner (Column column) = Column (min column NAMED_COLUMNS)
capped_corner (Row row) = Row row

-- the text is a corner, and this is kept of it
pub record IsCappedCorner (text : List ℕ) (corner : Corner) : Type 0 where
  pub exact : Corner
  pub is : IsCorner (length text) text exact
  pub capped : corner ≡ capped_corner exact

abbrev pub capped_band : Band → Band
capped_band Whole = Whole
capped_band (From start) = From start
capped_band (Span start end) = Span (min start NAMED_COLUMNS) (min end (NAMED_COLUMNS + 1))

-- the texts are two corners, and this is kept of the area between them
pub record IsCappedBetween (first second : List ℕ) (rows columns : Band) : Type 0 where
  pub most : ℕ
  pub exact : Band
  pub is : IsBetween most first second rows exact
  pub capped : columns ≡ capped_band exact

-- the text is an area, and this is kept of it
pub record IsCappedArea (text : List ℕ) (rows columns : Band) : Type 0 where
  pub most : ℕ
  pub exact : Band
  pub is : IsArea most text rows exact
  pub capped : columns ≡ capped_band exact

-- columns that reach past ZZZ
abbrev pub ArePastZZZ : Band → Type 0
ArePastZZZ Whole = ⊥
ArePastZZZ (From start) = ⊥
ArePastZZZ (Span start end) = NAMED_COLUMNS < end
