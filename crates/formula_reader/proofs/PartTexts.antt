-- References from their columns and rows, each of them with its mark.
use Rattle.std.proofs.Common.{◌≡◌, ℕ, ◌≤◌, false, List, ◌∷◌, ◌++◌, refl, inl, inr, le-leb}
use Rattle.std.specs.Prelude.{Some}
use Rattle.grid_range.specs.declared.band.Band.{Band}
use Rattle.grid_range.specs.declared.band.Band.TheVariants.{Whole, From}
use Rattle.a1_notation.specs.Area.{lines_between}
use Rattle.formula_reader.specs.declared.tokens.corner.Coordinate.{Coordinate}
use Rattle.formula_reader.specs.declared.tokens.corner.MarkedCorner.TheVariants.{Cell, Column, Row}
use Rattle.formula_reader.specs.Corner.{IsMarkedColumn, IsMarkedRow, IsMarkedCell, marks_in_order, marks_of}
use Rattle.formula_reader.specs.Reference.{IsPart}

-- the band's first line and its last
pub record AreEndsOf (band : Band) (one other : Coordinate) : Type 0 where
  pub ordered : one.line ≤ other.line
  pub lines : lines_between one.line other.line ≡ band

marks_of_ends : {band : Band} {one other : Coordinate} → AreEndsOf band one other
    → marks_in_order (Some one) (Some other) ≡ (one.marked, other.marked)
marks_of_ends {band} {one} {other} ends = rw (le-leb one.line other.line ends.ordered) refl

cell_of : {letters digits : List ℕ} {row column : Coordinate} → IsMarkedColumn letters column → IsMarkedRow digits row
    → IsMarkedCell (letters ++ digits) row column
cell_of {letters} {digits} column_is row_is = record {
  first = letters;
  second = digits;
  spelled = refl;
  column_is = column_is;
  row_is = row_is;
}

-- one cell
pub cell_part : {rows cols : Band} {letters digits : List ℕ} {row column : Coordinate}
    → IsMarkedColumn letters column → IsMarkedRow digits row → AreEndsOf rows row row → AreEndsOf cols column column
    → IsPart (letters ++ digits)
    (record { rows = rows; cols = cols; marks = marks_of (row.marked, false) (column.marked, false) })
cell_part {rows} {cols} {letters} {digits} {row} {column} column_is row_is own_rows own_cols = inl (record {
  row = row;
  column = column;
  cell = cell_of column_is row_is;
  named = record { area = rw (own_rows.lines, own_cols.lines) refl; marks = refl };
})

-- two cells
pub area_part : {rows cols : Band} {letters digits letters' digits' : List ℕ} {row column row' column' : Coordinate}
    → IsMarkedColumn letters column → IsMarkedRow digits row → IsMarkedColumn letters' column'
    → IsMarkedRow digits' row'
    → AreEndsOf rows row row' → AreEndsOf cols column column'
    → IsPart (letters ++ digits ++ 58 ∷ (letters' ++ digits'))
    (record { rows = rows; cols = cols; marks = marks_of (row.marked, row'.marked) (column.marked, column'.marked) })
area_part {rows} {cols} {letters} {digits} {letters'} {digits'} {row} {column} {row'} {column'} column_is row_is
    column_is' row_is' own_rows own_cols =
    inr (record {
      first = letters ++ digits;
      second = letters' ++ digits';
      spelled = refl;
      one = Cell row column;
      other = Cell row' column';
      one_is = cell_of column_is row_is;
      other_is = cell_of column_is' row_is';
      named = record {
        area = rw (own_rows.lines, own_cols.lines) refl;
        marks = rw (marks_of_ends own_rows, marks_of_ends own_cols) refl;
      };
    })

-- two columns
pub columns_part : {cols : Band} {letters letters' : List ℕ} {column column' : Coordinate}
    → IsMarkedColumn letters column → IsMarkedColumn letters' column' → AreEndsOf cols column column'
    → IsPart (letters ++ 58 ∷ letters')
    (record { rows = Whole; cols = cols; marks = marks_of (false, false) (column.marked, column'.marked) })
columns_part {cols} {letters} {letters'} {column} {column'} column_is column_is' own_cols = inr (record {
  first = letters;
  second = letters';
  spelled = refl;
  one = Column column;
  other = Column column';
  one_is = column_is;
  other_is = column_is';
  named = record { area = rw own_cols.lines refl; marks = rw (marks_of_ends own_cols) refl };
})

-- two rows
pub rows_part : {rows : Band} {digits digits' : List ℕ} {row row' : Coordinate}
    → IsMarkedRow digits row → IsMarkedRow digits' row' → AreEndsOf rows row row'
    → IsPart (digits ++ 58 ∷ digits')
    (record { rows = rows; cols = Whole; marks = marks_of (row.marked, row'.marked) (false, false) })
rows_part {rows} {digits} {digits'} {row} {row'} row_is row_is' own_rows = inr (record {
  first = digits;
  second = digits';
  spelled = refl;
  one = Row row;
  other = Row row';
  one_is = row_is;
  other_is = row_is';
  named = record { area = rw own_rows.lines refl; marks = rw (marks_of_ends own_rows) refl };
})

-- a cell, and the column up to which all rows from the cell's on are named
pub open_part : {cols : Band} {letters digits letters' : List ℕ} {row column column' : Coordinate}
    → IsMarkedColumn letters column → IsMarkedRow digits row → IsMarkedColumn letters' column'
    → AreEndsOf cols column column'
    → IsPart (letters ++ digits ++ 58 ∷ letters')
    (record { rows = From row.line; cols = cols; marks = marks_of (row.marked, false) (column.marked, column'.marked) })
open_part {cols} {letters} {digits} {letters'} {row} {column} {column'} column_is row_is column_is' own_cols =
    inr (record {
      first = letters ++ digits;
      second = letters';
      spelled = refl;
      one = Cell row column;
      other = Column column';
      one_is = cell_of column_is row_is;
      other_is = column_is';
      named = record { area = rw own_cols.lines refl; marks = rw (marks_of_ends own_cols) refl };
    })
