-- A spreadsheet of one sheet of four rows and two columns, with the id 0, for tests: values in A1, A2, A3 and B1,
-- one value everywhere else, and two named ranges.
use Rattle.std.specs.Prelude.{ℕ, List, codes, Option, Some, None, ◌==◌, if◌then◌else◌}
use Rattle.std.specs.Str.{bytes_eq, str_eq_ignore_ascii_case, str_to_ascii_lowercase}
use Rattle.cell_value.specs.declared.cell.Value.{Value}
use Rattle.grid_range.specs.declared.area.Area.{Area}
use Rattle.grid_range.specs.declared.band.Band.TheVariants.{Span}
use Rattle.formula_reader.specs.Sheets.{Sheets}
use Rattle.cell_calc.specs.Book.{Book, Place, stored}

abbrev pub sheet_titled : List ℕ → Sheets
sheet_titled title = record {
  named = λ lower. if bytes_eq (str_to_ascii_lowercase title) lower then Some 0 else None;
  size = λ sheet. if sheet == 0 then Some (4, 2) else None;
  title = λ sheet. if sheet == 0 then Some title else None;
}

pub record Values : Type 0 where
  pub a1 : Value
  pub a2 : Value
  pub a3 : Value
  pub b1 : Value
  pub rest : Value

abbrev pub in_column_a : Values → ℕ → Value
in_column_a values row =
    if row == 0 then values.a1 else if row == 1 then values.a2 else if row == 2 then values.a3 else values.rest

abbrev pub in_column_b : Values → ℕ → Value
in_column_b values row = if row == 0 then values.b1 else values.rest

-- the value in each place
abbrev pub value_at : Values → Place → Value
value_at values place =
    if place.column == 0 then in_column_a values place.row
    else if place.column == 1 then in_column_b values place.row
    else values.rest

-- some rows of the first column
abbrev pub first_rows : ℕ → Area
first_rows count = record { sheet = 0; rows = Span 0 count; cols = Span 0 1 }

-- `items` names A1:A4, and `price` A1
abbrev pub area_named : List ℕ → Option Area
area_named word =
    if str_eq_ignore_ascii_case word (codes "items") then Some (first_rows 4)
    else if str_eq_ignore_ascii_case word (codes "price") then Some (first_rows 1)
    else None

abbrev pub book_of : Values → Book
book_of values = record {
  cells = λ place. stored (value_at values place);
  size = λ sheet. if sheet == 0 then (4, 2) else (0, 0);
  named = area_named;
}
