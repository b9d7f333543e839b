-- A spreadsheet of two sheets of 1,000 rows and 26 columns, with the ids 0 and 7, for tests.
use Rattle.std.specs.Prelude.{ℕ, List, Some, None, ◌==◌, ◌||◌, if◌then◌else◌}
use Rattle.std.specs.Str.{bytes_eq, str_to_ascii_lowercase}
use Rattle.formula_reader.specs.Sheets.{Sheets}

-- titles match in any ASCII case
abbrev pub sheets_of : List ℕ → List ℕ → Sheets
sheets_of first second = record {
  named = λ lower.
      if bytes_eq (str_to_ascii_lowercase first) lower then Some 0
      else if bytes_eq (str_to_ascii_lowercase second) lower then Some 7
      else None;
  size = λ sheet. if sheet == 0 || sheet == 7 then Some (1000, 26) else None;
  title = λ sheet. if sheet == 0 then Some first else if sheet == 7 then Some second else None;
}
