-- The sheets of a spreadsheet as range texts and formulas name them (Google Sheets API v4 guide, A1 notation).
use Rattle.std.specs.Prelude.{ℕ, List, Option, not}
use Rattle.std.specs.List.{find}
use Rattle.std.specs.Str.{str_eq_ignore_ascii_case}
use Rattle.world_model.specs.Sheet.{PlaceSheet}

-- the sheet with the title, whatever the case of its ASCII letters
abbrev pub sheet_titled : List ℕ → List PlaceSheet → Option PlaceSheet
sheet_titled title sheets = find (λ sheet. str_eq_ignore_ascii_case sheet.title title) sheets

-- the first sheet that isn't hidden
abbrev pub first_visible : List PlaceSheet → Option PlaceSheet
first_visible sheets = find (λ sheet. not sheet.hidden) sheets
