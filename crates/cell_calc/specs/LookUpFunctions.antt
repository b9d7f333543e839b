-- The values of functions that look into areas (Google Docs Editors Help, "Google Sheets function list":
-- INDEX, MATCH, COUNTIF, SUMIF, ROWS and COLUMNS). That MATCH searches for equal cells alone, and that COUNTIF
-- and SUMIF take no comparisons and areas of one size, is this project's profile.
use Rattle.std.specs.Prelude.{ℕ, ◌-◌, ◌+◌, ◌*◌, ◌==◌, nat_lt, nat_le, ℤ, pos, ◌+ℤ◌, unsigned_abs, int_le, Bool, false, ◌&&◌, List, [], ◌∷◌, map, fold, filter, zip, count_by, slice_index, slice_index_or, if◌then◌else◌, Result, Ok, Err}
use Rattle.std.specs.Option.{option_map_or}
use Rattle.std.specs.List.{position_from}
use Rattle.std.specs.Ordering.{int_eq}
use Rattle.std.specs.Bool.{beq}
use Rattle.std.specs.Str.{str_eq_ignore_ascii_case}
use Rattle.cell_value.specs.declared.cell.Kind.{Kind}
use Rattle.cell_value.specs.declared.cell.Kind.TheVariants as kind
use Rattle.cell_value.specs.declared.cell.Value.{Value}
use Rattle.cell_value.specs.declared.cell.Value.TheVariants.{Blank, Number, Text, Truth, Error}
use Rattle.cell_calc.specs.Conversion.{number_in, truth_in, number_of, error_in}
use Rattle.cell_calc.specs.Outcome.{whole, value_by, both, leftmost, error_or}
use Rattle.cell_calc.specs.Arguments.{Cells, Given, error_given, cells_given}
use Rattle.cell_calc.specs.GatheringFunctions.{is_number_or_error, all_good}

-- the cells of an argument that must be an area; the error that it is comes first
abbrev pub area_given : Given → Result Cells Kind
area_given given = error_or (error_given given) (cells_given given)

-- ROWS
abbrev pub row_count : Given → Value
row_count given = value_by (λ cells. whole (pos cells.rows)) (area_given given)

-- COLUMNS
abbrev pub column_count : Given → Value
column_count given = value_by (λ cells. whole (pos cells.columns)) (area_given given)

-- whether it is the number of one of so many lines, counted from 1
abbrev pub is_line_of : ℕ → ℤ → Bool
is_line_of count line = int_le (pos 1) line && int_le line (pos count)

-- the value in a row and a column of the area, counted from 1; #NUM! outside it
abbrev pub value_at : Cells → ℤ × ℤ → Value
value_at cells place =
    if is_line_of cells.rows place.0 && is_line_of cells.columns place.1
    then slice_index_or cells.values ((unsigned_abs place.0 - 1) * cells.columns + (unsigned_abs place.1 - 1)) Blank
    else Error kind.Num

-- INDEX
abbrev pub indexed_value : Given → Value → Value → Value
indexed_value given row column =
    value_by (λ found. value_at found.0 found.1)
    (error_or (leftmost (error_given given ∷ error_in row ∷ error_in column ∷ []))
    (both (cells_given given) (both (number_of row) (number_of column))))

-- whether a cell equals a key and has its kind; none equals blank or an error
abbrev pub is_match : Value → Value → Bool
is_match (Number key) (Number number) = int_eq key number
is_match (Text key) (Text text) = str_eq_ignore_ascii_case key text
is_match (Truth key) (Truth truth) = beq key truth
is_match key value = false

-- the place of the first value that matches, counted from 1; #N/A of none
abbrev pub first_place : Value → List Value → Value
first_place key values =
    option_map_or (λ place. whole (pos place)) (position_from (is_match key) 1 values) (Error kind.Na)

-- in cells of one line; #N/A of cells that are more than one both ways
abbrev pub position_of : Value → Cells → Value
position_of key cells =
    if nat_lt 1 cells.rows && nat_lt 1 cells.columns then Error kind.Na else first_place key cells.values

-- the search type 0, that of equal cells; #VALUE! for another one
abbrev pub if_exact : {A : Type 0} → ℤ → Result A Kind → Result A Kind
if_exact search outcome = if int_eq search (pos 0) then outcome else Err kind.Value

-- what is looked for, where it is known how
abbrev pub searched : Result ℤ Kind → Result Cells Kind → Result Cells Kind
searched (Ok search) cells = if_exact search cells
searched (Err fault) cells = Err fault

-- MATCH
abbrev pub matched_place : Value → Given → Value → Value
matched_place key given search =
    value_by (position_of key)
    (error_or (leftmost (error_in key ∷ error_given given ∷ error_in search ∷ []))
    (searched (number_of search) (cells_given given)))

-- a text that begins with < (60), = (61) or > (62)
abbrev pub is_comparison : List ℕ → Bool
is_comparison text = nat_le 60 (slice_index text 0) && nat_le (slice_index text 0) 62

-- what a text is read as: a number, a truth value or itself
abbrev pub typed_text : List ℕ → Value
typed_text text =
    option_map_or (λ number. Number number) (number_in text)
    (option_map_or (λ truth. Truth truth) (truth_in text) (Text text))

-- what cells are compared with
abbrev pub criterion : Value → Result Value Kind
criterion Blank = Ok Blank
criterion (Number number) = Ok (Number number)
criterion (Text text) = if is_comparison text then Err kind.Value else Ok (typed_text text)
criterion (Truth truth) = Ok (Truth truth)
criterion (Error fault) = Ok (Error fault)

-- COUNTIF
abbrev pub matches_counted : Given → Value → Value
matches_counted given key =
    value_by (λ found. whole (pos (count_by (is_match found.1) found.0.values)))
    (error_or (leftmost (error_given given ∷ error_in key ∷ [])) (both (cells_given given) (criterion key)))

-- the values that stand beside matches
abbrev pub beside_matches : Value → List Value → List Value → List Value
beside_matches key values others =
    map (λ pair. pair.1) (filter (λ pair. is_match key pair.0) (zip values others))

-- the sum of the numbers that stand beside matches; #VALUE! where the areas' sizes differ
abbrev pub sum_beside : Value → Cells → Cells → Value
sum_beside key cells others =
    if cells.rows == others.rows && cells.columns == others.columns
    then value_by (λ numbers. whole (fold ◌+ℤ◌ (pos 0) numbers))
    (all_good (map number_of (filter is_number_or_error (beside_matches key cells.values others.values))))
    else Error kind.Value

-- SUMIF
abbrev pub matches_summed : Given → Value → Given → Value
matches_summed given key others =
    value_by (λ found. sum_beside found.1.0 found.0 found.1.1)
    (error_or (leftmost (error_given given ∷ error_in key ∷ error_given others ∷ []))
    (both (cells_given given) (both (criterion key) (cells_given others))))
