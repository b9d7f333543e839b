-- Look-ups in lent areas are those in the areas that they stand for.
use Rattle.std.proofs.Common.{◌≡◌, ℕ, suc, ◌*◌, ◌+◌, ◌-◌, ◌==◌, ◌&&◌, Bool, true, cond, List, [], ◌∷◌, length, map, filter, slice_index_or, nat_lt, unsigned_abs, flat_map, fold, ℤ, pos, ◌+ℤ◌, count_by, Option, Some, None, Result, Ok, Err, option_map, arith, refl, ap, sym, ◌∙◌}
use Rattle.std.specs.Option.{option_or, option_map_or}
use Rattle.std.proofs.lemmas.Bool.Decides.{nat_tests}
use Rattle.cell_value.specs.declared.cell.Kind.{Kind}
use Rattle.cell_value.specs.declared.cell.Kind.TheVariants as kind
use Rattle.cell_value.specs.declared.cell.Value.{Value}
use Rattle.cell_value.specs.declared.cell.Value.TheVariants.{Blank, Error}
use Rattle.cell_calc.specs.declared.arguments.Argument.{Argument}
use Rattle.cell_calc.specs.declared.arguments.AreaCells.{AreaCells}
use Rattle.cell_calc.specs.declared.arguments.FilledCell.{FilledCell}
use Rattle.cell_calc.specs.Arguments.{Cells, Given, error_given, cells_given}
use Rattle.cell_calc.specs.Conversion.{error_in, number_of}
use Rattle.cell_calc.specs.Outcome.{whole, value_by, both, leftmost, error_or}
use Rattle.cell_calc.specs.GatheringFunctions.{is_number_or_error, all_good}
use Rattle.cell_calc.specs.Lent.{StandsFor, AreCells, place_and_value, filled_from}
use Rattle.cell_calc.specs.Taken.{error_lent}
use Rattle.cell_calc.specs.Found.{value_in_place, first_match, matches_in, value_if}
use Rattle.cell_calc.specs.LookUpFunctions.{is_match, is_line_of, value_at, indexed_value, first_place, position_of, searched, matched_place, criterion, matches_counted, beside_matches, sum_beside, matches_summed}
use Rattle.cell_calc.proofs.Taking.{error_is}
use Rattle.cell_calc.proofs.Finding.{found_in_place, found_first, found_beside}

or_none : (fault : Option Kind) → option_or fault None ≡ fault
or_none (Some fault) = refl
or_none None = refl

-- the leftmost error of lent arguments
pub area_first : (x : Argument) (given : Given) (rest found : Option Kind) → StandsFor x given
    → option_or (error_lent x) rest ≡ found → option_or (error_given given) rest ≡ found
area_first x given rest found stands is = ap (λ o. option_or o rest) (sym (error_is x given stands)) ∙ is

pub area_and_one : (x : Argument) (given : Given) (one found : Option Kind) → StandsFor x given
    → option_or (error_lent x) one ≡ found → leftmost (error_given given ∷ one ∷ []) ≡ found
area_and_one x given one found stands is =
    ap (λ o. option_or (error_given given) o) (or_none one) ∙ area_first x given one found stands is

pub area_between : (x : Argument) (given : Given) (one other found : Option Kind) → StandsFor x given
    → option_or one (option_or (error_lent x) other) ≡ found
    → leftmost (one ∷ error_given given ∷ other ∷ []) ≡ found
area_between x given one other found stands is =
    ap (λ o. option_or one o) (area_and_one x given other (option_or (error_lent x) other) stands refl) ∙ is

pub areas_around : (x y : Argument) (given other : Given) (one found : Option Kind) → StandsFor x given
    → StandsFor y other
    → option_or (error_lent x) (option_or one (error_lent y)) ≡ found
    → leftmost (error_given given ∷ one ∷ error_given other ∷ []) ≡ found
areas_around x y given other one found stands stand is =
    ap (λ o. option_or (error_given given) (option_or one o))
    (or_none (error_given other) ∙ sym (error_is y other stand))
    ∙ area_first x given (option_or one (error_lent y)) found stands is

-- an argument in error
pub indexed_fails : (given : Given) (row column : Value) (fault : Kind)
    → leftmost (error_given given ∷ error_in row ∷ error_in column ∷ []) ≡ Some fault
    → Error fault ≡ indexed_value given row column
indexed_fails given row column fault is =
    sym (ap (λ o. value_by (λ found. value_at found.0 found.1)
    (error_or o (both (cells_given given) (both (number_of row) (number_of column))))) is)

pub matched_by : (key : Value) (given : Given) (search : Value) (found : Option Kind)
    → leftmost (error_in key ∷ error_given given ∷ error_in search ∷ []) ≡ found
    → value_by (position_of key) (error_or found (searched (number_of search) (cells_given given)))
    ≡ matched_place key given search
matched_by key given search found is =
    sym (ap (λ o. value_by (position_of key) (error_or o (searched (number_of search) (cells_given given)))) is)

pub counted_fails : (given : Given) (key : Value) (fault : Kind)
    → leftmost (error_given given ∷ error_in key ∷ []) ≡ Some fault → Error fault ≡ matches_counted given key
counted_fails given key fault is =
    sym (ap (λ o. value_by (λ found. whole (pos (count_by (is_match found.1) found.0.values)))
    (error_or o (both (cells_given given) (criterion key)))) is)

pub summed_by : (given : Given) (key : Value) (others : Given) (found : Option Kind)
    → leftmost (error_given given ∷ error_in key ∷ error_given others ∷ []) ≡ found
    → value_by (λ found. sum_beside found.1.0 found.0 found.1.1)
    (error_or found (both (cells_given given) (both (criterion key) (cells_given others))))
    ≡ matches_summed given key others
summed_by given key others found is =
    sym (ap (λ o. value_by (λ found. sum_beside found.1.0 found.0 found.1.1)
    (error_or o (both (cells_given given) (both (criterion key) (cells_given others))))) is)

-- the first match, counted from 1
pub first_found : (key : Value) (cells : List FilledCell) (values : List Value) (place : ℕ)
    → map place_and_value cells ≡ filled_from 0 values → first_match key cells ≡ Some place
    → whole (pos (place + 1)) ≡ first_place key values
first_found key cells values place are is =
    let next : place + 1 ≡ suc place = omega arith in
    ap (λ n. whole (pos n)) next
    ∙ ap (λ o. option_map_or (λ n. whole (pos n)) o (Error kind.Na))
    (sym (ap (option_map suc) is) ∙ found_first key cells values are)

pub none_found : (key : Value) (cells : List FilledCell) (values : List Value)
    → map place_and_value cells ≡ filled_from 0 values → first_match key cells ≡ None
    → Error kind.Na ≡ first_place key values
none_found key cells values are is =
    ap (λ o. option_map_or (λ n. whole (pos n)) o (Error kind.Na))
    (sym (ap (option_map suc) is) ∙ found_first key cells values are)

-- whether an area is a block
pub block_is : (key : Value) (cells : AreaCells) (all : Cells) (block : Bool) → AreCells cells all
    → block ≡ (nat_lt 1 cells.rows && nat_lt 1 cells.columns)
    → cond block (Error kind.Na) (first_place key all.values) ≡ position_of key all
block_is key cells all block are is =
    ap (λ b. cond b (Error kind.Na) (first_place key all.values))
    (is ∙ ap (λ n. nat_lt 1 n && nat_lt 1 cells.columns) are.rows
    ∙ ap (λ n. nat_lt 1 all.rows && nat_lt 1 n) are.columns)

-- the value in a row and a column
pub value_found : (cells : AreaCells) (all : Cells) (row column : ℤ) → AreCells cells all
    → is_line_of cells.rows row ≡ true → is_line_of cells.columns column ≡ true
    → value_in_place ((unsigned_abs row - 1) * cells.columns + (unsigned_abs column - 1)) cells.filled.items
    ≡ value_at all (row, column)
value_found cells all row column are is_row is_column =
    let value = slice_index_or all.values ((unsigned_abs row - 1) * all.columns + (unsigned_abs column - 1)) Blank in
    found_in_place ((unsigned_abs row - 1) * cells.columns + (unsigned_abs column - 1)) cells.filled.items
    all.values are.filled
    ∙ ap (λ n. slice_index_or all.values ((unsigned_abs row - 1) * n + (unsigned_abs column - 1)) Blank) are.columns
    ∙ sym (ap (λ b. cond (b && is_line_of all.columns column) value (Error kind.Num))
    (ap (λ n. is_line_of n row) (sym are.rows) ∙ is_row)
    ∙ ap (λ b. cond b value (Error kind.Num)) (ap (λ n. is_line_of n column) (sym are.columns) ∙ is_column))

-- what is made of two areas
pub with_first : (all : Cells) (rest : Result (Value × Cells) Kind)
    → value_by (λ found. sum_beside found.0 all found.1) rest
    ≡ value_by (λ found. sum_beside found.1.0 found.0 found.1.1) (both (Ok all) rest)
with_first all (Ok pair) = refl
with_first all (Err fault) = refl

pub with_key : (all : Cells) (key : Value) (others : Result Cells Kind)
    → value_by (sum_beside key all) others ≡ value_by (λ found. sum_beside found.0 all found.1) (both (Ok key) others)
with_key all key (Ok cells) = refl
with_key all key (Err fault) = refl

abbrev sum_of : List Value → Value
sum_of values = value_by (λ numbers. whole (fold ◌+ℤ◌ (pos 0) numbers)) (all_good (map number_of values))

abbrev beside : Value → Cells → Cells → List Value
beside key x y = filter is_number_or_error (beside_matches key x.values y.values)

pub sum_is : (key : Value) (test : ℕ → Bool) (cells others : AreaCells) (x y : Cells) → AreCells cells x
    → AreCells others y
    → cells.rows ≡ others.rows → cells.columns ≡ others.columns
    → ((place : ℕ) → test place ≡ matches_in key cells.filled.items place)
    → sum_of (flat_map (value_if test) others.filled.items) ≡ sum_beside key x y
sum_is key test cells others x y are are_others rows columns tests =
    let same_rows : x.rows ≡ y.rows = sym are.rows ∙ rows ∙ are_others.rows in
    let same_columns : x.columns ≡ y.columns = sym are.columns ∙ columns ∙ are_others.columns in
    let same : length x.values ≡ length y.values =
    are.all ∙ ap (λ n. n * x.columns) same_rows ∙ ap (λ n. y.rows * n) same_columns ∙ sym are_others.all in
    let one : (x.rows == y.rows) ≡ true = grind (arith, nat_tests, same_rows) in
    let other : (x.columns == y.columns) ≡ true = grind (arith, nat_tests, same_columns) in
    let sum = found_beside key test cells.filled.items others.filled.items x.values y.values are.filled
    are_others.filled same tests in
    ap sum_of sum
    ∙ sym (ap (λ b. cond (b && (x.columns == y.columns)) (sum_of (beside key x y)) (Error kind.Value)) one
    ∙ ap (λ b. cond b (sum_of (beside key x y)) (Error kind.Value)) other)
