-- A text is one corner at most, and one reference at most.
use Rattle.std.proofs.Common.{◌≡◌, ℕ, List, [], ◌∷◌, ◌++◌, refl, sym, ap, ◌∙◌, inl, inr, subst, append-nil}
use Rattle.std.specs.Prelude.{Some}
use Rattle.std.specs.Char.{is_ascii_alphabetic, is_ascii_digit}
use Rattle.a1_notation.specs.Column.{IsColumn}
use Rattle.a1_notation.specs.Area.{IsRow}
use Rattle.formula_reader.specs.declared.tokens.corner.Coordinate.{Coordinate}
use Rattle.formula_reader.specs.declared.tokens.corner.MarkedCorner.{MarkedCorner}
use Rattle.formula_reader.specs.declared.tokens.corner.MarkedCorner.TheVariants.{Cell, Column, Row}
use Rattle.formula_reader.specs.declared.tokens.token.MarkedArea.{MarkedArea}
use Rattle.formula_reader.specs.Reference.{IsPart, IsStandingPart}
use Rattle.formula_reader.specs.Parts.{IsWholeColumn, IsWholeRow, IsStandingCorner, IsSecondOf}
use Rattle.formula_reader.specs.Reading.{Stands, Reads}
use Rattle.formula_reader.proofs.Read.{one_read}
use Rattle.formula_reader.proofs.Marks.{marked-append, mark_is, name_read, letters_all, letters_some, letter_no_dollar, one_column, digits_all, digits_some, digit_no_dollar, one_row}
use Rattle.formula_reader.proofs.Corners.{cell_parts, column_parts, row_parts, standing_answer, cell_corner, column_corner, row_corner}
use Rattle.formula_reader.proofs.References.{part_at, second_parts, one_named, one_cell}

-- a column that stands there is what is read, and so is a row
read_column : (text : List ℕ) (column : Coordinate) (rest : List ℕ) → Stands IsWholeColumn text column rest
    → Reads IsWholeColumn text (Some (column, rest))
read_column text column rest stands =
    let is = stands.is.marked in
    let all = letters_all is.name column.line is.name_is in
    let whole = stands.spelled ∙ ap (λ t. t ++ rest) is.spelled ∙ marked-append column.marked is.name rest in
    name_read is_ascii_alphabetic (IsColumn 3) letters_all letters_some letter_no_dollar one_column
    text (is.name ++ rest) is.name rest column.marked
    (mark_is is_ascii_alphabetic column.marked is.name rest text letter_no_dollar
    (letters_some is.name column.line is.name_is) all whole)
    whole refl (record { all = all; ends = stands.is.whole }) column.line is.name_is

read_row : (text : List ℕ) (row : Coordinate) (rest : List ℕ) → Stands IsWholeRow text row rest
    → Reads IsWholeRow text (Some (row, rest))
read_row text row rest stands =
    let is = stands.is.marked in
    let all = digits_all is.name row.line is.name_is in
    let whole = stands.spelled ∙ ap (λ t. t ++ rest) is.spelled ∙ marked-append row.marked is.name rest in
    name_read is_ascii_digit IsRow digits_all digits_some digit_no_dollar one_row
    text (is.name ++ rest) is.name rest row.marked
    (mark_is is_ascii_digit row.marked is.name rest text digit_no_dollar
    (digits_some is.name row.line is.name_is) all whole)
    whole refl (record { all = all; ends = stands.is.whole }) row.line is.name_is

-- a corner that stands there is the one that is read
read_corner : (text : List ℕ) (corner : MarkedCorner) (rest : List ℕ) → Stands IsStandingCorner text corner rest
    → Reads IsStandingCorner text (standing_answer corner rest)
read_corner text (Cell row column) rest stands =
    let parts = cell_parts text row column rest stands in
    cell_corner text row column parts.0 rest (read_column text column parts.0 parts.1)
    (read_row parts.0 row rest parts.2)
read_corner text (Column column) rest stands =
    let parts = column_parts text column rest stands in
    column_corner text column rest (read_column text column rest parts.0)
    (record { found = tt; only = λ row behind other. absurd (parts.1 row behind other) })
read_corner text (Row row) rest stands =
    let parts = row_parts text row rest stands in
    row_corner text row rest (record { found = tt; only = λ column behind other. absurd (parts.1 column behind other) })
    (read_row text row rest parts.0)

one_standing : (text : List ℕ) (one other : MarkedCorner) (rest behind : List ℕ) → Stands IsStandingCorner text one rest
    → Stands IsStandingCorner text other behind → (one ≡ other) × (rest ≡ behind)
one_standing text one other rest behind is is' =
    let reads = rw is.is.alone at (read_corner text one rest is) in
    one_read reads is'

-- a second corner names one thing
one_second : (one : MarkedCorner) (text : List ℕ) (w w' : MarkedArea) (rest rest' : List ℕ)
    → Stands (IsSecondOf one) text w rest
    → Stands (IsSecondOf one) text w' rest' → w ≡ w'
one_second one text w w' rest rest' is is' =
    let parts = second_parts one text w rest is in
    let parts' = second_parts one text w' rest' is' in
    let both : 58 ∷ parts.0 ≡ 58 ∷ parts'.0 = sym parts.2 ∙ parts'.2 in
    let same : parts.0 ≡ parts'.0 = cc in
    let there = subst (λ (t : List ℕ). Stands IsStandingCorner t parts'.1 rest') (sym same) parts'.3 in
    let other = (one_standing parts.0 parts.1 parts'.1 rest rest' parts.3 there).0 in
    one_named one parts.1 w w' parts.4 (rw (← other) at parts'.4)

-- a part alone is one reference
one_alone : (part : List ℕ) (w w' : MarkedArea) → IsStandingPart part w [] → IsStandingPart part w' [] → w ≡ w'
one_alone part w w' is is' =
    let whole = sym (append-nil part) in
    elim (part_at part part w [] whole is.part_is is) [
      | inl cell ↦ elim (part_at part part w' [] whole is'.part_is is') [
        | inl cell' ↦
            let same = (one_standing part (Cell cell.0 cell.1) (Cell cell'.0 cell'.1) [] [] cell.2 cell'.2).0 in
            let row : cell.0 ≡ cell'.0 = cc in
            let column : cell.1 ≡ cell'.1 = cc in
            one_cell cell.0 cell.1 w w' cell.3 (rw (row, column) cell'.3)
        | inr two' ↦
            let rests = (one_standing part (Cell cell.0 cell.1) two'.0 [] two'.1 cell.2 two'.2).1 in
            absurd (some_behind two'.0 w' two'.1 [] two'.3 rests)
      ]
      | inr two ↦ elim (part_at part part w' [] whole is'.part_is is') [
        | inl cell' ↦
            let rests = (one_standing part (Cell cell'.0 cell'.1) two.0 [] two.1 cell'.2 two.2).1 in
            absurd (some_behind two.0 w two.1 [] two.3 rests)
        | inr two' ↦
            let same = one_standing part two.0 two'.0 two.1 two'.1 two.2 two'.2 in
            let there = subst (λ (t : List ℕ). Stands (IsSecondOf two'.0) t w' []) (sym same.1) two'.3 in
            one_second two.0 two.1 w w' [] [] two.3
            (subst (λ (c : MarkedCorner). Stands (IsSecondOf c) two.1 w' []) (sym same.0) there)
      ]
    ]
  where
    some_behind : (one : MarkedCorner) (w : MarkedArea) (text rest : List ℕ) → Stands (IsSecondOf one) text w rest
        → [] ≡ text → ⊥
    some_behind one w text rest stands none =
        let colon : [] ≡ 58 ∷ (second_parts one text w rest stands).0 =
        none ∙ (second_parts one text w rest stands).2 in
        cc

pub one_part : (part : List ℕ) (w w' : MarkedArea) → IsPart part w → IsPart part w' → w ≡ w'
one_part part w w' is is' =
    one_alone part w w' (record { part_is = is; alone = refl }) (record { part_is = is'; alone = refl })
