-- The corner that stands alone at the front of a text.
use Rattle.std.proofs.Common.{◌≡◌, ℕ, Bool, true, false, List, [], ◌∷◌, ◌++◌, refl, sym, ap, ◌∙◌, subst, append_assoc, arith}
use Rattle.std.specs.Prelude.{Option, Some, None, IfSome, if◌then◌else◌}
use Rattle.std.specs.Char.{is_ascii_alphabetic, is_ascii_digit}
use Rattle.std.specs.List.{list_all}
use Rattle.std.proofs.lemmas.Bool.{and_parts, false≢true}
use Rattle.std.proofs.lemmas.Bool.Decides.{nat_tests}
use Rattle.a1_notation.specs.Column.{IsColumn}
use Rattle.a1_notation.specs.Area.{IsRow}
use Rattle.formula_reader.specs.declared.tokens.corner.Coordinate.{Coordinate}
use Rattle.formula_reader.specs.declared.tokens.corner.MarkedCorner.{MarkedCorner}
use Rattle.formula_reader.specs.declared.tokens.corner.MarkedCorner.TheVariants.{Cell, Column, Row}
use Rattle.a1_notation.specs.Run.{begins}
use Rattle.formula_reader.specs.Corner.{marked_text, IsMarkedRow, IsMarkedCorner}
use Rattle.formula_reader.specs.Reference.{is_joined}
use Rattle.formula_reader.specs.Parts.{IsWholeColumn, IsWholeRow, IsStandingCorner}
use Rattle.formula_reader.specs.Reading.{Stands, Reads}
use Rattle.formula_reader.proofs.Read.{one_read, none_read}
use Rattle.formula_reader.proofs.Marks.{letters_all, letters_some, digits_all, digits_some, marked-append}

-- what doesn't go on with a corner is no letter and no digit
alone_no_letter : (b : ℕ) → is_joined b ≡ false → is_ascii_alphabetic b ≡ false
alone_no_letter b h = grind (arith, nat_tests)

alone_no_digit : (b : ℕ) → is_joined b ≡ false → is_ascii_digit b ≡ false
alone_no_digit b h = grind (arith, nat_tests)

pub digit_no_letter : (b : ℕ) → is_ascii_digit b ≡ true → is_ascii_alphabetic b ≡ false
digit_no_letter b h = grind (arith, nat_tests)

digit_is_joined : (b : ℕ) → is_ascii_digit b ≡ true → is_joined b ≡ true
digit_is_joined b h = grind (arith, nat_tests)

-- the same of the first byte of a text
begins_same : (one other : ℕ → Bool) (v w : Bool) → ((b : ℕ) → one b ≡ v → other b ≡ w) → (text : List ℕ)
    → begins one text ≡ v → begins other [] ≡ w → begins other text ≡ w
begins_same one other v w weaker [] is none = none
begins_same one other v w weaker (b ∷ text) is none = weaker b is

digit_begins : (text : List ℕ) → begins is_ascii_digit text ≡ true
    → (begins is_ascii_alphabetic text ≡ false) × (begins is_joined text ≡ true)
digit_begins [] is = absurd (false≢true is)
digit_begins (b ∷ text) is = (digit_no_letter b is, digit_is_joined b is)

-- a name by its first byte
pub first_letter : (name : List ℕ) (n : ℕ) (rest : List ℕ) → IsColumn 3 name n
    → begins is_ascii_alphabetic (name ++ rest) ≡ true
first_letter [] n rest is = absurd (omega (arith, letters_some [] n is))
first_letter (x ∷ xs) n rest is =
    (and_parts (is_ascii_alphabetic x) (list_all is_ascii_alphabetic xs) (letters_all (x ∷ xs) n is)).0

pub first_digit : (name : List ℕ) (n : ℕ) (rest : List ℕ) → IsRow name n → begins is_ascii_digit (name ++ rest) ≡ true
first_digit [] n rest is = absurd (omega (arith, digits_some [] n is))
first_digit (x ∷ xs) n rest is =
    (and_parts (is_ascii_digit x) (list_all is_ascii_digit xs) (digits_all (x ∷ xs) n is)).0

-- a row begins with a digit or a $
marked_digit : (m : Bool) (text : List ℕ) → begins is_ascii_digit text ≡ true
    → (begins is_ascii_alphabetic (marked_text m text) ≡ false) × (begins is_joined (marked_text m text) ≡ true)
marked_digit true text is = (refl, refl)
marked_digit false text is = digit_begins text is

pub row_begins : (text : List ℕ) (row : Coordinate) (rest : List ℕ) → IsMarkedRow text row
    → (begins is_ascii_alphabetic (text ++ rest) ≡ false) × (begins is_joined (text ++ rest) ≡ true)
row_begins text row rest is =
    rw (is.spelled, marked-append row.marked is.name rest)
    (marked_digit row.marked (is.name ++ rest) (first_digit is.name row.line rest is.name_is))

-- no text begins with a row and with a column
apart : (m m' : Bool) (digits letters : List ℕ) → begins is_ascii_digit digits ≡ true
    → begins is_ascii_alphabetic letters ≡ true → marked_text m digits ≡ marked_text m' letters → ⊥
apart true true digits letters a b e =
    let same : digits ≡ letters = cc in
    false≢true (sym (digit_begins digits a).0 ∙ ap (begins is_ascii_alphabetic) same ∙ b)
apart false false digits letters a b e =
    false≢true (sym (digit_begins digits a).0 ∙ ap (begins is_ascii_alphabetic) e ∙ b)
apart true false digits letters a b e = false≢true (ap (begins is_ascii_alphabetic) e ∙ b)
apart false true digits letters a b e = false≢true (ap (begins is_ascii_digit) (sym e) ∙ a)

-- the parts of the corners that can stand at the front of a text
abbrev pub NoRow : List ℕ → Type 0
NoRow text = (row : Coordinate) (rest : List ℕ) → ¬ (Stands IsWholeRow text row rest)

abbrev pub NoColumn : List ℕ → Type 0
NoColumn text = (column : Coordinate) (rest : List ℕ) → ¬ (Stands IsWholeColumn text column rest)

pub cell_parts : (text : List ℕ) (row column : Coordinate) (rest : List ℕ)
    → Stands IsStandingCorner text (Cell row column) rest
    → (behind : List ℕ) × Stands IsWholeColumn text column behind × Stands IsWholeRow behind row rest
cell_parts text row column rest stands =
    let cell = stands.is.corner_is in (
      cell.second ++ rest,
      record {
        lexeme = cell.first;
        spelled = stands.spelled ∙ ap (λ t. t ++ rest) cell.spelled ∙ append_assoc cell.first cell.second rest;
        is = record { marked = cell.column_is; whole = (row_begins cell.second row rest cell.row_is).0 };
      },
      record {
        lexeme = cell.second;
        spelled = refl;
        is = record {
          marked = cell.row_is;
          whole = begins_same is_joined is_ascii_digit false false alone_no_digit rest stands.is.alone refl;
        };
      },
    )

pub column_parts : (text : List ℕ) (column : Coordinate) (rest : List ℕ)
    → Stands IsStandingCorner text (Column column) rest
    → Stands IsWholeColumn text column rest × NoRow rest
column_parts text column rest stands = (
  record {
    lexeme = stands.lexeme;
    spelled = stands.spelled;
    is = record {
      marked = stands.is.corner_is;
      whole = begins_same is_joined is_ascii_alphabetic false false alone_no_letter rest stands.is.alone refl;
    };
  },
  λ row behind other. false≢true (sym stands.is.alone ∙ ap (begins is_joined) other.spelled
      ∙ (row_begins other.lexeme row behind other.is.marked).1),
)

pub row_parts : (text : List ℕ) (row : Coordinate) (rest : List ℕ)
    → Stands IsStandingCorner text (Row row) rest
    → Stands IsWholeRow text row rest × NoColumn text
row_parts text row rest stands = (
  record {
    lexeme = stands.lexeme;
    spelled = stands.spelled;
    is = record {
      marked = stands.is.corner_is;
      whole = begins_same is_joined is_ascii_digit false false alone_no_digit rest stands.is.alone refl;
    };
  },
  λ column behind other.
      let name = stands.is.corner_is in
      let name' = other.is.marked in
      apart row.marked column.marked (name.name ++ rest) (name'.name ++ behind)
      (first_digit name.name row.line rest name.name_is) (first_letter name'.name column.line behind name'.name_is)
      (sym (stands.spelled ∙ ap (λ t. t ++ rest) name.spelled ∙ marked-append row.marked name.name rest)
      ∙ (other.spelled ∙ ap (λ t. t ++ behind) name'.spelled ∙ marked-append column.marked name'.name behind)),
)

-- the answer for a corner before a rest
abbrev pub standing_answer : MarkedCorner → List ℕ → Option (MarkedCorner × List ℕ)
standing_answer corner rest = if begins is_joined rest then None else Some (corner, rest)

standing_found : (v : Bool) (text : List ℕ) (corner : MarkedCorner) (rest lexeme : List ℕ) → begins is_joined rest ≡ v
    → text ≡ lexeme ++ rest → IsMarkedCorner lexeme corner
    → IfSome {T = MarkedCorner × List ℕ} (if v then None else Some (corner, rest))
    (λ read. Stands IsStandingCorner text read.0 read.1)
standing_found true text corner rest lexeme alone e is = tt
standing_found false text corner rest lexeme alone e is =
    record { lexeme = lexeme; spelled = e; is = record { corner_is = is; alone = alone } }

standing_same : (text : List ℕ) (corner corner' : MarkedCorner) (rest rest' : List ℕ)
    → Stands IsStandingCorner text corner' rest'
    → corner ≡ corner' → rest ≡ rest' → standing_answer corner rest ≡ Some (corner', rest')
standing_same text corner corner' rest rest' stands e f = rw (e, f, stands.is.alone) refl

pub no_corner : (text : List ℕ) → Reads IsWholeColumn text None → Reads IsWholeRow text None
    → Reads IsStandingCorner text None
no_corner text column row = record {
  found = tt;
  only = λ corner rest stands. absurd (none corner rest stands);
}
  where
    none : (corner : MarkedCorner) (rest : List ℕ) → ¬ (Stands IsStandingCorner text corner rest)
    none (Cell r c) rest stands = none_read column (cell_parts text r c rest stands).1
    none (Column c) rest stands = none_read column (column_parts text c rest stands).0
    none (Row r) rest stands = none_read row (row_parts text r rest stands).0

pub row_corner : (text : List ℕ) (row : Coordinate) (behind : List ℕ) → Reads IsWholeColumn text None
    → Reads IsWholeRow text (Some (row, behind)) → Reads IsStandingCorner text (standing_answer (Row row) behind)
row_corner text row behind no_column row_is = record {
  found = standing_found (begins is_joined behind) text (Row row) behind row_is.found.lexeme refl
      row_is.found.spelled row_is.found.is.marked;
  only = λ corner rest stands. same corner rest stands;
}
  where
    same : (corner : MarkedCorner) (rest : List ℕ) → Stands IsStandingCorner text corner rest
        → standing_answer (Row row) behind ≡ Some (corner, rest)
    same (Cell r c) rest stands = absurd (none_read no_column (cell_parts text r c rest stands).1)
    same (Column c) rest stands = absurd (none_read no_column (column_parts text c rest stands).0)
    same (Row r) rest stands =
        let one = one_read row_is (row_parts text r rest stands).0 in
        standing_same text (Row row) (Row r) behind rest stands (ap Row one.0) one.1

pub column_corner : (text : List ℕ) (column : Coordinate) (behind : List ℕ)
    → Reads IsWholeColumn text (Some (column, behind)) → Reads IsWholeRow behind None
    → Reads IsStandingCorner text (standing_answer (Column column) behind)
column_corner text column behind column_is no_row = record {
  found = standing_found (begins is_joined behind) text (Column column) behind column_is.found.lexeme refl
      column_is.found.spelled column_is.found.is.marked;
  only = λ corner rest stands. same corner rest stands;
}
  where
    same : (corner : MarkedCorner) (rest : List ℕ) → Stands IsStandingCorner text corner rest
        → standing_answer (Column column) behind ≡ Some (corner, rest)
    same (Cell r c) rest stands =
        let parts = cell_parts text r c rest stands in
        let one = one_read column_is parts.1 in
        absurd (none_read no_row (subst (λ (t : List ℕ). Stands IsWholeRow t r rest) (sym one.1) parts.2))
    same (Column c) rest stands =
        let one = one_read column_is (column_parts text c rest stands).0 in
        standing_same text (Column column) (Column c) behind rest stands (ap Column one.0) one.1
    same (Row r) rest stands = absurd ((row_parts text r rest stands).1 column behind column_is.found)

pub cell_corner : (text : List ℕ) (row column : Coordinate) (middle behind : List ℕ)
    → Reads IsWholeColumn text (Some (column, middle)) → Reads IsWholeRow middle (Some (row, behind))
    → Reads IsStandingCorner text (standing_answer (Cell row column) behind)
cell_corner text row column middle behind column_is row_is = record {
  found = standing_found (begins is_joined behind) text (Cell row column) behind
      (column_is.found.lexeme ++ row_is.found.lexeme) refl
      (column_is.found.spelled ∙ ap (λ t. column_is.found.lexeme ++ t) row_is.found.spelled
      ∙ sym (append_assoc column_is.found.lexeme row_is.found.lexeme behind))
      (record {
        first = column_is.found.lexeme;
        second = row_is.found.lexeme;
        spelled = refl;
        column_is = column_is.found.is.marked;
        row_is = row_is.found.is.marked;
      });
  only = λ corner rest stands. same corner rest stands;
}
  where
    same : (corner : MarkedCorner) (rest : List ℕ) → Stands IsStandingCorner text corner rest
        → standing_answer (Cell row column) behind ≡ Some (corner, rest)
    same (Cell r c) rest stands =
        let parts = cell_parts text r c rest stands in
        let one = one_read column_is parts.1 in
        let two = one_read row_is (subst (λ (t : List ℕ). Stands IsWholeRow t r rest) (sym one.1) parts.2) in
        standing_same text (Cell row column) (Cell r c) behind rest stands (rw (one.0, two.0) refl) two.1
    same (Column c) rest stands =
        let parts = column_parts text c rest stands in
        let one = one_read column_is parts.0 in
        absurd (parts.1 row behind (subst (λ (t : List ℕ). Stands IsWholeRow t row behind) one.1 row_is.found))
    same (Row r) rest stands = absurd ((row_parts text r rest stands).1 column middle column_is.found)
