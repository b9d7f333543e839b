-- A lexeme is its token again before whatever leaves it as it is.
use Rattle.a1_notation.specs.OneRun.{run_is_one}
use Rattle.std.proofs.Common.{◌≡◌, ℕ, Bool, true, false, List, [], ◌∷◌, ◌++◌, refl, sym, ap, ◌∙◌, inl, inr, arith, append_assoc, subst}
use Rattle.std.specs.Prelude.{None, Some, ◌≢◌, ◌==◌, ◌&&◌, slice_index, if◌then◌else◌, pos, codes}
use Rattle.std.specs.Char.{is_ascii_alphabetic, is_ascii_digit}
use Rattle.std.specs.List.{list_all}
use Rattle.std.proofs.lemmas.Bool.{false≢true, eq-eqb, eqb-true, and_from, or_parts}
use Rattle.std.proofs.lemmas.Bool.Decides.{nat_tests}
use Rattle.std.proofs.lemmas.List.{append_cancel_right}
use Rattle.formula_reader.specs.declared.tokens.corner.Coordinate.{Coordinate}
use Rattle.formula_reader.specs.declared.tokens.corner.MarkedCorner.{MarkedCorner}
use Rattle.formula_reader.specs.declared.tokens.corner.MarkedCorner.TheVariants.{Cell, Column, Row}
use Rattle.formula_reader.specs.declared.tokens.token.Operator.{Operator}
use Rattle.formula_reader.specs.declared.tokens.token.Operator.TheVariants.{Less, Greater}
use Rattle.formula_reader.specs.declared.tokens.token.Token.{Token}
use Rattle.formula_reader.specs.declared.tokens.token.Token.TheVariants as token
use Rattle.formula_reader.specs.declared.tokens.token.MarkedArea.{MarkedArea}
use Rattle.a1_notation.specs.Run.{begins, IsRun}
use Rattle.a1_notation.specs.Word.{begins_word}
use Rattle.a1_notation.specs.Quoted.{quoted}
use Rattle.formula_reader.specs.Corner.{marked_text, IsMarkedColumn, IsMarkedRow, IsMarkedCell, IsMarkedCorner}
use Rattle.formula_reader.specs.Reference.{IsPart}
use Rattle.formula_reader.specs.Form.{IsBehindTitle, IsNumber, Form, Titled, FunctionName, OwnReference, AnyWord, Sign}
use Rattle.formula_reader.specs.Tokens.{FitsNowhere, FitsFirst, forms}
use Rattle.formula_reader.specs.Reading.{Reads}
use Rattle.formula_reader.proofs.Corners.{first_letter}
use Rattle.formula_reader.proofs.Lexemes.{IsWordText, IsNumberText, operator_text, goes_on, widens}
use Rattle.formula_reader.proofs.Marks.{marked-append, digits_all}
use Rattle.formula_reader.proofs.Starts.{starts_titled, may_start, begins-front, cannot_start}
use Rattle.formula_reader.proofs.Titles.{no_title_mark, first_function}

-- the text begins with the spelling
abbrev spells : List ℕ → List ℕ → Bool
spells [] text = true
spells (byte ∷ spelling) [] = false
spells (byte ∷ spelling) (first ∷ text) = first == byte && spells spelling text

-- whether the form may fit there, by the first byte or by the spelling
abbrev may_fit : Form → List ℕ → Bool
may_fit (Sign spelling sign) text = spells spelling text
may_fit other text = may_start other text

spells_front : (spelling rest : List ℕ) → spells spelling (spelling ++ rest) ≡ true
spells_front [] rest = refl
spells_front (byte ∷ spelling) rest =
    and_from (byte == byte) (spells spelling (spelling ++ rest)) (eq-eqb byte byte refl) (spells_front spelling rest)

-- a form that may not fit there fits nowhere
cannot_fit : (form : Form) (text : List ℕ) → may_fit form text ≡ false → FitsNowhere form text
cannot_fit (Sign spelling sign) text none =
    λ lexeme token rest e is.
    false≢true (sym none ∙ ap (spells spelling) (e ∙ ap (λ t. t ++ rest) is.0) ∙ spells_front spelling rest)
cannot_fit other text none = cannot_start other text none

-- the forms from the first on that may fit there
abbrev behind_unfit : List ℕ → List Form → List Form
behind_unfit text [] = []
behind_unfit text (form ∷ later) = if may_fit form text then form ∷ later else behind_unfit text later

-- the others are passed over
pass_unfit : (own : List ℕ) (token : Token) (rest : List ℕ) (tried : List Form)
    → FitsFirst (behind_unfit (own ++ rest) tried) own token rest → FitsFirst tried own token rest
pass_unfit own token rest [] fits = fits
pass_unfit own token rest (form ∷ later) fits =
    passed (may_fit form (own ++ rest)) refl (λ behind. pass_unfit own token rest later behind) fits
  where
    passed : (v : Bool) → may_fit form (own ++ rest) ≡ v
        → (FitsFirst (behind_unfit (own ++ rest) later) own token rest → FitsFirst later own token rest)
        → FitsFirst (if v then form ∷ later else behind_unfit (own ++ rest) later) own token rest
        → FitsFirst (form ∷ later) own token rest
    passed true may behind fits = fits
    passed false none behind fits = inr (cannot_fit form (own ++ rest) none, behind fits)

-- signs that begin no other sign
pub lost_fits : (rest : List ℕ) → FitsFirst forms (codes "#REF!") token.Lost rest
lost_fits rest = pass_unfit (codes "#REF!") token.Lost rest forms (inl (refl, refl))

pub open_fits : (rest : List ℕ) → FitsFirst forms (40 ∷ []) token.Open rest
open_fits rest = pass_unfit (40 ∷ []) token.Open rest forms (inl (refl, refl))

pub close_fits : (rest : List ℕ) → FitsFirst forms (41 ∷ []) token.Close rest
close_fits rest = pass_unfit (41 ∷ []) token.Close rest forms (inl (refl, refl))

pub comma_fits : (rest : List ℕ) → FitsFirst forms (44 ∷ []) token.Comma rest
comma_fits rest = pass_unfit (44 ∷ []) token.Comma rest forms (inl (refl, refl))

-- < and > begin other signs, too
pub less_fits : (rest : List ℕ) → begins widens rest ≡ false → FitsFirst forms (60 ∷ []) (token.Operator Less) rest
less_fits [] ends = pass_unfit (60 ∷ []) (token.Operator Less) [] forms (inl (refl, refl))
less_fits (b ∷ rest) ends =
    let narrow = or_parts (b == 61) (b == 62) ends in
    pass_unfit (60 ∷ []) (token.Operator Less) (b ∷ rest) forms (rw (narrow.0, narrow.1) (inl (refl, refl)))

greater_fits : (rest : List ℕ) → begins (λ byte. byte == 61) rest ≡ false
    → FitsFirst forms (62 ∷ []) (token.Operator Greater) rest
greater_fits [] ends = pass_unfit (62 ∷ []) (token.Operator Greater) [] forms (inl (refl, refl))
greater_fits (b ∷ rest) ends =
    pass_unfit (62 ∷ []) (token.Operator Greater) (b ∷ rest) forms (rw ends (inl (refl, refl)))

-- what makes another operator of this one
abbrev pub widens_sign : Operator → ℕ → Bool
widens_sign Less byte = widens byte
widens_sign Greater byte = byte == 61
widens_sign other byte = false

pub sign_fits : (operator : Operator) (rest : List ℕ) → begins (widens_sign operator) rest ≡ false
    → FitsFirst forms (operator_text operator) (token.Operator operator) rest
sign_fits Less rest ends = less_fits rest ends
sign_fits Greater rest ends = greater_fits rest ends
sign_fits other rest ends =
    pass_unfit (operator_text other) (token.Operator other) rest forms (inl (refl, refl))

narrower : (operator : Operator) (byte : ℕ) → widens byte ≡ false → widens_sign operator byte ≡ false
narrower Less byte narrow = narrow
narrower Greater byte narrow = (or_parts (byte == 61) (byte == 62) narrow).0
narrower other byte narrow = refl

none_widens : (operator : Operator) (rest : List ℕ) → begins widens rest ≡ false
    → begins (widens_sign operator) rest ≡ false
none_widens operator [] ends = refl
none_widens operator (b ∷ rest) ends = narrower operator b ends

pub operator_fits : (operator : Operator) (rest : List ℕ) → begins widens rest ≡ false
    → FitsFirst forms (operator_text operator) (token.Operator operator) rest
operator_fits operator rest ends = sign_fits operator rest (none_widens operator rest ends)

-- a text ends before a byte that ends an operand
no_quote_behind : (rest : List ℕ) → begins goes_on rest ≡ false → slice_index rest 0 ≢ 34
no_quote_behind [] ends is = cc
no_quote_behind (b ∷ rest) ends is = false≢true (sym ends ∙ ap goes_on is)

pub closed_fits : (text rest : List ℕ) → slice_index rest 0 ≢ 34
    → FitsFirst forms (quoted 34 text) (token.Text text) rest
closed_fits text rest closed =
    pass_unfit (quoted 34 text) (token.Text text) rest forms
    (inl (record { text = text; spelled = refl; closed = closed; token_is = refl }))

pub text_fits : (text rest : List ℕ) → begins goes_on rest ≡ false
    → FitsFirst forms (quoted 34 text) (token.Text text) rest
text_fits text rest ends = closed_fits text rest (no_quote_behind rest ends)

-- what is read before a rest has the text before it as its lexeme
fits_read : (own : List ℕ) (token : Token) (rest : List ℕ) → Reads (FitsFirst forms) (own ++ rest) (Some (token, rest))
    → FitsFirst forms own token rest
fits_read own token rest reads =
    let same = append_cancel_right own reads.found.lexeme rest reads.found.spelled in
    subst (λ (t : List ℕ). FitsFirst forms t token rest) (sym same) reads.found.is

-- a word before ( (40) is the name of a function
untitled : (rest : List ℕ) → Reads IsBehindTitle (40 ∷ rest) None
untitled rest = no_title_mark (40 ∷ rest) (λ other e. cc)

before_bracket : (name rest : List ℕ) → IsWordText name → FitsFirst forms name (token.Function name) (40 ∷ rest)
before_bracket name rest word =
    fits_read name (token.Function name) (40 ∷ rest)
    (first_function (name ++ 40 ∷ rest) name (40 ∷ rest) refl
    (record { first = word.first; run = record { all = word.all; ends = refl } }) (untitled rest) refl)

pub function_fits : (name rest : List ℕ) → IsWordText name → begins (λ byte. byte == 40) rest ≡ true
    → FitsFirst forms name (token.Function name) rest
function_fits name [] word bracket = absurd (false≢true bracket)
function_fits name (b ∷ rest) word bracket = rw (eqb-true b 40 bracket) (before_bracket name rest word)

-- a digit begins no word and no title, no column and no cell
digit_no_word : (b : ℕ) → is_ascii_digit b ≡ true → begins_word b ≡ false
digit_no_word b h = grind (arith, nat_tests)

digit_no_title : (b : ℕ) → is_ascii_digit b ≡ true → starts_titled b ≡ false
digit_no_title b h = grind (arith, nat_tests)

letter_no_digit : (b : ℕ) → is_ascii_alphabetic b ≡ true → is_ascii_digit b ≡ false
letter_no_digit b h = grind (arith, nat_tests)

digit_begins : (text : List ℕ) → begins is_ascii_digit text ≡ true
    → (begins begins_word text ≡ false) × (begins starts_titled text ≡ false)
digit_begins [] first = absurd (false≢true first)
digit_begins (b ∷ text) first = (digit_no_word b first, digit_no_title b first)

letter_begins : (text : List ℕ) → begins is_ascii_alphabetic text ≡ true → begins is_ascii_digit text ≡ false
letter_begins [] first = absurd (false≢true first)
letter_begins (b ∷ text) first = letter_no_digit b first

marked_letter : (m : Bool) (text : List ℕ) → begins is_ascii_alphabetic text ≡ true
    → begins is_ascii_digit (marked_text m text) ≡ false
marked_letter true text first = refl
marked_letter false text first = letter_begins text first

column_no_digit : (text : List ℕ) (column : Coordinate) (rest : List ℕ) → IsMarkedColumn text column
    → begins is_ascii_digit (text ++ rest) ≡ false
column_no_digit text column rest is =
    rw (is.spelled, marked-append column.marked is.name rest)
    (marked_letter column.marked (is.name ++ rest) (first_letter is.name column.line rest is.name_is))

cell_no_digit : (text : List ℕ) (row column : Coordinate) (rest : List ℕ) → IsMarkedCell text row column
    → begins is_ascii_digit (text ++ rest) ≡ false
cell_no_digit text row column rest is =
    rw (is.spelled, append_assoc is.first is.second rest)
    (column_no_digit is.first column (is.second ++ rest) is.column_is)

-- a row that begins with one is digits
marked_digits : (m : Bool) (name rest : List ℕ) → list_all is_ascii_digit name ≡ true
    → begins is_ascii_digit (marked_text m name ++ rest) ≡ true → list_all is_ascii_digit (marked_text m name) ≡ true
marked_digits true name rest all first = absurd (false≢true first)
marked_digits false name rest all first = all

row_digits : (text : List ℕ) (row : Coordinate) (rest : List ℕ) → IsMarkedRow text row
    → begins is_ascii_digit (text ++ rest) ≡ true → list_all is_ascii_digit text ≡ true
row_digits text row rest is first =
    rw is.spelled
    (marked_digits row.marked is.name rest (digits_all is.name row.line is.name_is) (rw is.spelled at first))

-- no digit stands behind an operand
end_no_digit : (b : ℕ) → goes_on b ≡ false → is_ascii_digit b ≡ false
end_no_digit b h = grind (arith, nat_tests)

end_no_colon : (b : ℕ) → goes_on b ≡ false → (b == 58) ≡ false
end_no_colon b h = grind (arith, nat_tests)

no_digit_behind : (rest : List ℕ) → begins goes_on rest ≡ false → begins is_ascii_digit rest ≡ false
no_digit_behind [] ends = refl
no_digit_behind (b ∷ rest) ends = end_no_digit b ends

no_colon_behind : (rest : List ℕ) → begins goes_on rest ≡ false → begins (λ byte. byte == 58) rest ≡ false
no_colon_behind [] ends = refl
no_colon_behind (b ∷ rest) ends = end_no_colon b ends

-- digits before neither a digit nor : (58)
module _ (own rest : List ℕ) (some : begins is_ascii_digit own ≡ true) (all : list_all is_ascii_digit own ≡ true)
    (ends : begins is_ascii_digit rest ≡ false) (no_colon : begins (λ byte. byte == 58) rest ≡ false) where
  first_byte : begins is_ascii_digit (own ++ rest) ≡ true
  first_byte = begins-front is_ascii_digit own rest some

  own_run : IsRun is_ascii_digit own rest
  own_run = record { all = all; ends = ends }

  no_other : (text : List ℕ) → own ++ rest ≡ text → begins is_ascii_digit text ≡ false → ⊥
  no_other text e other = false≢true (sym other ∙ ap (begins is_ascii_digit) (sym e) ∙ first_byte)

  -- they are no corner before : (58)
  no_corner : (corner : MarkedCorner) (text behind : List ℕ) → own ++ rest ≡ text ++ 58 ∷ behind
      → IsMarkedCorner text corner → ⊥
  no_corner (Cell row column) text behind e is =
      no_other (text ++ 58 ∷ behind) e (cell_no_digit text row column (58 ∷ behind) is)
  no_corner (Column column) text behind e is =
      no_other (text ++ 58 ∷ behind) e (column_no_digit text column (58 ∷ behind) is)
  no_corner (Row row) text behind e is =
      let digits = row_digits text row (58 ∷ behind) is (ap (begins is_ascii_digit) (sym e) ∙ first_byte) in
      let colon =
      (run_is_one is_ascii_digit own rest text (58 ∷ behind) own_run (record { all = digits; ends = refl }) e).1 in
      false≢true (sym no_colon ∙ ap (begins (λ byte. byte == 58)) colon)

  -- so no reference stands there
  no_part : (text : List ℕ) (written : MarkedArea) (behind : List ℕ) → own ++ rest ≡ text ++ behind
      → IsPart text written → ⊥
  no_part text written behind e (inl cell) =
      no_other (text ++ behind) e (cell_no_digit text cell.row cell.column behind cell.cell)
  no_part text written behind e (inr two) =
      no_corner two.one two.first (two.second ++ behind)
      (e ∙ ap (λ t. t ++ behind) two.spelled ∙ append_assoc two.first (58 ∷ two.second) behind) two.one_is

  no_reference : FitsNowhere OwnReference (own ++ rest)
  no_reference lexeme token behind e is = no_part lexeme is.written behind e is.reference.stands.part_is

pub digits_fit : (own : List ℕ) (value : ℕ) (rest : List ℕ) → IsNumberText own value
    → begins is_ascii_digit rest ≡ false → begins (λ byte. byte == 58) rest ≡ false
    → FitsFirst forms own (token.Number (pos value)) rest
digits_fit own value rest number ends no_colon =
    let first = digit_begins (own ++ rest) (begins-front is_ascii_digit own rest number.some) in
    let titled = cannot_start Titled (own ++ rest) first.1 in
    let function = cannot_start FunctionName (own ++ rest) first.0 in
    let reference = no_reference own rest number.some number.all ends no_colon in
    let word = cannot_start AnyWord (own ++ rest) first.0 in
    let digits : IsNumber own (token.Number (pos value)) rest = record {
      some = number.some;
      run = own_run own rest number.some number.all ends no_colon;
      exact = rw number.value_is number.exact;
      token_is = rw number.value_is refl;
    } in
    inr (titled, inr (function, inr (reference, inr (word, inl digits))))

pub number_fits : (own : List ℕ) (value : ℕ) (rest : List ℕ) → IsNumberText own value → begins goes_on rest ≡ false
    → FitsFirst forms own (token.Number (pos value)) rest
number_fits own value rest number ends =
    digits_fit own value rest number (no_digit_behind rest ends) (no_colon_behind rest ends)
