-- Columns and rows with a $ before them or without one.
use Rattle.a1_notation.specs.OneRun.{run_is_one}
use Rattle.std.proofs.Common.{◌≡◌, ℕ, ◌<◌, Bool, true, false, List, [], ◌∷◌, ◌++◌, length, refl, sym, ap, ◌∙◌, arith, subst}
use Rattle.std.specs.Prelude.{Some, None}
use Rattle.std.specs.List.{list_all}
use Rattle.std.specs.Char.{is_ascii_alphabetic, is_ascii_digit, digit_value}
use Rattle.std.specs.Str.Parse.{AllDigits}
use Rattle.std.proofs.lemmas.Bool.{and_parts, and_from, false≢true}
use Rattle.std.proofs.lemmas.Bool.Decides.{nat_tests}
use Rattle.a1_notation.specs.Column.{IsColumn}
use Rattle.a1_notation.specs.Area.{IsRow}
use Rattle.formula_reader.specs.declared.tokens.corner.Coordinate.{Coordinate}
use Rattle.a1_notation.specs.Run.{begins, IsRun}
use Rattle.formula_reader.specs.Corner.{marked_text}
use Rattle.formula_reader.specs.Parts.{is_dollar, IsWhole}
use Rattle.formula_reader.specs.Reading.{Reads}

-- a text begins with a $ or it doesn't
one_mark : (m m' : Bool) (behind behind' text : List ℕ) → m ≡ begins is_dollar text
    → text ≡ marked_text m behind → text ≡ marked_text m' behind' → begins is_dollar behind' ≡ false
    → (m ≡ m') × (behind ≡ behind')
one_mark true true behind behind' text e is is' none =
    let both : 36 ∷ behind ≡ 36 ∷ behind' = sym is ∙ is' in
    (refl, cc)
one_mark false false behind behind' text e is is' none = (refl, sym is ∙ is')
one_mark true false behind behind' text e is is' none =
    absurd (false≢true (sym none ∙ ap (begins is_dollar) (sym is') ∙ sym e))
one_mark false true behind behind' text e is is' none =
    absurd (false≢true (e ∙ ap (begins is_dollar) is'))

pub marked-append : (m : Bool) (name rest : List ℕ) → marked_text m name ++ rest ≡ marked_text m (name ++ rest)
marked-append true name rest = refl
marked-append false name rest = refl

begins-append : (class other : ℕ → Bool) (name rest : List ℕ) → ((b : ℕ) → class b ≡ true → other b ≡ false)
    → 0 < length name → list_all class name ≡ true → begins other (name ++ rest) ≡ false
begins-append class other [] rest apart some all = absurd (omega arith)
begins-append class other (x ∷ xs) rest apart some all = apart x (and_parts (class x) (list_all class xs) all).0

-- and whether it does is told by the mark before a name
pub mark_is : (class : ℕ → Bool) (m : Bool) (name rest text : List ℕ) → ((b : ℕ) → class b ≡ true → is_dollar b ≡ false)
    → 0 < length name → list_all class name ≡ true → text ≡ marked_text m (name ++ rest) → m ≡ begins is_dollar text
mark_is class true name rest text apart some all e = rw e refl
mark_is class false name rest text apart some all e =
    rw e (sym (begins-append class is_dollar name rest apart some all))

-- what is said here of columns and of rows: a name is one or more bytes of a class that has no $
module _ (class : ℕ → Bool) (IsName : List ℕ → ℕ → Type 0)
    (all_of : (name : List ℕ) (n : ℕ) → IsName name n → list_all class name ≡ true)
    (some_of : (name : List ℕ) (n : ℕ) → IsName name n → 0 < length name)
    (no_dollar : (b : ℕ) → class b ≡ true → is_dollar b ≡ false)
    (one_name : (name : List ℕ) (m n : ℕ) → IsName name m → IsName name n → m ≡ n)
    (text behind name rest : List ℕ) (m : Bool) (mark : m ≡ begins is_dollar text)
    (marked : text ≡ marked_text m behind) (split : behind ≡ name ++ rest) (run : IsRun class name rest) where
  split_of : (lexeme : List ℕ) (value : Coordinate) (rest' : List ℕ) → text ≡ lexeme ++ rest'
      → IsWhole class IsName lexeme value rest'
      → (m ≡ value.marked) × IsName name value.line × (rest ≡ rest')
  split_of lexeme value rest' e is =
      let all = all_of is.marked.name value.line is.marked.name_is in
      let some = some_of is.marked.name value.line is.marked.name_is in
      let spelled : text ≡ marked_text value.marked (is.marked.name ++ rest') =
      e ∙ ap (λ t. t ++ rest') is.marked.spelled ∙ marked-append value.marked is.marked.name rest' in
      let both = one_mark m value.marked behind (is.marked.name ++ rest') text mark marked spelled
      (begins-append class is_dollar is.marked.name rest' no_dollar some all) in
      let runs =
      run_is_one class name rest is.marked.name rest' run (record { all = all; ends = is.whole })
      (sym split ∙ both.1) in
      (both.0, subst (λ (n : List ℕ). IsName n value.line) (sym runs.0) is.marked.name_is, runs.1)

  pub name_read : (line : ℕ) → IsName name line
      → Reads (IsWhole class IsName) text (Some (record { line = line; marked = m }, rest))
  name_read line is = record {
    found = record {
      lexeme = marked_text m name;
      spelled = marked ∙ ap (marked_text m) split ∙ sym (marked-append m name rest);
      is = record { marked = record { name = name; spelled = refl; name_is = is }; whole = run.ends };
    };
    only = λ value rest' stands.
        let of = split_of stands.lexeme value rest' stands.spelled stands.is in
        let same : line ≡ value.line = one_name name line value.line is of.1 in
        rw (same, of.0, of.2) refl;
  }

  pub no_name_read : ((line : ℕ) → ¬ (IsName name line)) → Reads (IsWhole class IsName) text None
  no_name_read none = record {
    found = tt;
    only = λ value rest' stands.
        absurd (none value.line (split_of stands.lexeme value rest' stands.spelled stands.is).1);
  }

-- columns are such names, and so are rows
pub letters_all : (name : List ℕ) (n : ℕ) → IsColumn 3 name n → list_all is_ascii_alphabetic name ≡ true
letters_all name n is = is.letters.all

pub letters_some : (name : List ℕ) (n : ℕ) → IsColumn 3 name n → 0 < length name
letters_some name n is = is.letters.some

pub letter_no_dollar : (b : ℕ) → is_ascii_alphabetic b ≡ true → is_dollar b ≡ false
letter_no_dollar b h = grind (arith, nat_tests)

pub one_column : (name : List ℕ) (m n : ℕ) → IsColumn 3 name m → IsColumn 3 name n → m ≡ n
one_column name m n a b = omega (arith, a.value, b.value)

digit_is_digit : (b : ℕ) → digit_value b < 10 → is_ascii_digit b ≡ true
digit_is_digit b h = grind (arith, nat_tests)

all_digits : (digits : List ℕ) → AllDigits 10 digits → list_all is_ascii_digit digits ≡ true
all_digits [] all = refl
all_digits (d ∷ ds) all =
    and_from (is_ascii_digit d) (list_all is_ascii_digit ds) (digit_is_digit d all.0) (all_digits ds all.1)

pub digits_all : (name : List ℕ) (n : ℕ) → IsRow name n → list_all is_ascii_digit name ≡ true
digits_all name n is = all_digits name is.digits.1

pub digits_some : (name : List ℕ) (n : ℕ) → IsRow name n → 0 < length name
digits_some name n is = is.digits.0

pub digit_no_dollar : (b : ℕ) → is_ascii_digit b ≡ true → is_dollar b ≡ false
digit_no_dollar b h = grind (arith, nat_tests)

pub one_row : (name : List ℕ) (m n : ℕ) → IsRow name m → IsRow name n → m ≡ n
one_row name m n a b = omega (arith, a.value, b.value)
