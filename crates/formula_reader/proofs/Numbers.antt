-- The number at the front of a text.
use Rattle.a1_notation.specs.OneRun.{run_is_one}
use Rattle.std.proofs.Common.{◌≡◌, ℕ, ◌<◌, ◌≤◌, true, List, [], ◌∷◌, ◌++◌, length, get_or, refl, sym, ◌∙◌, arith}
use Rattle.std.specs.Prelude.{◌≢◌, Some, None, Result, Ok, Err, pos}
use Rattle.std.specs.Char.{is_ascii_digit, digit_value}
use Rattle.std.specs.List.{list_all}
use Rattle.std.specs.Result.{result_ok}
use Rattle.cell_value.specs.Limits.{largest}
use Rattle.std.specs.Str.Parse.{AllDigits, digits_value, ParsesUnsigned}
use Rattle.std.proofs.lemmas.Bool.{and_parts, false≢true}
use Rattle.std.proofs.lemmas.Bool.Decides.{nat_tests}
use Rattle.std.proofs.lemmas.Str.Parse.{IsNumeralModel, numerals_by_value, tells_digits, parse_plain}
use Rattle.formula_reader.specs.declared.tokens.token.Token.{Token}
use Rattle.formula_reader.specs.declared.tokens.token.Token.TheVariants.{Number}
use Rattle.a1_notation.specs.Run.{begins, IsRun}
use Rattle.formula_reader.specs.Form.{IsNumber}
use Rattle.formula_reader.specs.Reading.{Stands, Reads}

numerals : IsNumeralModel (AllDigits 10) (digits_value 10)
numerals = numerals_by_value (AllDigits 10) tells_digits

digit_is : (b : ℕ) → is_ascii_digit b ≡ true → (digit_value b < 10) × (b ≢ 43)
digit_is b h = (grind (arith, nat_tests), λ e. absurd (false≢true (rw e at h)))

pub digits_are : (digits : List ℕ) → list_all is_ascii_digit digits ≡ true → AllDigits 10 digits
digits_are [] all = tt
digits_are (d ∷ ds) all =
    let parts = and_parts (is_ascii_digit d) (list_all is_ascii_digit ds) all in
    ((digit_is d parts.0).0, digits_are ds parts.1)

no_plus : (digits : List ℕ) → list_all is_ascii_digit digits ≡ true → get_or digits 0 0 ≢ 43
no_plus [] all = λ e. absurd (omega arith)
no_plus (d ∷ ds) all = (digit_is d (and_parts (is_ascii_digit d) (list_all is_ascii_digit ds) all).0).1

some_begins : (digits : List ℕ) → list_all is_ascii_digit digits ≡ true → 0 < length digits
    → begins is_ascii_digit digits ≡ true
some_begins [] all some = absurd (omega arith)
some_begins (d ∷ ds) all some = (and_parts (is_ascii_digit d) (list_all is_ascii_digit ds) all).0

begins_some : (digits : List ℕ) → begins is_ascii_digit digits ≡ true → 0 < length digits
begins_some [] some = absurd (false≢true some)
begins_some (d ∷ ds) some = omega arith

-- the digits that stand there
module _ (text digits rest : List ℕ) (whole : text ≡ digits ++ rest) (run : IsRun is_ascii_digit digits rest) where
  same : (token : Token) (rest' : List ℕ) → Stands IsNumber text token rest'
      → IsNumber digits token rest × (rest ≡ rest')
  same token rest' stands =
      let runs = run_is_one is_ascii_digit digits rest stands.lexeme rest' run stands.is.run
      (sym whole ∙ stands.spelled) in (
        record {
          some = rw runs.0 stands.is.some;
          run = run;
          exact = rw runs.0 stands.is.exact;
          token_is = rw runs.0 stands.is.token_is;
        },
        runs.1,
      )

  pub number_read : digits_value 10 digits ≤ largest → 0 < length digits
      → Reads IsNumber text (Some (Number (pos (digits_value 10 digits)), rest))
  number_read small some = record {
    found = record {
      lexeme = digits;
      spelled = whole;
      is = record { some = some_begins digits run.all some; run = run; exact = small; token_is = refl };
    };
    only = λ token rest' stands.
        let is = same token rest' stands in
        rw (is.0.token_is, is.1) refl;
  }

  pub no_number_read : ¬ ((0 < length digits) × (digits_value 10 digits ≤ largest)) → Reads IsNumber text None
  no_number_read none = record {
    found = tt;
    only = λ token rest' stands.
        let is = (same token rest' stands).0 in
        absurd (none (begins_some digits is.some, is.exact));
  }

-- what `parse` makes of digits
pub digits_parsed : {E : Type 0} (digits : List ℕ) (number : ℕ) (parsed : Result ℕ E)
    → list_all is_ascii_digit digits ≡ true → ParsesUnsigned 64 10 digits parsed → Some number ≡ result_ok parsed
    → (0 < length digits) × (number ≡ digits_value 10 digits)
digits_parsed {E} digits number (Ok other) all given e =
    let same : number ≡ other = cc in
    let known = parse_plain numerals {E = E} 64 digits (Ok other) given (no_plus digits all) in
    (known.0.1, same ∙ known.1)
digits_parsed digits number (Err error) all given e = absurd cc

pub digits_not_parsed : {E : Type 0} (digits : List ℕ) (parsed : Result ℕ E)
    → list_all is_ascii_digit digits ≡ true → ParsesUnsigned 64 10 digits parsed → None ≡ result_ok parsed
    → ¬ ((0 < length digits) × (digits_value 10 digits ≤ largest))
digits_not_parsed digits (Ok other) all given e = absurd cc
digits_not_parsed {E} digits (Err error) all given e =
    let refused = parse_plain numerals {E = E} 64 digits (Err error) given (no_plus digits all) in
    λ is. refused (digits_are digits all, is.0, omega (arith, is.1))
