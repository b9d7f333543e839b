-- Two sheets with titles that differ are known by them.
use Rattle.std.proofs.Common.{◌≡◌, ℕ, Bool, true, false, List, length, refl, subst, arith}
use Rattle.std.specs.Prelude.{Some, None, ◌==◌, if◌then◌else◌}
use Rattle.std.specs.Str.{str_eq_ignore_ascii_case, str_to_ascii_lowercase}
use Rattle.std.proofs.lemmas.Bool.{eqb-false}
use Rattle.std.proofs.lemmas.Option.{none-some}
use Rattle.std.proofs.lemmas.Slice.Eq.{bytes_eq-Decides}
use Rattle.formula_reader.specs.ReadBack.{IsKnown, AreKnown}
use Rattle.formula_tests.specs.Workbook.{sheets_of}

module _ (first second : List ℕ) (some : (length first == 0) ≡ false) (other_some : (length second == 0) ≡ false)
    (differ : str_to_ascii_lowercase first ≡ str_to_ascii_lowercase second → ⊥) where
  apart : str_eq_ignore_ascii_case first second ≡ false
  apart =
      unequal (str_eq_ignore_ascii_case first second)
      (bytes_eq-Decides (str_to_ascii_lowercase first) (str_to_ascii_lowercase second)).0
    where
      unequal : (same : Bool) → (same ≡ true → str_to_ascii_lowercase first ≡ str_to_ascii_lowercase second)
          → same ≡ false
      unequal true is = absurd (differ (is refl))
      unequal false is = refl

  same_title : (title : List ℕ) → str_eq_ignore_ascii_case title title ≡ true
  same_title title = (bytes_eq-Decides (str_to_ascii_lowercase title) (str_to_ascii_lowercase title)).1 refl

  own : IsKnown (sheets_of first second) 0
  own = record {
    titled = record { title = first; has = refl; some = omega (arith, eqb-false (length first) 0 some) };
    names = rw (same_title first) refl;
  }

  other : IsKnown (sheets_of first second) 7
  other = record {
    titled = record { title = second; has = refl; some = omega (arith, eqb-false (length second) 0 other_some) };
    names = rw (apart, same_title second) refl;
  }

  named : (one two : Bool) (sheet : ℕ) → (if one then Some 0 else if two then Some 7 else None) ≡ Some sheet
      → IsKnown (sheets_of first second) sheet
  named true two sheet is = let same : 0 ≡ sheet = cc in subst (λ s. IsKnown (sheets_of first second) s) same own
  named false true sheet is = let same : 7 ≡ sheet = cc in subst (λ s. IsKnown (sheets_of first second) s) same other
  named false false sheet is = absurd (none-some sheet is)

  pub two_known : AreKnown (sheets_of first second) 0
  two_known = record {
    own = own.titled;
    others = λ name sheet is.
        named (str_eq_ignore_ascii_case first name) (str_eq_ignore_ascii_case second name) sheet is;
  }
