-- Runs of bytes of one class: where they end.
use Rattle.std.proofs.Common.{◌≡◌, ℕ, ◌+◌, ◌-◌, ◌<◌, Bool, true, false, List, [], ◌∷◌, ◌++◌, length, get_or, take, drop, refl, sym, ◌∙◌, arith, inl, inr, drop-cons, take-append-drop}
use Rattle.std.specs.Prelude.{◌≢◌}
use Rattle.std.specs.List.{list_all, prefix_len}
use Rattle.std.specs.Str.{IsUtf8, IsCharBoundary}
use Rattle.std.proofs.lemmas.Bool.{cases_lt}
use Rattle.std.proofs.lemmas.Bool.Decides.{nat_tests}
use Rattle.std.proofs.lemmas.List.{length-take, get_or-take, drop_all}
use Rattle.std.proofs.lemmas.List.Recursion.{and_from_places}
use Rattle.std.proofs.lemmas.List.Sums.{prefix_len_passes, prefix_len_stops, prefix_len-le-length}
use Rattle.std.proofs.lemmas.Str.{IsCharBoundary-start, IsCharBoundary-end, IsCharBoundary-after_ascii, IsCharBoundary-before_ascii}
use Rattle.a1_notation.specs.declared.class.Class.{Class}
use Rattle.a1_notation.specs.declared.class.Class.TheVariants.{Letter, Digit, InWord, Blank}
use Rattle.a1_notation.specs.Class.{class_test}
use Rattle.a1_notation.specs.Run.{IsRun}
use Rattle.a1_notation.specs.OneRun.{run_is_one}

-- the run that a text begins with
pub first_run : (class : ℕ → Bool) (text : List ℕ)
    → IsRun class (take (prefix_len class text) text) (drop (prefix_len class text) text)
first_run class text =
    let n = prefix_len class text in
    record {
      all = and_from_places (list_all class) class refl (λ _ _. refl) (take n text) 0
          (λ i h. let short : i < n = omega (arith, length-take n text) in
          rw (get_or-take n text i 0 short) (prefix_len_passes class text i 0 short));
      ends = elim (cases_lt n (length text)) [
        | inl less ↦ rw (drop-cons text n 0 less) (prefix_len_stops class text 0 less)
        | inr all ↦ rw (drop_all n text all) refl
      ];
    }

-- a run is the front that passes the test
pub run_is_front : (class : ℕ → Bool) (text xs ys : List ℕ) → text ≡ xs ++ ys → IsRun class xs ys
    → (xs ≡ take (prefix_len class text) text) × (ys ≡ drop (prefix_len class text) text)
run_is_front class text xs ys e run =
    run_is_one class xs ys (take (prefix_len class text) text) (drop (prefix_len class text) text) run
    (first_run class text)
    (sym e ∙ sym (take-append-drop (prefix_len class text) text))

-- a text may be cut behind bytes of a class that has ASCII bytes alone
behind_ascii : (class : ℕ → Bool) (text : List ℕ) (n : ℕ) → ((b : ℕ) → class b ≡ true → b < 128)
    → IsUtf8 text → n ≡ prefix_len class text → IsCharBoundary text n
behind_ascii class text n ascii utf8 e =
    elim (cases_lt 0 n) [
      | inl some ↦
          let last = prefix_len_passes class text (n - 1) 0 (omega arith) in
          let back : n - 1 + 1 ≡ n = omega arith in
          rw back at (IsCharBoundary-after_ascii text (n - 1) utf8 (omega (arith, prefix_len-le-length class text))
          (ascii (get_or text (n - 1) 0) last))
      | inr none ↦
          let zero' : n ≡ 0 = omega arith in
          rw zero' (IsCharBoundary-start text utf8)
    ]

-- and before a byte that is no part of a word
before_ascii : (class : ℕ → Bool) (text : List ℕ) (n : ℕ) → ((b : ℕ) → class b ≡ false → b < 128)
    → n ≡ prefix_len class text → IsCharBoundary text n
before_ascii class text n ascii e =
    elim (cases_lt n (length text)) [
      | inl less ↦
          let less' : prefix_len class text < length text = omega arith in
          let stop : class (get_or text n 0) ≡ false = rw e (prefix_len_stops class text 0 less') in
          IsCharBoundary-before_ascii text n less (ascii (get_or text n 0) stop)
      | inr all ↦
          let end' : n ≡ length text = omega (arith, prefix_len-le-length class text) in
          rw end' (IsCharBoundary-end text)
    ]

letter_is_ascii : (b : ℕ) → class_test Letter b ≡ true → b < 128
letter_is_ascii b h = grind (arith, nat_tests)

digit_is_ascii : (b : ℕ) → class_test Digit b ≡ true → b < 128
digit_is_ascii b h = grind (arith, nat_tests)

blank_is_ascii : (b : ℕ) → class_test Blank b ≡ true → b < 128
blank_is_ascii b h = grind (arith, nat_tests)

other_is_ascii : (b : ℕ) → class_test InWord b ≡ false → b < 128
other_is_ascii b h = grind (arith, nat_tests)

pub run_boundary : (class : Class) (text : List ℕ) (n : ℕ) → IsUtf8 text
    → n ≡ prefix_len (class_test class) text → IsCharBoundary text n
run_boundary Letter text n utf8 e = behind_ascii (class_test Letter) text n letter_is_ascii utf8 e
run_boundary Digit text n utf8 e = behind_ascii (class_test Digit) text n digit_is_ascii utf8 e
run_boundary InWord text n utf8 e = before_ascii (class_test InWord) text n other_is_ascii e
run_boundary Blank text n utf8 e = behind_ascii (class_test Blank) text n blank_is_ascii utf8 e

-- a text that isn't a byte and a rest doesn't begin with the byte
pub not_first : (c : ℕ) (text : List ℕ) → 0 < c → ((rest : List ℕ) → text ≢ c ∷ rest) → get_or text 0 0 ≢ c
not_first c [] some none e = absurd (omega arith)
not_first c (x ∷ xs) some none e = none xs (rw e refl)
