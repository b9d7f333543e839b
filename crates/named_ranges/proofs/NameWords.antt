-- What may be a name is one whole word.
use Rattle.std.proofs.Common.{◌≡◌, ◌<◌, ℕ, true, false, List, [], ◌∷◌, length, refl, arith}
use Rattle.std.specs.Prelude.{slice_index}
use Rattle.std.specs.List.{list_all}
use Rattle.std.specs.Char.{is_ascii_digit}
use Rattle.std.proofs.lemmas.Bool.{and_parts}
use Rattle.std.proofs.lemmas.Bool.Decides.{nat_tests}
use Rattle.std.proofs.lemmas.List.Elements.{All-weaker}
use Rattle.std.proofs.lemmas.List.Sums.{AllPass-from_list_all, list_all-from_AllPass}
use Rattle.a1_notation.specs.Word.{begins_word, is_in_word, IsWord}
use Rattle.a1_notation.specs.Run.{begins}
use Rattle.named_ranges.specs.NameRule.{is_name_byte, IsName}

byte_in_word : (byte : ℕ) → is_name_byte byte ≡ true → is_in_word byte ≡ true
byte_in_word byte is = grind (arith, nat_tests)

first_of_word : (byte : ℕ) → is_name_byte byte ≡ true → is_ascii_digit byte ≡ false → begins_word byte ≡ true
first_of_word byte is no_digit = grind (arith, nat_tests)

begins_name : (name : List ℕ) → 0 < length name → list_all is_name_byte name ≡ true
    → is_ascii_digit (slice_index name 0) ≡ false → begins begins_word name ≡ true
begins_name [] some all first = absurd (omega arith)
begins_name (byte ∷ rest) some all first =
    first_of_word byte (and_parts (is_name_byte byte) (list_all is_name_byte rest) all).0 first

pub name_is_word : (name : List ℕ) → IsName name → IsWord name []
name_is_word name is = record {
  first = begins_name name is.some is.bytes is.first;
  run = record {
    all = list_all-from_AllPass is_in_word name
        (All-weaker (λ byte. is_name_byte byte ≡ true) (λ byte. is_in_word byte ≡ true) byte_in_word name
        (AllPass-from_list_all is_name_byte name is.bytes));
    ends = refl;
  };
}
