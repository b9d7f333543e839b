-- A reference is read again where it is followed by the end of an operand.
use Rattle.a1_notation.specs.OneRun.{passes_weaker}
use Rattle.std.proofs.Common.{◌≡◌, ℕ, Bool, true, false, List, [], ◌∷◌, ◌++◌, length, refl, sym, ap, ◌∙◌, arith, inl, inr, append_assoc}
use Rattle.std.specs.Prelude.{◌&&◌, ◌||◌, ◌==◌, not, slice_index}
use Rattle.std.specs.List.{list_all}
use Rattle.std.proofs.lemmas.Bool.{and_parts, false≢true}
use Rattle.std.proofs.lemmas.Bool.Decides.{nat_tests}
use Rattle.std.proofs.lemmas.List.{length-append}
use Rattle.formula_reader.specs.declared.tokens.token.Token.{Token}
use Rattle.formula_reader.specs.declared.tokens.token.Token.TheVariants.{Reference, TitledReference}
use Rattle.formula_reader.specs.declared.tokens.token.MarkedArea.{MarkedArea}
use Rattle.a1_notation.specs.Run.{begins}
use Rattle.a1_notation.specs.Word.{is_in_word}
use Rattle.formula_reader.specs.Reference.{IsPart, is_joined, IsReference}
use Rattle.formula_reader.specs.Form.{IsTitleBefore, IsBehindTitle, Titled, FunctionName}
use Rattle.formula_reader.specs.Tokens.{FitsNowhere, FitsFirst, forms}
use Rattle.formula_reader.proofs.Firsts.{behind_function}
use Rattle.formula_reader.proofs.PartBytes.{is_part_byte, part_bytes, all_of_each}
use Rattle.formula_reader.proofs.Lexemes.{IsTitleText, IsTitledText, ends_operand, goes_on}

-- a byte of a word or of a reference
abbrev pub is_operand_byte : ℕ → Bool
is_operand_byte byte = is_in_word byte || byte == 36 || byte == 58

-- a byte that is none of these and doesn't end an operand either, as ' (39), ! (33) and ( (40)
abbrev is_foreign : ℕ → Bool
is_foreign byte = not (is_operand_byte byte) && not (ends_operand byte)

-- a front of one class ends where the class ends at the latest
lies_within : (class : ℕ → Bool) (xs ys front behind : List ℕ) → xs ++ ys ≡ front ++ behind
    → list_all class front ≡ true → begins class ys ≡ false
    → (more : List ℕ) × (xs ≡ front ++ more) × (behind ≡ more ++ ys)
lies_within class xs ys [] behind e all none = (xs, refl, sym e)
lies_within class [] ys (c ∷ front) behind e all none =
    absurd (false≢true (sym none ∙ ap (begins class) e ∙ (and_parts (class c) (list_all class front) all).0))
lies_within class (x ∷ xs) ys (c ∷ front) behind e all none =
    let head : x ≡ c = cc in
    let tail : xs ++ ys ≡ front ++ behind = cc in
    let inner = lies_within class xs ys front behind tail (and_parts (class c) (list_all class front) all).1 none in
    (inner.0, cc (head, inner.1), inner.2)

-- what ends an operand goes on with nothing of it
end_no_word : (b : ℕ) → goes_on b ≡ false → is_in_word b ≡ false
end_no_word b h = grind (arith, nat_tests)

end_no_part : (b : ℕ) → goes_on b ≡ false → is_part_byte b ≡ false
end_no_part b h = grind (arith, nat_tests)

end_not_joined : (b : ℕ) → goes_on b ≡ false → is_joined b ≡ false
end_not_joined b h = grind (arith, nat_tests)

end_not_foreign : (b : ℕ) → goes_on b ≡ false → is_foreign b ≡ false
end_not_foreign b h = grind (arith, nat_tests)

operand_not_foreign : (b : ℕ) → is_operand_byte b ≡ true → is_foreign b ≡ false
operand_not_foreign b h = rw h refl

ends_class : (class : ℕ → Bool) → ((b : ℕ) → goes_on b ≡ false → class b ≡ false) → (rest : List ℕ)
    → begins goes_on rest ≡ false → begins class rest ≡ false
ends_class class none [] ends = refl
ends_class class none (b ∷ rest) ends = none b ends

pub not_joined : (rest : List ℕ) → begins goes_on rest ≡ false → begins is_joined rest ≡ false
not_joined rest ends = ends_class is_joined end_not_joined rest ends

pub no_more_word : (rest : List ℕ) → begins goes_on rest ≡ false → begins is_in_word rest ≡ false
no_more_word rest ends = ends_class is_in_word end_no_word rest ends

-- a reference at the front of an operand lies within it
pub part_within : (own rest part behind : List ℕ) (w : MarkedArea) → begins goes_on rest ≡ false
    → own ++ rest ≡ part ++ behind → IsPart part w
    → (more : List ℕ) × (own ≡ part ++ more) × (behind ≡ more ++ rest)
part_within own rest part behind w ends e is =
    lies_within is_part_byte own rest part behind e (part_bytes part w is)
    (ends_class is_part_byte end_no_part rest ends)

-- so a reference before the end of an operand is the longest that stands there
pub is_reference : (part : List ℕ) (w : MarkedArea) (rest : List ℕ) → IsPart part w → begins goes_on rest ≡ false
    → IsReference part w rest
is_reference part w rest is ends = record {
  stands = record { part_is = is; alone = not_joined rest ends };
  longest = λ longer other behind e there.
      let within = part_within part rest longer behind other ends e there.part_is in
      omega (arith, ap length within.1, length-append longer within.0);
}

-- an operand and its end begin with no foreign byte
no_foreign : (own rest : List ℕ) → list_all is_operand_byte own ≡ true → begins goes_on rest ≡ false
    → begins is_foreign (own ++ rest) ≡ false
no_foreign [] rest bytes ends = ends_class is_foreign end_not_foreign rest ends
no_foreign (b ∷ own) rest bytes ends =
    operand_not_foreign b (and_parts (is_operand_byte b) (list_all is_operand_byte own) bytes).0

bracket_is_foreign : (text : List ℕ) → slice_index text 0 ≡ 40 → begins is_foreign text ≡ true
bracket_is_foreign [] is = absurd (omega (arith, is))
bracket_is_foreign (b ∷ text) is = rw is refl

-- a word or a reference before the end of an operand has no title and isn't a function's name
module _ (own rest : List ℕ) (bytes : list_all is_operand_byte own ≡ true) (ends : begins goes_on rest ≡ false) where
  -- no foreign byte stands behind a word at the front
  word_behind : (word behind : List ℕ) → own ++ rest ≡ word ++ behind → list_all is_in_word word ≡ true
      → begins is_foreign behind ≡ false
  word_behind word behind e all =
      let within = lies_within is_in_word own rest word behind e all (no_more_word rest ends) in
      rw within.2
      (no_foreign within.0 rest (all_of_each is_operand_byte own word within.0 within.1 bytes).1 ends)

  -- so no ! does, and no (
  untitled : (sheet title behind rest' : List ℕ) (w : MarkedArea) → IsTitleBefore sheet title (behind ++ rest')
      → own ++ rest ≡ sheet ++ behind ++ rest' → ¬ (IsBehindTitle behind w rest')
  untitled sheet title behind rest' w (inl quoted) e is =
      let first : begins is_foreign (own ++ rest) ≡ true = rw (e, quoted.spelled) refl in
      false≢true (sym (no_foreign own rest bytes ends) ∙ first)
  untitled sheet title behind rest' w (inr named) e is =
      let first : begins is_foreign (behind ++ rest') ≡ true = rw is.spelled refl in
      false≢true
      (sym (word_behind sheet (behind ++ rest') (e ∙ append_assoc sheet behind rest') named.0.run.all) ∙ first)

  no_titled : FitsNowhere Titled (own ++ rest)
  no_titled lexeme token rest' e is =
      untitled is.sheet is.title is.behind rest' is.written is.title_is
      (e ∙ ap (λ t. t ++ rest') is.spelled) is.reference

  no_function : FitsNowhere FunctionName (own ++ rest)
  no_function lexeme token rest' e is =
      false≢true (sym (word_behind lexeme rest' e is.word.run.all) ∙ bracket_is_foreign rest' is.bracket)

  -- and the first form is one of those behind them
  pub past_names : (token : Token) → FitsFirst behind_function own token rest → FitsFirst forms own token rest
  past_names token is = inr (no_titled, inr (no_function, is))

-- a reference is its token, of its own sheet or of another one
part_in_operand : (b : ℕ) → is_part_byte b ≡ true → is_operand_byte b ≡ true
part_in_operand b h = grind (arith, nat_tests)

pub reference_fits : (own : List ℕ) (written : MarkedArea) (rest : List ℕ) → IsPart own written
    → begins goes_on rest ≡ false → FitsFirst forms own (Reference written) rest
reference_fits own written rest is ends =
    past_names own rest
    (passes_weaker is_part_byte is_operand_byte part_in_operand own (part_bytes own written is)) ends
    (Reference written)
    (inl (record { written = written; reference = is_reference own written rest is ends; token_is = refl }))

title_before : (sheet title behind : List ℕ) → IsTitleText sheet title → begins is_in_word behind ≡ false
    → IsTitleBefore sheet title behind
title_before sheet title behind (inl quoted) ends = inl quoted
title_before sheet title behind (inr named) ends =
    inr (record { first = named.0.first; run = record { all = named.0.all; ends = ends } }, named.1)

pub titled_reference_fits : (title own : List ℕ) (written : MarkedArea) (rest : List ℕ)
    → IsTitledText title own (λ part. IsPart part written) → begins goes_on rest ≡ false
    → FitsFirst forms own (TitledReference title written) rest
titled_reference_fits title own written rest is ends = inl (record {
  sheet = is.sheet;
  title = title;
  behind = 33 ∷ is.part;
  written = written;
  spelled = is.whole;
  title_is = title_before is.sheet title (33 ∷ is.part ++ rest) is.title_is refl;
  reference = record { part = is.part; spelled = refl; reference = is_reference is.part written rest is.names ends };
  token_is = refl;
})
