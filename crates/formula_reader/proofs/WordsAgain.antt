-- A word and a truth value are read again where they are followed by the end of an operand.
use Rattle.a1_notation.specs.OneRun.{passes_weaker}
use Rattle.std.specs.Prelude.{codes}
use Rattle.std.proofs.Common.{◌≡◌, ℕ, Bool, true, false, List, [], ◌∷◌, ◌++◌, refl, sym, ap, ◌∙◌, arith, inl, inr, append_assoc, subst}
use Rattle.std.specs.Char.{is_ascii_alphabetic, to_ascii_lowercase}
use Rattle.std.specs.List.{list_all, list_any}
use Rattle.std.specs.Str.{str_eq_ignore_ascii_case, str_to_ascii_lowercase}
use Rattle.std.proofs.lemmas.Bool.{or_parts, false≢true, cases_Bool}
use Rattle.std.proofs.lemmas.Bool.Decides.{nat_tests}
use Rattle.std.proofs.lemmas.List.{append-nil}
use Rattle.std.proofs.lemmas.List.Folds.{list_all-map}
use Rattle.std.proofs.lemmas.Slice.Eq.{bytes_eq-Decides}
use Rattle.formula_reader.specs.declared.tokens.token.Token.{Token}
use Rattle.formula_reader.specs.declared.tokens.token.Token.TheVariants.{Reference, Word, Truth}
use Rattle.formula_reader.specs.declared.tokens.token.MarkedArea.{MarkedArea}
use Rattle.a1_notation.specs.Run.{begins, IsRun}
use Rattle.a1_notation.specs.Word.{is_in_word}
use Rattle.formula_reader.specs.Reference.{is_joined, IsReference}
use Rattle.formula_reader.specs.Form.{word_token, Form, Titled, FunctionName, OwnReference, AnyWord, Digits, Quoted, Sign, IsAnyWord, Fits}
use Rattle.formula_reader.specs.Tokens.{FitsNowhere, FitsFirst, forms}
use Rattle.formula_reader.proofs.Firsts.{behind_word}
use Rattle.formula_reader.proofs.Lexemes.{IsWordText, goes_on}
use Rattle.formula_reader.proofs.PartBytes.{all_of_each, part_no_letters}
use Rattle.formula_reader.proofs.OperandsAgain.{is_operand_byte, part_within, no_more_word, not_joined, past_names}

word_in_operand : (b : ℕ) → is_in_word b ≡ true → is_operand_byte b ≡ true
word_in_operand b h = rw h refl

-- a word before the end of an operand, where no reference stands
word_first : (word rest : List ℕ) → IsWordText word → begins goes_on rest ≡ false
    → FitsNowhere OwnReference (word ++ rest) → FitsFirst forms word (word_token word) rest
word_first word rest is ends none =
    let run : IsRun is_in_word word rest = record { all = is.all; ends = no_more_word rest ends } in
    past_names word rest (passes_weaker is_in_word is_operand_byte word_in_operand word is.all) ends (word_token word)
    (inr (none, inl (record { word = record { first = is.first; run = run }; token_is = refl })))

-- no reference stands before letters and the end of an operand
letters_no_reference : (own rest : List ℕ) → list_all is_ascii_alphabetic own ≡ true → begins goes_on rest ≡ false
    → FitsNowhere OwnReference (own ++ rest)
letters_no_reference own rest all ends lexeme token rest' e is =
    let part_is = is.reference.stands.part_is in
    let within = part_within own rest lexeme rest' is.written ends e part_is in
    part_no_letters lexeme is.written part_is (all_of_each is_ascii_alphabetic own lexeme within.0 within.1 all).0

-- TRUE and FALSE are all letters in any case
lowered_letter : (b : ℕ) → is_ascii_alphabetic (to_ascii_lowercase b) ≡ true → is_ascii_alphabetic b ≡ true
lowered_letter b h = grind (arith, nat_tests)

same_letters : (own name : List ℕ) → list_all is_ascii_alphabetic (str_to_ascii_lowercase name) ≡ true
    → str_eq_ignore_ascii_case own name ≡ true → list_all is_ascii_alphabetic own ≡ true
same_letters own name all same =
    let lowered = (bytes_eq-Decides (str_to_ascii_lowercase own) (str_to_ascii_lowercase name)).0 same in
    passes_weaker (λ b. is_ascii_alphabetic (to_ascii_lowercase b)) is_ascii_alphabetic lowered_letter own
    (sym (list_all-map is_ascii_alphabetic to_ascii_lowercase own) ∙ ap (list_all is_ascii_alphabetic) lowered ∙ all)

pub truth_letters : (own : List ℕ) (truth : Bool) → word_token own ≡ Truth truth
    → list_all is_ascii_alphabetic own ≡ true
truth_letters own truth is =
    elim (cases_Bool (str_eq_ignore_ascii_case own (codes "TRUE"))) [
      | inl same ↦ same_letters own (codes "TRUE") refl same
      | inr other ↦ elim (cases_Bool (str_eq_ignore_ascii_case own (codes "FALSE"))) [
        | inl same ↦ same_letters own (codes "FALSE") refl same
        | inr other' ↦
            let word : Word own ≡ Truth truth = rw (other, other') at is in
            let none : ⊥ = cc in
            absurd none
      ]
    ]

-- so they are their tokens
pub truth_fits : (own : List ℕ) (truth : Bool) (rest : List ℕ) → IsWordText own → word_token own ≡ Truth truth
    → begins goes_on rest ≡ false → FitsFirst forms own (Truth truth) rest
truth_fits own truth rest word is ends =
    subst (λ (t : Token). FitsFirst forms own t rest) is
    (word_first own rest word ends (letters_no_reference own rest (truth_letters own truth is) ends))

-- of all forms one makes words
abbrev is_word : Token → Bool
is_word (Word word) = true
is_word other = false

abbrev makes_words : Form → Bool
makes_words AnyWord = true
makes_words (Sign spelling token) = is_word token
makes_words other = false

no_word_here : (form : Form) (own word rest : List ℕ) → makes_words form ≡ false → Fits form own (Word word) rest → ⊥
no_word_here Titled own word rest none is = cc
no_word_here FunctionName own word rest none is = cc
no_word_here OwnReference own word rest none is = cc
no_word_here AnyWord own word rest none is = false≢true (sym none)
no_word_here Digits own word rest none is = cc
no_word_here Quoted own word rest none is = cc
no_word_here (Sign spelling token) own word rest none is = false≢true (sym none ∙ ap is_word (sym is.1))

no_word_later : (later : List Form) (own word rest : List ℕ) → list_any makes_words later ≡ false
    → FitsFirst later own (Word word) rest → ⊥
no_word_later [] own word rest none fits = fits
no_word_later (form ∷ later) own word rest none (inl is) =
    no_word_here form own word rest (or_parts (makes_words form) (list_any makes_words later) none).0 is
no_word_later (form ∷ later) own word rest none (inr is) =
    no_word_later later own word rest (or_parts (makes_words form) (list_any makes_words later) none).1 is.1

-- so a lexeme of a word has it, and no reference stands there
word_parts : (own word rest : List ℕ) → FitsFirst forms own (Word word) rest
    → FitsNowhere OwnReference (own ++ rest) × IsAnyWord own (Word word) rest
word_parts own word rest (inl titled) = absurd (no_word_here Titled own word rest refl titled)
word_parts own word rest (inr (_, inl function)) = absurd (no_word_here FunctionName own word rest refl function)
word_parts own word rest (inr (_, inr (_, inl reference))) =
    absurd (no_word_here OwnReference own word rest refl reference)
word_parts own word rest (inr (_, inr (_, inr (none, inl is)))) = (none, is)
word_parts own word rest (inr (_, inr (_, inr (_, inr is)))) =
    absurd (no_word_later behind_word own word rest refl is.1)

-- it is a word
pub own_word : (word rest : List ℕ) → FitsFirst forms word (Word word) rest → IsWordText word
own_word word rest fits =
    let is = (word_parts word word rest fits).1 in
    record { first = is.word.first; all = is.word.run.all }

-- the first byte of a text before another
begins_less : (class : ℕ → Bool) (xs ys : List ℕ) → begins class (xs ++ ys) ≡ false → begins class xs ≡ false
begins_less class [] ys none = refl
begins_less class (x ∷ xs) ys none = none

begins_neither : (class : ℕ → Bool) (xs ys : List ℕ) → begins class xs ≡ false → begins class ys ≡ false
    → begins class (xs ++ ys) ≡ false
begins_neither class [] ys none none' = none'
begins_neither class (x ∷ xs) ys none none' = none

-- a reference within an operand stands there without what follows the operand
reference_alone : (part more rest : List ℕ) (w : MarkedArea) → begins goes_on rest ≡ false
    → IsReference part w (more ++ rest) → IsReference part w more
reference_alone part more rest w ends is = record {
  stands = record { part_is = is.stands.part_is; alone = begins_less is_joined more rest is.stands.alone };
  longest = λ longer other behind e there.
      is.longest longer other (behind ++ rest)
      (sym (append_assoc part more rest) ∙ ap (λ t. t ++ rest) e ∙ append_assoc longer behind rest)
      (record {
        part_is = there.part_is;
        alone = begins_neither is_joined behind rest there.alone (not_joined rest ends);
      });
}

-- so where none stands at a word alone, none stands at it before the end of an operand
no_reference_before : (word rest : List ℕ) → begins goes_on rest ≡ false → FitsNowhere OwnReference (word ++ [])
    → FitsNowhere OwnReference (word ++ rest)
no_reference_before word rest ends none lexeme token rest' e is =
    let within = part_within word rest lexeme rest' is.written ends e is.reference.stands.part_is in
    let there = subst (λ (t : List ℕ). IsReference lexeme is.written t) within.2 is.reference in
    none lexeme (Reference is.written) within.0 (append-nil word ∙ within.1)
    (record {
      written = is.written;
      reference = reference_alone lexeme within.0 rest is.written ends there;
      token_is = refl;
    })

-- and the word is its token
pub word_fits : (word : List ℕ) (rest : List ℕ) → FitsFirst forms word (Word word) [] → begins goes_on rest ≡ false
    → FitsFirst forms word (Word word) rest
word_fits word rest fits ends =
    let parts = word_parts word word [] fits in
    subst (λ (t : Token). FitsFirst forms word t rest) (sym parts.1.token_is)
    (word_first word rest (own_word word [] fits) ends (no_reference_before word rest ends parts.0))

-- nor does what follows the operand take a reference from it
reference_before : (part more rest : List ℕ) (w : MarkedArea) → begins goes_on rest ≡ false
    → IsReference part w more → IsReference part w (more ++ rest)
reference_before part more rest w ends is = record {
  stands = record {
    part_is = is.stands.part_is;
    alone = begins_neither is_joined more rest is.stands.alone (not_joined rest ends);
  };
  longest = λ longer other behind e there.
      let within = part_within (part ++ more) rest longer behind other ends
      (append_assoc part more rest ∙ e) there.part_is in
      is.longest longer other within.0 within.1
      (record { part_is = there.part_is; alone = begins_less is_joined within.0 rest (rw within.2 at there.alone) });
}

no_reference_alone : (word rest : List ℕ) → begins goes_on rest ≡ false → FitsNowhere OwnReference (word ++ rest)
    → FitsNowhere OwnReference (word ++ [])
no_reference_alone word rest ends none lexeme token rest' e is =
    none lexeme (Reference is.written) (rest' ++ rest)
    (ap (λ t. t ++ rest) (sym (append-nil word) ∙ e) ∙ append_assoc lexeme rest' rest)
    (record {
      written = is.written;
      reference = reference_before lexeme rest' rest is.written ends is.reference;
      token_is = refl;
    })

-- so a word before the end of an operand is a word alone
pub word_alone : (word rest : List ℕ) → FitsFirst forms word (Word word) rest → begins goes_on rest ≡ false
    → FitsFirst forms word (Word word) []
word_alone word rest fits ends =
    let parts = word_parts word word rest fits in
    subst (λ (t : Token). FitsFirst forms word t []) (sym parts.1.token_is)
    (word_first word [] (own_word word rest fits) refl (no_reference_alone word rest ends parts.0))
