-- Options that stand one behind another.
use Rattle.std.proofs.Common.{◌≡◌, ◌≢◌, ℕ, List, [], ◌∷◌, ◌++◌, ◌⊎◌, inl, inr, sym, subst, ◌∙◌, refl}
use Rattle.std.specs.Prelude.{codes}
use Rattle.std.specs.List.{AllByRecursion}
use Rattle.command_line.specs.Words.{HasNoEquals, HasOption, AreOptions, IsPlain, IsValue}
use Rattle.command_line.proofs.Splits.{no_seam, same_split, without_dashes}

-- a name and its value
abbrev pub Pair : Type 0
Pair = List ℕ × List ℕ

head_is : (a b : List ℕ) (xs ys : List (List ℕ)) → a ∷ xs ≡ b ∷ ys → a ≡ b
head_is a b xs ys e = cc

tail_is : (a b : List ℕ) (xs ys : List (List ℕ)) → a ∷ xs ≡ b ∷ ys → xs ≡ ys
tail_is a b xs ys e = cc

pub parts_are : (a b : List ℕ) (xs ys : List (List ℕ)) → a ∷ xs ≡ b ∷ ys → (a ≡ b) × (xs ≡ ys)
parts_are a b xs ys e = (head_is a b xs ys e, tail_is a b xs ys e)

-- ---- words are one list of options at most

module _ (name name' value value' : List ℕ) (words rest rest' : List (List ℕ)) where
  in_both : HasNoEquals name → HasNoEquals name'
      → ((words ≡ (codes "--" ++ (name ++ (codes "=" ++ value))) ∷ rest)
      ⊎ (words ≡ (codes "--" ++ name) ∷ value ∷ rest))
      → ((words ≡ (codes "--" ++ (name' ++ (codes "=" ++ value'))) ∷ rest')
      ⊎ (words ≡ (codes "--" ++ name') ∷ value' ∷ rest'))
      → (name ≡ name') × (value ≡ value') × (rest ≡ rest')
  in_both none none' (inl has) (inl has') =
      let both = parts_are (codes "--" ++ (name ++ (61 ∷ value))) (codes "--" ++ (name' ++ (61 ∷ value'))) rest rest'
      (sym has ∙ has') in
      let texts = same_split name name' value value' none none'
      (without_dashes (name ++ (61 ∷ value)) (name' ++ (61 ∷ value')) both.0) in
      (texts.0, texts.1, both.1)
  in_both none none' (inl has) (inr has') =
      let both = parts_are (codes "--" ++ (name ++ (61 ∷ value))) (codes "--" ++ name') rest (value' ∷ rest')
      (sym has ∙ has') in
      absurd (no_seam name' name value none' (sym (without_dashes (name ++ (61 ∷ value)) name' both.0)))
  in_both none none' (inr has) (inl has') =
      let both = parts_are (codes "--" ++ name) (codes "--" ++ (name' ++ (61 ∷ value'))) (value ∷ rest) rest'
      (sym has ∙ has') in
      absurd (no_seam name name' value' none (without_dashes name (name' ++ (61 ∷ value')) both.0))
  in_both none none' (inr has) (inr has') =
      let both = parts_are (codes "--" ++ name) (codes "--" ++ name') (value ∷ rest) (value' ∷ rest')
      (sym has ∙ has') in
      let behind = parts_are value value' rest rest' both.1 in
      (without_dashes name name' both.0, behind.0, behind.1)

  same_option : HasOption name value words rest → HasOption name' value' words rest'
      → (name ≡ name') × (value ≡ value') × (rest ≡ rest')
  same_option has has' = in_both has.0.0 has'.0.0 has.0.1 has'.0.1

-- where no word is, there is no option
no_option : (name value : List ℕ) (words rest : List (List ℕ)) → words ≡ [] → HasOption name value words rest → ⊥
no_option name value words rest none ((no_equals, inl has), is) = absurd cc
no_option name value words rest none ((no_equals, inr has), is) = absurd cc

pair_of : (option other : Pair) → option.0 ≡ other.0 → option.1 ≡ other.1 → option ≡ other
pair_of (name, value) (name', value') same same' = cc

pub same_options : (options others : List Pair) (words : List (List ℕ)) → AreOptions options words
    → AreOptions others words → options ≡ others
same_options [] [] words are are' = refl
same_options [] (other ∷ others) words are are' =
    absurd (no_option other.0 other.1 words are'.0 are are'.1)
same_options (option ∷ options) [] words are are' =
    absurd (no_option option.0 option.1 words are.0 are' are.1)
same_options (option ∷ options) (other ∷ others) words are are' =
    let same = same_option option.0 other.0 option.1 other.1 words are.0 are'.0 are.1 are'.1 in
    let first = pair_of option other same.0 same.1 in
    let behind = same_options options others are.0 are.2
    (subst (λ (rest : List (List ℕ)). AreOptions others rest) (sym same.2) are'.2) in
    cc

-- ---- each word of options is plain

plain_pair : (name value : List ℕ) (words rest : List (List ℕ)) → HasNoEquals name → name ≢ [] → IsValue value
    → ((words ≡ (codes "--" ++ (name ++ (codes "=" ++ value))) ∷ rest) ⊎ (words ≡ (codes "--" ++ name) ∷ value ∷ rest))
    → AllByRecursion IsPlain rest → AllByRecursion IsPlain words
plain_pair name value words rest none some fits (inl has) plain =
    subst (AllByRecursion IsPlain) (sym has)
    (inr (name ++ (codes "=" ++ value), refl, inr (name, value, none, refl, fits)), plain)
plain_pair name value words rest none some fits (inr has) plain =
    subst (AllByRecursion IsPlain) (sym has) (inr (name, refl, inl (some, none)), (inl fits, plain))

pub options_plain : (options : List Pair) (words : List (List ℕ)) → AreOptions options words
    → AllByRecursion (λ (option : Pair). option.0 ≢ []) options → AllByRecursion IsPlain words
options_plain [] words are named = subst (AllByRecursion IsPlain) (sym are) tt
options_plain (option ∷ options) words (rest, has, are) named =
    plain_pair option.0 option.1 words rest has.0.0 named.0 has.1 has.0.1 (options_plain options rest are named.1)
