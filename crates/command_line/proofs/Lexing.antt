-- How `clap` takes a word apart.
use Rattle.std.proofs.Common.{◌≡◌, ◌≢◌, ℕ, ◌+◌, ◌==◌, List, [], ◌∷◌, ◌++◌, Bool, false, true, cond, not, ◌||◌, None, Some}
use Rattle.std.proofs.Common.{length, take, drop, ap, ◌∙◌, refl, arith, ne_eqb}
use Rattle.std.proofs.Common.{Option, inl, inr}
use Rattle.std.specs.Prelude.{bytes_eq, codes, slice_index}
use Rattle.std.specs.List.{position_or_len}
use Rattle.std.proofs.lemmas.Bool.{false_from_ne_true}
use Rattle.std.proofs.lemmas.Slice.Eq.{bytes_eq-Decides}
use Rattle.std.proofs.Math.Seq.{take-append_seam, drop-append-add, take-length}
use Rattle.clap.specs.Lexer.{has_byte, long_of, name_and_value, short_of}
use Rattle.command_line.specs.Words.{HasNoEquals, IsOption, IsValue}

-- ---- the place of `=`

abbrev place : List ℕ → ℕ
place = position_or_len (λ x. x == 61)

place_behind : (byte : ℕ) (text : List ℕ) → byte ≢ 61 → place (byte ∷ text) ≡ 1 + place text
place_behind byte text not_equals = ap (λ (b : Bool). cond (not b) (1 + place text) 0) (ne_eqb byte 61 not_equals)

byte_behind : (byte : ℕ) (text : List ℕ) → byte ≢ 61 → has_byte 61 (byte ∷ text) ≡ has_byte 61 text
byte_behind byte text not_equals = ap (λ (b : Bool). b || has_byte 61 text) (ne_eqb byte 61 not_equals)

nowhere : (name : List ℕ) → HasNoEquals name → place name ≡ length name
nowhere [] none = refl
nowhere (byte ∷ name) none = place_behind byte name none.0 ∙ omega (arith, nowhere name none.1)

in_none : (name : List ℕ) → HasNoEquals name → has_byte 61 name ≡ false
in_none [] none = refl
in_none (byte ∷ name) none = byte_behind byte name none.0 ∙ in_none name none.1

behind_name : (name value : List ℕ) → HasNoEquals name → place (name ++ (61 ∷ value)) ≡ length name
behind_name [] value none = refl
behind_name (byte ∷ name) value none =
    place_behind byte (name ++ (61 ∷ value)) none.0 ∙ omega (arith, behind_name name value none.1)

in_whole : (name value : List ℕ) → HasNoEquals name → has_byte 61 (name ++ (61 ∷ value)) ≡ true
in_whole [] value none = refl
in_whole (byte ∷ name) value none = byte_behind byte (name ++ (61 ∷ value)) none.0 ∙ in_whole name value none.1

name_alone : (name : List ℕ) → HasNoEquals name → name_and_value name ≡ (name, None)
name_alone name none =
    let front : take (place name) name ≡ name = ap (λ n. take n name) (nowhere name none) ∙ take-length name in
    let equals = in_none name none in
    rw (equals, front) refl

name_with_value : (name value : List ℕ) → HasNoEquals name → name_and_value (name ++ (61 ∷ value)) ≡ (name, Some value)
name_with_value name value none =
    let whole : List ℕ = name ++ (61 ∷ value) in
    let at = behind_name name value none in
    let front : take (place whole) whole ≡ name = ap (λ n. take n whole) at ∙ take-append_seam name (61 ∷ value) in
    let back : drop (place whole + 1) whole ≡ value =
    ap (λ n. drop (n + 1) whole) at ∙ drop-append-add name (61 ∷ value) 1 in
    let equals = in_whole name value none in
    rw (equals, front, back) refl

-- ---- options

pub long_name : (name : List ℕ) → HasNoEquals name → name ≢ [] → long_of (codes "--" ++ name) ≡ Some (name, None)
long_name [] none some = absurd (some refl)
long_name (byte ∷ name) none some = ap (λ p. Some p) (name_alone (byte ∷ name) none)

pub long_pair : (name value : List ℕ) → HasNoEquals name
    → long_of (codes "--" ++ (name ++ (codes "=" ++ value))) ≡ Some (name, Some value)
long_pair [] value none = ap (λ p. Some p) (name_with_value [] value none)
long_pair (byte ∷ name) value none = ap (λ p. Some p) (name_with_value (byte ∷ name) value none)

differ : (word : List ℕ) → word ≢ codes "--" → bytes_eq word (45 ∷ 45 ∷ []) ≡ false
differ word not_dashes =
    false_from_ne_true (bytes_eq word (45 ∷ 45 ∷ [])) (λ is. not_dashes ((bytes_eq-Decides word (45 ∷ 45 ∷ [])).0 is))

pub name_no_dashes : (name : List ℕ) → name ≢ [] → bytes_eq (codes "--" ++ name) (45 ∷ 45 ∷ []) ≡ false
name_no_dashes name some = differ (codes "--" ++ name) (λ is. some (behind is))
  where
    behind : codes "--" ++ name ≡ codes "--" → name ≡ []
    behind is = cc

pub pair_no_dashes : (name value : List ℕ)
    → bytes_eq (codes "--" ++ (name ++ (codes "=" ++ value))) (45 ∷ 45 ∷ []) ≡ false
pair_no_dashes [] value = name_no_dashes (61 ∷ value) (λ is. absurd cc)
pair_no_dashes (byte ∷ name) value = name_no_dashes (byte ∷ (name ++ (61 ∷ value))) (λ is. absurd cc)

-- ---- values

pub value_no_dashes : (word : List ℕ) → IsValue word → bytes_eq word (45 ∷ 45 ∷ []) ≡ false
value_no_dashes word value = differ word (λ is. value.1 (ap (λ t. slice_index t 0) is))

pub no_long : (word : List ℕ) → IsValue word → long_of word ≡ None
no_long [] value = absurd (value.0 refl)
no_long (byte ∷ word) value =
    let dash = ne_eqb byte 45 value.1 in
    rw dash refl

pub no_short : (word : List ℕ) → IsValue word → short_of word ≡ None
no_short [] value = absurd (value.0 refl)
no_short (byte ∷ word) value =
    let dash = ne_eqb byte 45 value.1 in
    rw dash refl

-- ---- both

-- a word that begins an option has its name
pub flag_of : (word option : List ℕ) → word ≡ codes "--" ++ option → IsOption option
    → (id : List ℕ) × (value : Option (List ℕ)) × (bytes_eq word (45 ∷ 45 ∷ []) ≡ false)
    × (long_of word ≡ Some (id, value))
flag_of word option is (inl (some, none)) = (
  option,
  None,
  ap (λ t. bytes_eq t (45 ∷ 45 ∷ [])) is ∙ name_no_dashes option some,
  ap long_of is ∙ long_name option none some,
)
flag_of word option is (inr (name, value, none, split, fits)) =
    let whole = is ∙ ap (λ t. codes "--" ++ t) split in (
      name,
      Some value,
      ap (λ t. bytes_eq t (45 ∷ 45 ∷ [])) whole ∙ pair_no_dashes name value,
      ap long_of whole ∙ long_pair name value none,
    )
