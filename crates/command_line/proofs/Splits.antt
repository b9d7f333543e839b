-- A name and a value that `=` parts, and words that begin with `--`.
use Rattle.std.proofs.Common.{◌≡◌, ◌≢◌, ◌↔◌, ℕ, zero, suc, ◌<◌, ◌+◌, List, [], ◌∷◌, ◌++◌, inl, inr, None, Some, length}
use Rattle.std.proofs.Common.{get_or, sym, ap, subst, ◌∙◌, refl, arith, Bor, Bool, true≢false, ne_eqb, false}
use Rattle.std.specs.Prelude.{codes, not, ◌==◌, IsTrue}
use Rattle.std.proofs.lemmas.List.{length-append}
use Rattle.std.proofs.Math.Seq.{get_or-append_seam}
use Rattle.std.proofs.lemmas.Str.Pattern.{IsSplitOnceResult, split_parts}
use Rattle.command_line.specs.Words.{HasNoEquals, IsOption, IsValue}

pub without_dashes : (xs ys : List ℕ) → codes "--" ++ xs ≡ codes "--" ++ ys → xs ≡ ys
without_dashes xs ys e = cc

-- `=` stands at no place of a name
none_at : (name : List ℕ) → HasNoEquals name → (i : ℕ) → i < length name → get_or name i 0 ≢ 61
none_at [] none i small e = absurd (omega (arith, small))
none_at (byte ∷ name) none zero small e = none.0 e
none_at (byte ∷ name) none (suc i) small e = none_at name none.1 i (omega (arith, small)) e

-- and a text with `=` at no place is a name
name_by_places : (name : List ℕ) → ((i : ℕ) → i < length name → get_or name i 0 ≢ 61) → HasNoEquals name
name_by_places [] none = tt
name_by_places (byte ∷ name) none = (
  none 0 (omega arith),
  name_by_places name (λ i small. none (suc i) (omega (arith, small))),
)

-- a name isn't a name and a value
pub no_seam : (name front behind : List ℕ) → HasNoEquals name → name ≢ front ++ (61 ∷ behind)
no_seam name front behind none is =
    let long : length name ≡ length front + length (61 ∷ behind) = ap length is ∙ length-append front (61 ∷ behind) in
    none_at name none (length front) (omega (arith, long))
    (ap (λ (t : List ℕ). get_or t (length front) 0) is ∙ get_or-append_seam front 61 behind 0)

-- a name and a value that `=` parts are one name and one value
pub same_split : (name name' value value' : List ℕ) → HasNoEquals name → HasNoEquals name'
    → name ++ (61 ∷ value) ≡ name' ++ (61 ∷ value') → (name ≡ name') × (value ≡ value')
same_split [] [] value value' none none' is = (refl, cc)
same_split [] (byte ∷ name') value value' none none' is =
    let first : byte ≡ 61 = cc in
    absurd (none'.0 first)
same_split (byte ∷ name) [] value value' none none' is =
    let first : byte ≡ 61 = cc in
    absurd (none.0 first)
same_split (byte ∷ name) (byte' ∷ name') value value' none none' is =
    let first : byte ≡ byte' = cc in
    let behind : name ++ (61 ∷ value) ≡ name' ++ (61 ∷ value') = cc in
    let both = same_split name name' value value' none.1 none'.1 behind in
    let name_is = both.0 in
    (cc, both.1)

-- ---- by what `split_once` gives

pub value_in : (text : List ℕ) (name value : Bor (List ℕ)) → IsSplitOnceResult 61 text (Some (name, value))
    → IsOption text ↔ IsValue value.now
value_in text name value splits =
    let parts = split_parts 61 text (Some (name, value)) splits (omega arith) in (
      λ is. elim is [
        | inl (some, none) ↦ absurd (no_seam text name.now value.now none parts.0)
        | inr (name', value', none, split, fits) ↦ subst IsValue
            (same_split name' name.now value' value.now none (name_by_places name.now parts.1) (sym split ∙ parts.0)).1
            fits
      ],
      λ fits. inr (name.now, value.now, name_by_places name.now parts.1, parts.0, fits),
    )

pub name_in : (text : List ℕ) (empty : Bool) → IsSplitOnceResult 61 text None → empty ≡ (length text == 0)
    → IsTrue (not empty) ↔ IsOption text
name_in [] empty splits is = (
  λ some. absurd (true≢false (sym some ∙ ap not is)),
  λ option. elim option [
    | inl (some, none) ↦ absurd (some refl)
    | inr (name, value, none, split, fits) ↦ absurd (no_seam [] name value tt split)
  ],
)
name_in (byte ∷ text) empty splits is =
    let parts = split_parts 61 (byte ∷ text) None splits (omega arith) in
    let some : (length (byte ∷ text) == 0) ≡ false = ne_eqb (length (byte ∷ text)) 0 (λ e. omega (arith, e)) in
    (λ yes. inl (λ e. absurd cc, name_by_places (byte ∷ text) parts), λ option. ap not (is ∙ some))
