-- A text in which each quote is replaced by two.
use Rattle.std.proofs.Common.{◌≡◌, ℕ, zero, suc, ◌<◌, List, [], ◌∷◌, ◌++◌, length, get_or, take, drop, refl, sym, ap}
use Rattle.std.proofs.Common.{subst, ◌∙◌, arith, lit<, inl, inr}
use Rattle.std.specs.Prelude.{◌≢◌, Some}
use Rattle.std.specs.List.{flat_map}
use Rattle.std.specs.Str.Pattern.{FindsChar}
use Rattle.std.specs.Str.Replace.{ReplacesMatches}
use Rattle.std.proofs.lemmas.Bool.{ne_eqb}
use Rattle.std.proofs.lemmas.Grind.{flat_map-append}
use Rattle.std.proofs.lemmas.List.{take-append-drop}
use Rattle.std.proofs.lemmas.Str.{len_utf8_bounds}
use Rattle.std.proofs.lemmas.Str.Pattern.{NoCharPasses-char, drop_at_char}
use Rattle.a1_notation.specs.Quoted.{doubled, quoted}

-- bytes that are no quotes stand as they are
undoubled : (bytes : List ℕ) → ((i : ℕ) → i < length bytes → get_or bytes i 0 ≢ 39)
    → flat_map (doubled 39) bytes ≡ bytes
undoubled [] none = refl
undoubled (byte ∷ bytes) none =
    let first : doubled 39 byte ≡ byte ∷ [] = rw (ne_eqb byte 39 (none 0 (omega arith))) refl in
    let rest = undoubled bytes (λ i h. none (suc i) (omega (arith, h))) in
    rw (first, rest) refl

-- up to the first quote, and behind it
doubled_at : (text plain behind : List ℕ) → text ≡ plain ++ (39 ∷ behind)
    → ((i : ℕ) → i < length plain → get_or plain i 0 ≢ 39)
    → flat_map (doubled 39) text ≡ plain ++ (39 ∷ 39 ∷ flat_map (doubled 39) behind)
doubled_at text plain behind is none =
    rw is (rw (flat_map-append (doubled 39) plain (39 ∷ behind), undoubled plain none) refl)

-- the first quote is at a place, and no other before it
at_quote : (text : List ℕ) (from to : ℕ) → FindsChar 39 text (Some (from, to)) → from < to
    × (text ≡ take from text ++ (39 ∷ drop to text))
    × ((i : ℕ) → i < length (take from text) → get_or (take from text) i 0 ≢ 39)
at_quote text from to (none, here) = (
  omega (arith, here.ends, len_utf8_bounds 39),
  sym (take-append-drop from text)
      ∙ ap (λ behind. take from text ++ behind) (drop_at_char 39 text from to here (lit< tt)),
  λ i h. NoCharPasses-char 39 (take from text) i none (lit< tt) h,
)

pub all_doubled : (count : ℕ) (text replaced : List ℕ)
    → ReplacesMatches FindsChar (λ one other. other ≡ one) (39 ∷ 39 ∷ []) count 39 text replaced
    → replaced ≡ flat_map (doubled 39) text
all_doubled zero text replaced (none, same) =
    same ∙ sym (undoubled text (λ i h. NoCharPasses-char 39 text i none (lit< tt) h))
all_doubled (suc count) text replaced (from, to, next, rest, finds, keeps, goes_on, same) =
    let here = at_quote text from to finds in
    elim goes_on [
      | inl (further, on) ↦
          let again = all_doubled count (drop to text) rest
          (subst (λ q. ReplacesMatches FindsChar (λ one other. other ≡ one) (39 ∷ 39 ∷ []) count q
          (drop to text) rest) keeps
          on) in
          same ∙ ap (λ r. take from text ++ (39 ∷ 39 ∷ r)) again
          ∙ sym (doubled_at text (take from text) (drop to text) here.1 here.2)
      | inr (stays, _) ↦ absurd (omega (arith, here.0, stays))
    ]

pub in_quotes : (count : ℕ) (text replaced made : List ℕ)
    → ReplacesMatches FindsChar (λ one other. other ≡ one) (39 ∷ 39 ∷ []) count 39 text replaced
    → made ≡ 39 ∷ (replaced ++ 39 ∷ []) → made ≡ quoted 39 text
in_quotes count text replaced made replaces is =
    is ∙ ap (λ inside. 39 ∷ (inside ++ 39 ∷ [])) (all_doubled count text replaced replaces)
