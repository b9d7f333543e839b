-- A text contains a part just where a search finds it.
use Rattle.std.proofs.Common.{◌≡◌, ◌≤◌, ◌∙◌, ℕ, zero, suc, true, List, [], ◌∷◌, Option, None, Some, ap, arith, drop, length, length-append, length-drop, refl, sym, take, ⊎_elim}
use Rattle.std.specs.Prelude.{is_some, nat_eq}
use Rattle.std.specs.List.{starts_with}
use Rattle.std.proofs.Math.Seq.{take-append_seam}
use Rattle.std.proofs.lemmas.Bool.{cases_Bool, or_cases, or_left, or_right}
use Rattle.std.proofs.lemmas.Bool.Decides.{Decides-eqb}
use Rattle.std.proofs.lemmas.Slice.Eq.{starts_is}
use Rattle.memchr.specs.Find.{FindsNeedle, OccursAt}
use Rattle.memchr.proofs.lemmas.MatchLemmas.{OccursAt-from_part, OccursAt-split}
use Rattle.basic_filter.specs.Texts.{contains}

-- the part stands at a place just where what is there begins with it
stands : (text part : List ℕ) (at : ℕ) → at ≤ length text → starts_with nat_eq (drop at text) part ≡ true
    → OccursAt text part at
stands text part at inside told =
    let rest = drop (length part) (drop at text) in
    let split = (starts_is Decides-eqb (drop at text) part _ refl).0 told in
    OccursAt-from_part text part at
    (omega (arith, ap length split, length-append part rest, length-drop at text))
    (ap (take (length part)) split ∙ take-append_seam part rest)

begins : (text part : List ℕ) (at : ℕ) → OccursAt text part at
    → starts_with nat_eq (drop at text) part ≡ true
begins text part at occurs =
    (starts_is Decides-eqb (drop at text) part _ refl).1 _ (OccursAt-split text part at occurs)

-- a text that contains the part begins with it from some place on
place_of : (text part : List ℕ) → contains text part ≡ true
    → (at : ℕ) × (at ≤ length text) × (starts_with nat_eq (drop at text) part ≡ true)
place_of [] part told = (0, omega arith, told)
place_of (byte ∷ rest) part told =
    ⊎_elim (λ here. (0, omega arith, here))
    (λ deeper. let h = place_of rest part deeper in (suc h.0, omega (arith, h.1), h.2))
    (or_cases _ _ told)

contains_at : (at : ℕ) (text part : List ℕ) → at ≤ length text
    → starts_with nat_eq (drop at text) part ≡ true → contains text part ≡ true
contains_at zero [] part inside told = told
contains_at zero (byte ∷ rest) part inside told = or_left _ _ told
contains_at (suc at) [] part inside told = absurd (omega arith)
contains_at (suc at) (byte ∷ rest) part inside told =
    or_right (starts_with nat_eq (byte ∷ rest) part) (contains rest part)
    (contains_at at rest part (omega arith) told)

-- what a search finds
pub found_is : (text part : List ℕ) (place : Option ℕ) → FindsNeedle text part 0 place
    → is_some place ≡ contains text part
found_is text part None nowhere =
    ⊎_elim
    (λ told. let h = place_of text part told in
    absurd (nowhere h.0 (omega arith) (omega (arith, h.1)) (stands text part h.0 h.1 h.2)))
    (λ none. sym none) (cases_Bool (contains text part))
found_is text part (Some at) (near, here) =
    sym (contains_at at text part (omega (arith, near.high)) (begins text part at here))
