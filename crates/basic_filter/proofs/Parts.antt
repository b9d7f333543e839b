-- A text contains a part just where the part stands between two others.
use Rattle.std.proofs.Common.{◌≡◌, ℕ, Bool, true, List, [], ◌∷◌, ◌++◌, None, length, drop, refl, ⊎_elim}
use Rattle.std.specs.Prelude.{nat_eq}
use Rattle.std.specs.Bool.{MatchBool}
use Rattle.std.specs.List.{starts_with}
use Rattle.std.specs.Str.Iter.{HasSubslice}
use Rattle.std.specs.Str.Pattern.{FindsText, HasMatch}
use Rattle.std.proofs.lemmas.Bool.{or_cases, or_left, or_right}
use Rattle.std.proofs.lemmas.Bool.Decides.{Decides-eqb, same_from_decides}
use Rattle.std.proofs.lemmas.Slice.Eq.{starts_is}
use Rattle.std.proofs.lemmas.Str.Pattern.{contains_text}
use Rattle.basic_filter.specs.Texts.{contains}

-- a text that begins with the part has it
begins : (text part : List ℕ) → starts_with nat_eq text part ≡ true → HasSubslice text part
begins text part told = ([], drop (length part) text, (starts_is Decides-eqb text part _ refl).0 told)

begins_from : (text part rest : List ℕ) → text ≡ part ++ rest → starts_with nat_eq text part ≡ true
begins_from text part rest is = (starts_is Decides-eqb text part _ refl).1 rest is

-- and so has one with another byte before it
behind : (byte : ℕ) (text part : List ℕ) → HasSubslice text part → HasSubslice (byte ∷ text) part
behind byte text part h = let is = h.2 in (byte ∷ h.0, h.1, cc)

contains_found : (text part : List ℕ) → contains text part ≡ true → HasSubslice text part
contains_found [] part told = begins [] part told
contains_found (byte ∷ rest) part told =
    ⊎_elim (begins (byte ∷ rest) part)
    (λ deeper. behind byte rest part (contains_found rest part deeper))
    (or_cases _ _ told)

contains_between : (text before part rest : List ℕ) → text ≡ before ++ (part ++ rest)
    → contains text part ≡ true
contains_between [] [] part rest is = begins_from [] part rest is
contains_between [] (first ∷ before) part rest is = absurd (cc)
contains_between (byte ∷ text) [] part rest is =
    or_left _ _ (begins_from (byte ∷ text) part rest is)
contains_between (byte ∷ text) (first ∷ before) part rest is =
    let behind : text ≡ before ++ (part ++ rest) = cc in
    or_right (starts_with nat_eq (byte ∷ text) part) (contains text part)
    (contains_between text before part rest behind)

-- what `contains` of a `str` finds
pub contains_is : (found : Bool) (part text : List ℕ)
    → MatchBool found (HasMatch (FindsText part) text) (FindsText part text None)
    → found ≡ contains text part
contains_is found part text told =
    same_from_decides found (contains text part) (contains_text found part text told)
    (contains_found text part, λ between. contains_between text between.0 part between.1 between.2)
