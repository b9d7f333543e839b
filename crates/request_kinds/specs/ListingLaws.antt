-- Laws for the proofs of this crate and of those above it: a list that is read one place after another.
use Rattle.std.proofs.Common.{◌≡◌, ◌+◌, ◌<◌, ◌++◌, ◌∷◌, ℕ, List, [], length, get_or, inl, inr, sym, ap, ◌∙◌, take}
use Rattle.std.specs.Prelude.{Option, None, Some, slice_get}
use Rattle.std.specs.List.{filter_map}
use Rattle.std.proofs.lemmas.List.{take_more, take_all}
use Rattle.std.proofs.lemmas.List.Elements.{filter_map-append}
use Rattle.std.proofs.lemmas.Option.{get_or_from_slice_get, slice_get_cases, slice_get_within}

none_is_some : {A : Type 0} (one : A) → None ≡ Some one → ⊥
none_is_some one e = cc

-- one more
pub one_read : {A : Type 0} (all : List A) (at : ℕ) (one : A) → slice_get all at ≡ Some one
    → take at all ++ one ∷ [] ≡ take (at + 1) all
one_read all at one is =
    ap (λ last. take at all ++ last ∷ []) (sym (get_or_from_slice_get all at one one is))
    ∙ sym (take_more all at one (slice_get_within all at one is))

-- the last one was read
pub all_read : {A : Type 0} (all : List A) (at : ℕ) → slice_get all at ≡ None → take at all ≡ all
all_read all at none = elim (slice_get_cases all at).1 [
  | inl there ↦
      let (one, within, is, read) = there in
      absurd (none_is_some one (sym none ∙ is))
  | inr past ↦ take_all at all past.0
]

-- what is listed of one more
pub more_listed : {X Y : Type 0} (h : X → Option Y) (all : List X) (at : ℕ) (one : X) → at < length all
    → one ≡ get_or all at one
    → filter_map h (take at all) ++ filter_map h (one ∷ []) ≡ filter_map h (take (at + 1) all)
more_listed h all at one there is =
    sym (filter_map-append h (take at all) (one ∷ []))
    ∙ ap (λ last. filter_map h (take at all ++ last ∷ [])) is
    ∙ ap (filter_map h) (sym (take_more all at one there))
