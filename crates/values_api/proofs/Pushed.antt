-- What one of the elements of a list with one more has.
use Rattle.std.proofs.Common.{◌≡◌, ◌<◌, ◌≤◌, ◌++◌, ◌∷◌, [], List, length, sym, subst, ◌∙◌, ⊎_elim, inl, inr, arith}
use Rattle.std.specs.Prelude.{◌⊎◌, Any}
use Rattle.std.proofs.lemmas.Bool.{cases_lt}
use Rattle.std.proofs.lemmas.List.{length-append, get_or_append_left, get_or_push}

module _ {A : Type 0} (P : A → Type 0) (list : List A) (one : A) where
  pub pushed : Any P (list ++ one ∷ []) → Any P list ⊎ P one
  pushed (i, other, below, at, has) = ⊎_elim
      (λ (before : i < length list).
      inl (i, other, before, sym (get_or_append_left list (one ∷ []) other i before) ∙ at, has))
      (λ (behind : length list ≤ i).
      let last : length list ≡ i = let more = length-append list (one ∷ []) in omega (arith, more, below, behind) in
      inr (subst P (sym at ∙ get_or_push list one other i last) has))
      (cases_lt i (length list))

  pub kept : Any P list → Any P (list ++ one ∷ [])
  kept (i, other, below, at, has) = (
    i,
    other,
    (let more = length-append list (one ∷ []) in omega (arith, more, below)),
    get_or_append_left list (one ∷ []) other i below ∙ at,
    has,
  )
