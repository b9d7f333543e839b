-- Tokens that differ, and the set of them.
use Rattle.std.proofs.Common.{◌≡◌, ◌∙◌, ◌||◌, ◌++◌, ◌∷◌, [], ℕ, Bool, List, ap, cond, false, inl, inr, refl, sym, true}
use Rattle.std.specs.Borrow.{Bor}
use Rattle.std.specs.BTreeSet.{BTreeSet}
use Rattle.std.specs.Cmp.Lexicographic.{slice_cmp}
use Rattle.std.specs.List.{AllByRecursion, IsDistinct, list_any}
use Rattle.std.specs.Ordering.{is_eq, nat_cmp}
use Rattle.std.specs.Prelude.{not}
use Rattle.std.specs.Str.{bytes_eq}
use Rattle.std.proofs.lemmas.Bool.{cases_Bool}
use Rattle.std.proofs.lemmas.List.Folds.{list_any-append}
use Rattle.std.proofs.lemmas.Map.Text.{is_eq-slice_cmp}
use Rattle.cell_value.specs.Texts.{is_among}

-- ---- tokens that differ

-- the others differ from the last
apart : (text last : List ℕ) (texts : List (List ℕ)) → AllByRecursion (λ other. bytes_eq text other ≡ false) texts
    → bytes_eq text last ≡ false → AllByRecursion (λ other. bytes_eq text other ≡ false) (texts ++ last ∷ [])
apart text last [] before differs = (differs, tt)
apart text last (other ∷ others) before differs = (before.0, apart text last others before.1 differs)

-- they differ from each of them
last_apart : (text last : List ℕ) (texts : List (List ℕ))
    → AllByRecursion (λ other. bytes_eq text other ≡ false) (texts ++ last ∷ []) → bytes_eq text last ≡ false
last_apart text last [] all = all.0
last_apart text last (other ∷ others) all = last_apart text last others all.1

-- a token that isn't among those that differ
pub differ-more : (texts : List (List ℕ)) (last : List ℕ) → IsDistinct bytes_eq texts → is_among last texts ≡ false
    → IsDistinct bytes_eq (texts ++ last ∷ [])
unfolding IsDistinct
differ-more [] last differ new = (tt, tt)
differ-more (text ∷ texts) last differ new = elim (cases_Bool (bytes_eq text last)) [
  | inl same ↦ absurd (cc (rw same at new))
  | inr other ↦ (apart text last texts differ.0 other, differ-more texts last differ.1 (rw other at new))
]

-- a token that is among them
pub differ-no_more : (texts : List (List ℕ)) (last : List ℕ) → is_among last texts ≡ true
    → IsDistinct bytes_eq (texts ++ last ∷ []) → ⊥
unfolding IsDistinct
differ-no_more [] last there differ = cc there
differ-no_more (text ∷ texts) last there differ =
    let other : bytes_eq text last ≡ false = last_apart text last texts differ.0 in
    differ-no_more texts last (rw other at there) differ.1

-- ---- the set of them

-- the text is one of the keys
abbrev pub has_text : List ℕ → List (Bor (List ℕ)) → Bool
has_text text keys = list_any (λ key. is_eq (slice_cmp nat_cmp text key.now)) keys

-- the set has just these texts
abbrev pub IsSetOf : List (List ℕ) → BTreeSet (Bor (List ℕ)) → Type 0
IsSetOf texts set = (text : List ℕ) → has_text text set.keys ≡ is_among text texts

-- one that is there, or else what was
there_or : (before there : Bool) → cond there true before ≡ (before || there)
there_or true true = refl
there_or false true = refl
there_or true false = refl
there_or false false = refl

-- the set has one text more
pub IsSetOf-more : (texts : List (List ℕ)) (before after : BTreeSet (Bor (List ℕ))) (key : Bor (List ℕ))
    → ((other : Bor (List ℕ)) → has_text other.now after.keys
    ≡ cond (is_eq (slice_cmp nat_cmp key.now other.now)) true (has_text other.now before.keys))
    → IsSetOf texts before → IsSetOf (texts ++ key.now ∷ []) after
IsSetOf-more texts before after key updates so_far text =
    updates (record key { now = text })
    ∙ ap (λ there. cond there true (has_text text before.keys)) (is_eq-slice_cmp key.now text)
    ∙ ap (cond (bytes_eq key.now text) true) (so_far text)
    ∙ there_or (is_among text texts) (bytes_eq key.now text)
    ∙ ap (λ b. is_among text texts || b) (sym (or_false (bytes_eq key.now text)))
    ∙ sym (list_any-append (λ other. bytes_eq other text) texts (key.now ∷ []))
  where
    or_false : (b : Bool) → (b || false) ≡ b
    or_false true = refl
    or_false false = refl

-- an insert that adds nothing found the text
pub was_there : (added there : Bool) → added ≡ not there → added ≡ false → there ≡ true
was_there added true is none = refl
was_there added false is none = absurd (cc)

-- an insert that adds a text found none
pub was_new : (added there : Bool) → added ≡ not there → added ≡ true → there ≡ false
was_new added true is new = absurd (cc)
was_new added false is new = refl
