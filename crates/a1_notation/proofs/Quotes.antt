-- What is read up to the closing quote.
use Rattle.std.proofs.Common.{◌≡◌, ℕ, suc, ◌<◌, List, [], ◌∷◌, ◌++◌, length, get_or, refl, sym, ◌∙◌, arith, append_assoc, append-nil}
use Rattle.std.specs.Prelude.{◌≢◌}
use Rattle.std.specs.List.{flat_map}
use Rattle.std.proofs.lemmas.Grind.{flat_map-append}
use Rattle.a1_notation.specs.Quoted.{doubled, IsUpToQuote}
use Rattle.a1_notation.proofs.QuoteEnds.{doubled_yes, doubled_no, one_content, behind_opening, with_opening}
use Rattle.a1_notation.proofs.Runs.{not_first}

-- of any quote
module _ (q : ℕ) where
  -- bytes other than the quote stand between quotes as they are
  pub doubled-none : (xs : List ℕ) → ((i : ℕ) → i < length xs → get_or xs i 0 ≢ q) → flat_map (doubled q) xs ≡ xs
  doubled-none [] none = refl
  doubled-none (x ∷ xs) none =
      let plain : doubled q x ≡ x ∷ [] = doubled_no q x (none 0 (omega arith)) in
      let rest = doubled-none xs (λ i h. none (suc i) (omega (arith, h))) in
      rw (plain, rest) refl

  doubled_plain : (content plain : List ℕ) → ((i : ℕ) → i < length plain → get_or plain i 0 ≢ q)
      → flat_map (doubled q) (content ++ plain) ≡ flat_map (doubled q) content ++ plain
  doubled_plain content plain none = rw (flat_map-append (doubled q) content plain, doubled-none plain none) refl

  -- a quote that isn't doubled closes the content
  pub closing : (inside content content' rest plain behind : List ℕ) → 0 < q → content' ≡ content ++ plain
      → rest ≡ plain ++ (q ∷ behind) → ((i : ℕ) → i < length plain → get_or plain i 0 ≢ q)
      → flat_map (doubled q) content ++ rest ≡ inside → ((more : List ℕ) → behind ≢ q ∷ more)
      → IsUpToQuote q inside content' behind
  closing inside content content' rest plain behind some e split none so_far last = record {
    parts = with_opening q inside content' behind
        (sym so_far ∙ rw (e, split, doubled_plain content plain none)
        (sym (append_assoc (flat_map (doubled q) content) plain (q ∷ behind))));
    closed = not_first q behind some last;
  }

  -- a doubled one is taken as one
  pub doubled_read : (inside content content' content'' rest plain behind more : List ℕ) → content' ≡ content ++ plain
      → content'' ≡ content' ++ (q ∷ []) → rest ≡ plain ++ (q ∷ behind)
      → ((i : ℕ) → i < length plain → get_or plain i 0 ≢ q) → behind ≡ q ∷ more
      → flat_map (doubled q) content ++ rest ≡ inside → flat_map (doubled q) content'' ++ more ≡ inside
  doubled_read inside content content' content'' rest plain behind more e f split none again so_far =
      let so_far' : flat_map (doubled q) content ++ (plain ++ (q ∷ q ∷ more)) ≡ inside = rw (split, again) at so_far in
      let pair : flat_map (doubled q) (q ∷ []) ≡ q ∷ q ∷ [] = rw (doubled_yes q q refl) refl in
      rw (f, flat_map-append (doubled q) content' (q ∷ []), pair, e, doubled_plain content plain none)
      (rw (
        append_assoc (flat_map (doubled q) content ++ plain) (q ∷ q ∷ []) more,
        append_assoc (flat_map (doubled q) content) plain (q ∷ q ∷ more),
      ) so_far')

  -- without a further quote nothing is closed
  pub unclosed : (inside content rest : List ℕ) → ((i : ℕ) → i < length rest → get_or rest i 0 ≢ q)
      → flat_map (doubled q) content ++ rest ≡ inside → (other behind : List ℕ) → ¬ (IsUpToQuote q inside other behind)
  unclosed inside content rest none so_far other behind is =
      let all : flat_map (doubled q) (content ++ rest) ++ [] ≡ inside =
      append-nil (flat_map (doubled q) (content ++ rest)) ∙ (doubled_plain content rest none ∙ so_far) in
      let same = one_content q (content ++ rest) other [] (q ∷ behind) tt (refl, is.closed)
      (all ∙ behind_opening q inside other behind is.parts) in
      let clash : [] ≡ q ∷ behind = same.1 in
      cc
