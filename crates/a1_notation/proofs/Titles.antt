-- Titles as they are printed and read.
use Rattle.std.proofs.Common.{◌≡◌, ℕ, ◌<◌, List, [], ◌∷◌, ◌++◌, length, get_or, refl, append_assoc}
use Rattle.std.specs.Prelude.{◌≢◌}
use Rattle.std.specs.List.{flat_map}
use Rattle.std.proofs.lemmas.Grind.{flat_map-append}
use Rattle.a1_notation.specs.Quoted.{doubled}
use Rattle.a1_notation.proofs.Quotes.{doubled-none}

-- up to the first ', and behind it
pub doubled-split : (bs xs ys : List ℕ) → bs ≡ xs ++ (39 ∷ ys) → ((i : ℕ) → i < length xs → get_or xs i 0 ≢ 39)
    → flat_map (doubled 39) bs ≡ xs ++ (39 ∷ 39 ∷ flat_map (doubled 39) ys)
doubled-split bs xs ys e none = rw e (rw (flat_map-append (doubled 39) xs (39 ∷ ys), doubled-none 39 xs none) refl)

-- a turn of the loop that doubles: it writes up to the first ', and two of them
pub doubled_more : (text text' text'' rest plain behind whole : List ℕ) → text' ≡ text ++ plain
    → text'' ≡ text' ++ (39 ∷ 39 ∷ []) → rest ≡ plain ++ (39 ∷ behind)
    → ((i : ℕ) → i < length plain → get_or plain i 0 ≢ 39) → text ++ flat_map (doubled 39) rest ≡ whole
    → text'' ++ flat_map (doubled 39) behind ≡ whole
doubled_more text text' text'' rest plain behind whole e f split none so_far =
    let twice = doubled-split rest plain behind split none in
    let regrouped : text ++ (plain ++ (39 ∷ 39 ∷ flat_map (doubled 39) behind)) ≡ whole = rw twice at so_far in
    rw (f, e)
    (rw (
      append_assoc (text ++ plain) (39 ∷ 39 ∷ []) (flat_map (doubled 39) behind),
      append_assoc text plain (39 ∷ 39 ∷ flat_map (doubled 39) behind),
    ) regrouped)

-- its end: a rest without ' is written as it is, and the last ' behind it
pub doubled_end : (text text' text'' rest whole : List ℕ) → text' ≡ text ++ rest → text'' ≡ text' ++ (39 ∷ [])
    → ((i : ℕ) → i < length rest → get_or rest i 0 ≢ 39) → text ++ flat_map (doubled 39) rest ≡ 39 ∷ whole
    → text'' ≡ 39 ∷ (whole ++ (39 ∷ []))
doubled_end text text' text'' rest whole e f none so_far =
    let plain : text ++ rest ≡ 39 ∷ whole = rw (doubled-none 39 rest none) at so_far in
    rw (f, e, plain) refl
