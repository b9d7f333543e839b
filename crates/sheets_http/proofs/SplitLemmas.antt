-- Where the first mark of a text stands.
use Rattle.std.proofs.Common.{◌≡◌, ℕ, ◌<◌, Bool, true, false, List, length, get_or, refl, arith}
use Rattle.std.specs.Prelude.{Some, None}
use Rattle.std.specs.List.{position_or_len}
use Rattle.std.proofs.lemmas.Bool.{eqb-true}
use Rattle.std.proofs.lemmas.List.Sums.{position_or_len_is}
use Rattle.memchr.specs.Find.{IsFirstByte, is_byte}

fails : (x : Bool) → ¬ (x ≡ true) → x ≡ false
fails true other = absurd (other refl)
fails false other = refl

pub first_mark : (test : ℕ → Bool) (text : List ℕ) (at : ℕ) → IsFirstByte test text (Some at)
    → position_or_len test text ≡ at
first_mark test text at (near, here) =
    position_or_len_is test text at 0 (omega (arith, near.high))
    (λ k below. fails (test (get_or text k 0)) (near.before k (omega arith) below)) (λ inside. here)

pub no_mark : (test : ℕ → Bool) (text : List ℕ) → IsFirstByte test text None
    → position_or_len test text ≡ length text
no_mark test text none =
    position_or_len_is test text (length text) 0 (omega arith)
    (λ k below. fails (test (get_or text k 0)) (none k (omega arith) below)) (λ inside. absurd (omega (arith, inside)))

-- it is an ASCII character
pub mark_is_ascii : (mark : ℕ) (text : List ℕ) (at : ℕ) → mark < 128 → IsFirstByte (is_byte mark) text (Some at)
    → get_or text at 0 < 128
mark_is_ascii mark text at ascii (near, here) = omega (arith, ascii, eqb-true (get_or text at 0) mark here)
