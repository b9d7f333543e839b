-- Texts of visible characters.
use Rattle.std.proofs.Common.{◌≡◌, ℕ, ◌<◌, Bool, true, false, ◌&&◌, List, arith, leb}
use Rattle.std.specs.Prelude.{IsUtf8}
use Rattle.std.specs.List.{list_all}
use Rattle.std.specs.Char.{is_ascii_graphic}
use Rattle.std.proofs.lemmas.Bool.{leb-true}
use Rattle.std.proofs.lemmas.List.Elements.{All-weaker}
use Rattle.std.proofs.lemmas.List.Sums.{AllPass-from_list_all}
use Rattle.std.proofs.lemmas.Str.{IsUtf8-from_ascii}
use Rattle.std.proofs.lemmas.Str.Ascii.{IsAscii-from_all}

-- a visible character is ASCII
visible_is_ascii : (b : ℕ) → is_ascii_graphic b ≡ true → b < 128
visible_is_ascii b e = omega (arith, leb-true b 126 (second (leb 33 b) (leb b 126) e))
  where
    second : (x y : Bool) → (x && y) ≡ true → y ≡ true
    second true y e = e
    second false y e = let w : false ≡ true = e in cc

-- and a text of them is UTF-8
pub visible_is_utf8 : (text : List ℕ) → list_all is_ascii_graphic text ≡ true → IsUtf8 text
visible_is_utf8 text e =
    IsUtf8-from_ascii text (IsAscii-from_all text
    (All-weaker (λ b. is_ascii_graphic b ≡ true) (λ b. b < 128) visible_is_ascii text
    (AllPass-from_list_all is_ascii_graphic text e)))
