-- Names and values of a query that stand for themselves.
use Rattle.std.proofs.Common.{◌≡◌, ℕ, ◌+◌, ◌<◌, true, false, List, [], ◌∷◌, map, length, refl, sym, ap, ◌∙◌, arith, length-drop}
use Rattle.std.specs.Prelude.{◌==◌, IsUtf8, slice_index, Option, Some, None, is_some}
use Rattle.std.specs.List.{before_first, after_first, position_or_len}
use Rattle.std.proofs.lemmas.List.{nil_from_length}
use Rattle.std.specs.Str.Lossy.{utf8_lossy}
use Rattle.std.proofs.lemmas.List.Elements.{All-from_get_or}
use Rattle.std.proofs.lemmas.Str.{utf8_lossy-IsUtf8}
use Rattle.form_urlencoded.specs.Form.{IsPlain, plus_sign, ampersand}
use Rattle.form_urlencoded.proofs.FormLemmas.{decode_plain, raw_pairs-nil, raw_pairs_skip, raw_pairs_first}
use Rattle.percent_encoding.specs.Percent.{percent_sign}
use Rattle.memchr.specs.Find.{IsFirstByte, is_byte2}
use Rattle.sheets_http.specs.Queries.{form_text, decoded_pair, member_of, members_of}

-- a byte that isn't one of the two
neither : (b : ℕ) → (is_byte2 plus_sign percent_sign b ≡ true → ⊥) → IsPlain b
neither b differs = (λ e. differs (rw e refl), λ e. differs (rw e refl))

-- no byte is one of them where none is found
pub none_found : (raw : List ℕ) (found : Option ℕ) → IsFirstByte (is_byte2 plus_sign percent_sign) raw found
    → is_some found ≡ false → (k : ℕ) → k < length raw → is_byte2 plus_sign percent_sign (slice_index raw k) ≡ true → ⊥
none_found raw None first none k inside is = first k (omega arith) inside is
none_found raw (Some place) first none k inside is = let wrong : true ≡ false = none in cc

-- without a plus and a percent sign a text is itself
pub plain_is : (raw : List ℕ)
    → ((k : ℕ) → k < length raw → is_byte2 plus_sign percent_sign (slice_index raw k) ≡ true → ⊥) → IsUtf8 raw
    → raw ≡ form_text raw
plain_is raw none utf8 =
    sym (ap utf8_lossy (decode_plain raw
    (All-from_get_or IsPlain raw 0 (λ k inside. neither (slice_index raw k) (none k inside))))
    ∙ utf8_lossy-IsUtf8 raw utf8)

-- ---- the pieces of a query

-- an empty piece is no member
pub piece_is_none : (rest piece behind : List ℕ) → piece ≡ before_first (λ b. b == ampersand) rest
    → behind ≡ after_first (λ b. b == ampersand) rest → length piece ≡ 0 → members_of rest ≡ members_of behind
piece_is_none rest piece behind first others none =
    ap (map decoded_pair) (raw_pairs_skip rest (rw (← first) none)) ∙ ap members_of (sym others)

-- any other is the first member
pub piece_is_member : (rest piece behind : List ℕ) → piece ≡ before_first (λ b. b == ampersand) rest
    → behind ≡ after_first (λ b. b == ampersand) rest → 0 < length piece
    → members_of rest ≡ member_of piece ∷ members_of behind
piece_is_member rest piece behind first others some =
    ap (map decoded_pair) (raw_pairs_first rest (rw (← first) some))
    ∙ ap (λ (t : List ℕ). member_of t ∷ members_of (after_first (λ b. b == ampersand) rest)) (sym first)
    ∙ ap (λ (t : List ℕ). member_of piece ∷ members_of t) (sym others)

-- behind a piece there is less
pub less_is_left : (rest behind : List ℕ) → behind ≡ after_first (λ b. b == ampersand) rest → 0 < length rest
    → length behind < length rest
less_is_left rest behind others some =
    omega (arith, ap length others, length-drop (position_or_len (λ b. b == ampersand) rest + 1) rest)

-- an empty query has no members
pub no_members : (rest : List ℕ) → length rest ≡ 0 → members_of rest ≡ []
no_members rest none = ap members_of (nil_from_length rest none) ∙ ap (map decoded_pair) raw_pairs-nil
