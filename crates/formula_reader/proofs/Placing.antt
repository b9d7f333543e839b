-- Items spell a text, and their tokens stand in it at their places; each text with tokens is so spelled.
use Rattle.std.proofs.Common.{◌≡◌, ℕ, ◌+◌, ◌-◌, ◌≤◌, List, [], ◌∷◌, ◌++◌, length, take, drop, refl, sym, ap, ◌∙◌, arith, append_assoc, append-nil}
use Rattle.std.specs.Prelude.{map, slice_range}
use Rattle.std.proofs.lemmas.List.{drop_at, take_at, length-append, length-drop, length-take}
use Rattle.formula_reader.specs.declared.tokens.token.Placed.{Placed}
use Rattle.formula_reader.specs.declared.tokens.token.Token.{Token}
use Rattle.formula_reader.specs.Tokens.{FitsFirst, forms, StandsFrom, AreTokens}
use Rattle.formula_reader.proofs.Lexemes.{Item, gap, lexeme, spell, AreFit, placed, tokens_in}
use Rattle.formula_reader.proofs.Places.{pass_blanks, cut_rest}

-- a part of a text and the rest behind it, by their places
module _ (front own rest : List ℕ) (to : ℕ) (end : to ≡ length front + length own) where
  pub part_there : slice_range (front ++ (own ++ rest)) (length front) to ≡ own
  part_there =
      let long : length own ≡ to - length front = omega arith in
      ap (take (to - length front)) (drop_at front (own ++ rest) (length front) refl) ∙ take_at own rest
      (to - length front) long

  pub rest_there : drop to (front ++ (own ++ rest)) ≡ rest
  rest_there = rw (← append_assoc front own rest) (drop_at (front ++ own) rest to (length-append front own ∙ sym end))

-- a lexeme is a token at its place
lexeme_stands : (front own : List ℕ) (token : Token) (rest : List ℕ) → FitsFirst forms own token rest
    → StandsFrom (front ++ (own ++ rest)) (length front)
    (record { start = length front; end = length front + length own; token = token })
lexeme_stands front own token rest fits = record {
  before = omega arith;
  within = omega (arith, length-append front (own ++ rest), length-append own rest);
  ordered = omega arith;
  blanks = let none : length front - length front ≡ 0 = omega arith in rw none refl;
  fits =
      rw (
        part_there front own rest (length front + length own) refl,
        rest_there front own rest
            (length front + length own) refl,
      ) fits;
}

-- what items spell has their tokens
pub are_placed : (front : List ℕ) (items : List Item) → AreFit items
    → AreTokens (front ++ spell items) (length front) (placed (length front) items)
are_placed front [] fit = rw (drop_at front [] (length front) refl) refl
are_placed front (gap blanks ∷ later) fit =
    let text = front ++ (blanks ++ spell later) in
    let behind : AreTokens text (length front + length blanks) (placed (length front + length blanks) later) =
    rw (append_assoc front blanks (spell later), length-append front blanks) at
    (are_placed (front ++ blanks) later fit.1) in
    pass_blanks text (length front) (length front + length blanks) (omega arith)
    (rw (part_there front blanks (spell later) (length front + length blanks) refl) fit.0)
    (placed (length front + length blanks) later) behind
are_placed front (lexeme own token ∷ later) fit = (
  lexeme_stands front own token (spell later) fit.0,
  rw (append_assoc front own (spell later), length-append front own) at (are_placed (front ++ own) later fit.1),
)

-- a part of a text is as long as its places say
length_between : (text : List ℕ) (a b : ℕ) → a ≤ b → b ≤ length text → a + length (slice_range text a b) ≡ b
length_between text a b order within = rw (length-take (b - a) (drop a text), length-drop a text) (omega arith)

-- the tokens of a text from a byte on are those of items that spell it
items_from : (text : List ℕ) (from : ℕ) (tokens : List Placed) → from ≤ length text → AreTokens text from tokens
    → (items : List Item) × (spell items ≡ drop from text) × AreFit items × (placed from items ≡ tokens)
items_from text from [] within are = (gap (drop from text) ∷ [], append-nil (drop from text), (are, tt), refl)
items_from text from (first ∷ later) within are =
    let behind = items_from text first.end later are.0.within are.1 in
    let start = length_between text from first.start are.0.before (omega arith) in
    let end = length_between text first.start first.end are.0.ordered are.0.within in (
      gap (slice_range text from first.start) ∷ lexeme (slice_range text first.start first.end) first.token ∷ behind.0,
      rw (
        behind.1,
        ← cut_rest text first.start first.end are.0.ordered,
        ← cut_rest text from first.start are.0.before,
      ) refl,
      (are.0.blanks, (rw behind.1 are.0.fits, behind.2)),
      rw (start, end, behind.3) refl,
    )

-- so it is from the first byte on
pub items_of : (text : List ℕ) (tokens : List Placed) → AreTokens text 0 tokens
    → (items : List Item) × (spell items ≡ text) × AreFit items × (placed 0 items ≡ tokens)
items_of text tokens are = items_from text 0 tokens (omega arith) are

-- the tokens at their places are those without places
pub tokens_placed : (at : ℕ) (items : List Item) → map (λ (p : Placed). p.token) (placed at items) ≡ tokens_in items
tokens_placed at [] = refl
tokens_placed at (gap blanks ∷ later) = tokens_placed (at + length blanks) later
tokens_placed at (lexeme own token ∷ later) = ap (λ tokens. token ∷ tokens) (tokens_placed (at + length own) later)
