-- The pieces of a formula text from its items, without places.
use Rattle.std.proofs.Common.{◌≡◌, ℕ, ◌+◌, List, [], ◌∷◌, ◌++◌, length, refl, arith, append_assoc, append-nil}
use Rattle.std.proofs.lemmas.List.{drop_at, length-append}
use Rattle.ref_rewrite.specs.declared.pieces.Piece.{Piece}
use Rattle.formula_reader.specs.declared.tokens.token.Placed.{Placed}
use Rattle.formula_reader.specs.Tokens.{AreTokens}
use Rattle.formula_reader.proofs.Lexemes.{Item, gap, lexeme, spell, AreFit, placed}
use Rattle.formula_reader.proofs.Placing.{part_there, items_of}
use Rattle.formula_reader.specs.Sheets.{Sheets}
use Rattle.formula_reader.specs.Pieces.{piece_of, text_piece, with_piece, pieces_from}

-- the pieces of items, where some text stands before them that belongs to the next piece
abbrev pub gathered : Sheets → ℕ → List ℕ → List Item → List Piece
gathered sheets here pending [] = text_piece pending
gathered sheets here pending (gap blanks ∷ later) = gathered sheets here (pending ++ blanks) later
gathered sheets here pending (lexeme own token ∷ later) =
    with_piece (piece_of sheets here token) pending (gathered sheets here [] later)
    (gathered sheets here (pending ++ own) later)

-- behind a front, the tokens of a text have the pieces of its items
pub pieces_gathered : (sheets : Sheets) (here at : ℕ) (front pending : List ℕ) (items : List Item)
    → at + 1 ≡ length front + length pending
    → pieces_from sheets here (front ++ (pending ++ spell items)) (length front) (placed at items)
    ≡ gathered sheets here pending items
pieces_gathered sheets here at front pending [] place =
    rw (drop_at front (pending ++ []) (length front) refl, append-nil pending) refl
pieces_gathered sheets here at front pending (gap blanks ∷ later) place =
    rw (← append_assoc pending blanks (spell later))
    (pieces_gathered sheets here (at + length blanks) front (pending ++ blanks) later
    (omega (arith, length-append pending blanks)))
pieces_gathered sheets here at front pending (lexeme own token ∷ later) place =
    let text = front ++ (pending ++ (own ++ spell later)) in
    let length_is : length (front ++ (pending ++ own)) ≡ at + length own + 1 =
    omega (arith, length-append front (pending ++ own), length-append pending own) in
    let behind : pieces_from sheets here text (at + length own + 1)
    (placed (at + length own) later) ≡ gathered sheets here [] later =
    rw (append_assoc front (pending ++ own) (spell later), append_assoc pending own (spell later), length_is)
    at (pieces_gathered sheets here (at + length own) (front ++ (pending ++ own)) [] later (omega arith)) in
    let on : pieces_from sheets here text (length front) (placed (at + length own) later) ≡ gathered sheets here
    (pending ++ own) later =
    rw (append_assoc pending own (spell later))
    at (pieces_gathered sheets here (at + length own) front (pending ++ own) later (omega (
      arith,
      length-append pending own,
    ))) in
    rw (part_there front pending (own ++ spell later) (at + 1) place, behind, on) refl

-- and so have those of a formula text, which stand behind its =
pub read_gathered : (sheets : Sheets) (here : ℕ) (items : List Item)
    → pieces_from sheets here (61 ∷ spell items) 0 (placed 0 items) ≡ gathered sheets here (61 ∷ []) items
read_gathered sheets here items = pieces_gathered sheets here 0 [] (61 ∷ []) items refl

-- so what holds of the pieces of the items of a text holds of those of its tokens
pub gathered_has : (P : List ℕ → List Piece → Type 0) (sheets : Sheets) (here : ℕ) (behind : List ℕ)
    (tokens : List Placed)
    → ((items : List Item) → AreFit items → P (spell items) (gathered sheets here (61 ∷ []) items))
    → AreTokens behind 0 tokens → P behind (pieces_from sheets here (61 ∷ behind) 0 tokens)
gathered_has P sheets here behind tokens has are =
    let found = items_of behind tokens are in
    rw (← read_gathered sheets here found.0, found.1, found.3) at (has found.0 found.2)
