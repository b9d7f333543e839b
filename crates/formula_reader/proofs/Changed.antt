-- A readable formula stays readable as what its pieces may become.
use Rattle.std.proofs.Common.{List, [], ◌∷◌, ◌++◌, true, false, refl, sym, ◌∙◌, subst, inl, inr}
use Rattle.std.specs.List.{All, AllZip}
use Rattle.std.proofs.lemmas.List.Elements.{All-cons, All-head, All-tail}
use Rattle.ref_rewrite.specs.declared.pieces.Piece.{Piece}
use Rattle.ref_rewrite.specs.declared.pieces.Piece.TheVariants as piece
use Rattle.formula_reader.specs.declared.symbols.Symbol.{Symbol}
use Rattle.formula_reader.specs.declared.symbols.Symbol.TheVariants as symbol
use Rattle.formula_reader.specs.Symbols.{AreOfPiece, AreOfPieces, AreSymbolsOf}
use Rattle.formula_reader.specs.ReadBack.{IsWellFormed, NoTextFirst, AreApart}
use Rattle.formula_reader.specs.Changed.{MayBecome, StaysReadable}
use Rattle.formula_reader.specs.Laws.{LimitsStay}
use Rattle.formula_reader.proofs.Exchanged.{AreExchanged, all_stay, both_exchanged, exchanged_passed}
use Rattle.formula_reader.proofs.TreeStays.{tree_stays}

-- so may pieces, one by one
abbrev MayBe : List Piece → List Piece → Type 0
MayBe one other = AllZip MayBecome one other

-- there are such symbols, in which operands of these are exchanged
abbrev HasExchanged : (List Symbol → Type 0) → List Symbol → Type 0
HasExchanged P symbols = (all : List Symbol) × P all × AreExchanged symbols all

-- what a piece becomes has such symbols
piece_exchanged : (one other : Piece) (symbols : List Symbol) → MayBecome one other → AreOfPiece one symbols
    → HasExchanged (AreOfPiece other) symbols
piece_exchanged (piece.Text text) (piece.Text other) symbols may are =
    (symbols, subst (λ own. AreOfPiece (piece.Text own) symbols) (sym may) are, all_stay symbols)
piece_exchanged (piece.Word word) (piece.Word other) symbols may are =
    (symbol.Word other ∷ [], refl, rw are (inr (true, refl, refl), tt))
piece_exchanged (piece.Ref reference) (piece.Ref other) symbols may are =
    (symbol.Ref other.area ∷ [], refl, rw are (inr (true, refl, refl), tt))
piece_exchanged (piece.Ref reference) piece.Lost symbols may are =
    (symbol.Lost ∷ [], refl, rw are (inr (false, refl, refl), tt))
piece_exchanged piece.Lost piece.Lost symbols may are = (symbol.Lost ∷ [], refl, rw are (inl refl, tt))
piece_exchanged _ _ symbols may are = absurd may

pieces_exchanged : (one other : List Piece) (symbols : List Symbol) → MayBe one other → AreOfPieces one symbols
    → HasExchanged (AreOfPieces other) symbols
pieces_exchanged [] [] symbols may are = (symbols, are, all_stay symbols)
pieces_exchanged [] (next ∷ others) symbols may are = absurd may
pieces_exchanged (first ∷ later) [] symbols may are = absurd may
pieces_exchanged (first ∷ later) (next ∷ others) symbols may are =
    let front = piece_exchanged first next are.0 may.0 are.2 in
    let back = pieces_exchanged later others are.1 may.1 are.3 in (
      front.0 ++ back.0,
      (front.0, back.0, front.1, back.1, refl),
      rw are.4 (both_exchanged are.0 are.1 front.0 back.0 front.2 back.2),
    )

formula_exchanged : (one other : List Piece) (symbols : List Symbol) → MayBe one other → AreSymbolsOf one symbols
    → HasExchanged (AreSymbolsOf other) symbols
formula_exchanged (piece.Text text ∷ later) [] symbols may are = absurd may
formula_exchanged (piece.Text text ∷ later) (piece.Text other ∷ others) symbols may are =
    let found = pieces_exchanged (piece.Text are.0 ∷ later) (piece.Text are.0 ∷ others) symbols (refl, may.1) are.2 in
    (found.0, (are.0, may.0 ∙ are.1, found.1), found.2)
formula_exchanged (piece.Text text ∷ later) (next ∷ others) symbols may are = absurd may.0
formula_exchanged one other symbols may are = absurd are

-- and each list of symbols that it has comes from such symbols
abbrev WasExchanged : (List Symbol → Type 0) → List Symbol → Type 0
WasExchanged P symbols = (all : List Symbol) × P all × AreExchanged all symbols

piece_was : (one other : Piece) (symbols : List Symbol) → MayBecome one other → AreOfPiece other symbols
    → WasExchanged (AreOfPiece one) symbols
piece_was (piece.Text text) (piece.Text other) symbols may are =
    (symbols, subst (λ own. AreOfPiece (piece.Text own) symbols) may are, all_stay symbols)
piece_was (piece.Word word) (piece.Word other) symbols may are =
    (symbol.Word word ∷ [], refl, rw are (inr (true, refl, refl), tt))
piece_was (piece.Ref reference) (piece.Ref other) symbols may are =
    (symbol.Ref reference.area ∷ [], refl, rw are (inr (true, refl, refl), tt))
piece_was (piece.Ref reference) piece.Lost symbols may are =
    (symbol.Ref reference.area ∷ [], refl, rw are (inr (false, refl, refl), tt))
piece_was piece.Lost piece.Lost symbols may are = (symbol.Lost ∷ [], refl, rw are (inl refl, tt))
piece_was _ _ symbols may are = absurd may

pieces_were : (one other : List Piece) (symbols : List Symbol) → MayBe one other → AreOfPieces other symbols
    → WasExchanged (AreOfPieces one) symbols
pieces_were [] [] symbols may are = (symbols, are, all_stay symbols)
pieces_were [] (next ∷ others) symbols may are = absurd may
pieces_were (first ∷ later) [] symbols may are = absurd may
pieces_were (first ∷ later) (next ∷ others) symbols may are =
    let front = piece_was first next are.0 may.0 are.2 in
    let back = pieces_were later others are.1 may.1 are.3 in (
      front.0 ++ back.0,
      (front.0, back.0, front.1, back.1, refl),
      rw are.4 (both_exchanged front.0 back.0 are.0 are.1 front.2 back.2),
    )

formula_was : (one other : List Piece) (symbols : List Symbol) → MayBe one other → AreSymbolsOf other symbols
    → WasExchanged (AreSymbolsOf one) symbols
formula_was [] (piece.Text other ∷ others) symbols may are = absurd may
formula_was (piece.Text text ∷ later) (piece.Text other ∷ others) symbols may are =
    let found = pieces_were (piece.Text are.0 ∷ later) (piece.Text are.0 ∷ others) symbols (refl, may.1) are.2 in
    (found.0, (are.0, sym may.0 ∙ are.1, found.1), found.2)
formula_was (first ∷ later) (piece.Text other ∷ others) symbols may are = absurd may.0
formula_was one other symbols may are = absurd are

-- a text stands before another only where it did
text_apart : (one other : List Piece) → MayBe one other → NoTextFirst one → NoTextFirst other
text_apart (piece.Text text ∷ later) other may none = absurd none
text_apart [] (piece.Text own ∷ others) may none = absurd may
text_apart (first ∷ later) (piece.Text own ∷ others) may none = absurd may.0
text_apart one other may none = tt

stay_apart : (one other : List Piece) → MayBe one other → AreApart one → AreApart other
stay_apart [] [] may apart = tt
stay_apart [] (next ∷ others) may apart = absurd may
stay_apart (first ∷ later) [] may apart = absurd may
stay_apart (piece.Text text ∷ later) (piece.Text own ∷ others) may apart =
    (text_apart later others may.1 apart.0, stay_apart later others may.1 apart.1)
stay_apart (piece.Text text ∷ later) (next ∷ others) may apart = absurd may.0
stay_apart (first ∷ later) (piece.Text own ∷ others) may apart = absurd may.0
stay_apart (first ∷ later) (next ∷ others) may apart = stay_apart later others may.1 apart

-- and each piece is as reading leaves it
piece_formed : (one other : Piece) → MayBecome one other → IsWellFormed one → IsWellFormed other
piece_formed (piece.Text text) (piece.Text other) may is = rw may is
piece_formed (piece.Word word) (piece.Word other) may is = may is
piece_formed (piece.Ref reference) (piece.Ref other) may is = tt
piece_formed (piece.Ref reference) piece.Lost may is = tt
piece_formed piece.Lost piece.Lost may is = tt
piece_formed _ _ may is = absurd may

stay_formed : (one other : List Piece) → MayBe one other → All IsWellFormed one → All IsWellFormed other
stay_formed [] [] may formed = formed
stay_formed [] (next ∷ others) may formed = absurd may
stay_formed (first ∷ later) [] may formed = absurd may
stay_formed (first ∷ later) (next ∷ others) may formed =
    All-cons IsWellFormed next others (piece_formed first next may.0 (All-head IsWellFormed first later formed))
    (stay_formed later others may.1 (All-tail IsWellFormed first later formed))

pub limits_stay : LimitsStay
limits_stay one other may keeps symbols are =
    let found = formula_was one.pieces other.pieces symbols may are in
    exchanged_passed found.0 symbols found.2 (keeps found.0 found.1)

pub stays_readable : StaysReadable
stays_readable before after here one other is may present =
    let found = formula_exchanged one.pieces other.pieces is.tree_is.0 may is.tree_is.1 in
    let grown = tree_stays is.tree_is.0 is.tree is.tree_is.2 found.0 found.2 in
    record {
      tree = grown.0;
      tree_is = (found.0, found.1, grown.1);
      limits = exchanged_passed is.tree_is.0 found.0 found.2 is.limits;
      form = record {
        apart = stay_apart one.pieces other.pieces may is.form.apart;
        each = stay_formed one.pieces other.pieces may is.form.each;
      };
      references = present;
    }
