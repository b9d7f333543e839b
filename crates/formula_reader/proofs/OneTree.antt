-- A formula has one list of symbols at most, and so one tree.
use Rattle.a1_notation.specs.Laws.{QuotesEndOnce}
use Rattle.std.proofs.Common.{◌≡◌, List, [], ◌∷◌, refl, sym, ap, ◌∙◌, subst}
use Rattle.std.specs.Prelude.{Some}
use Rattle.ref_rewrite.specs.declared.pieces.Piece.{Piece}
use Rattle.ref_rewrite.specs.declared.pieces.Piece.TheVariants as piece
use Rattle.formula_reader.specs.declared.symbols.Symbol.{Symbol}
use Rattle.formula_reader.specs.Grammar.{HasTree}
use Rattle.formula_reader.specs.Symbols.{symbols_of, AreOfPiece, AreOfPieces, AreSymbolsOf}
use Rattle.formula_reader.specs.Laws.{HasOneTokens, HasOneSymbols, HasOneTree}
use Rattle.formula_reader.proofs.OneToken.{tokens_once}
use Rattle.formula_reader.proofs.Unique.{one_tree}

piece_once : QuotesEndOnce → (own : Piece) (one other : List Symbol) → AreOfPiece own one → AreOfPiece own other
    → one ≡ other
piece_once quotes (piece.Text text) one other are are' =
    let same = tokens_once quotes text 0 are.0 are'.0 are.1 are'.1 in
    let both : Some one ≡ Some other = sym are.2 ∙ ap symbols_of same ∙ are'.2 in
    cc
piece_once quotes (piece.Word word) one other are are' = are ∙ sym are'
piece_once quotes (piece.Ref reference) one other are are' = are ∙ sym are'
piece_once quotes piece.Lost one other are are' = are ∙ sym are'

pieces_once : QuotesEndOnce → (pieces : List Piece) (one other : List Symbol) → AreOfPieces pieces one
    → AreOfPieces pieces other → one ≡ other
pieces_once quotes [] one other are are' = are ∙ sym are'
pieces_once quotes (first ∷ later) one other are are' =
    let front = piece_once quotes first are.0 are'.0 are.2 are'.2 in
    let back = pieces_once quotes later are.1 are'.1 are.3 are'.3 in
    are.4 ∙ rw (front, back) refl ∙ sym are'.4

pub formula_once : QuotesEndOnce → (pieces : List Piece) (one other : List Symbol) → AreSymbolsOf pieces one
    → AreSymbolsOf pieces other → one ≡ other
formula_once quotes (piece.Text text ∷ later) one other are are' =
    let whole : 61 ∷ are.0 ≡ 61 ∷ are'.0 = sym are.1 ∙ are'.1 in
    let same : are.0 ≡ are'.0 = cc in
    pieces_once quotes (piece.Text are'.0 ∷ later) one other
    (subst (λ behind. AreOfPieces (piece.Text behind ∷ later) one) same are.2) are'.2
formula_once quotes _ one other are are' = absurd are

pub has_one_tokens : QuotesEndOnce → HasOneTokens
has_one_tokens quotes text one other are are' = tokens_once quotes text 0 one other are are'

pub has_one_symbols : QuotesEndOnce → HasOneSymbols
has_one_symbols quotes formula one other are are' = formula_once quotes formula.pieces one other are are'

pub has_one_tree : QuotesEndOnce → HasOneTree
has_one_tree quotes formula one other is is' =
    let same = formula_once quotes formula.pieces is.0 is'.0 is.1 is'.1 in
    one_tree is'.0 one other (subst (λ symbols. HasTree symbols one) same is.2) is'.2
