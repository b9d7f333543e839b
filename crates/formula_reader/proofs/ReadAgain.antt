-- What is printed is read again as the same pieces.
use Rattle.a1_notation.specs.Laws.{A1Laws}
use Rattle.std.proofs.Common.{◌≡◌, ℕ, ◌<◌, List, [], ◌∷◌, ◌++◌, length, map, refl, sym, ap, ◌∙◌, subst, arith}
use Rattle.std.specs.List.{All}
use Rattle.std.proofs.lemmas.List.Elements.{All-head, All-tail}
use Rattle.formula_reader.proofs.Placing.{are_placed}
use Rattle.formula_reader.proofs.Lexemes.{Item, spell, placed, tokens_in}
use Rattle.ref_rewrite.specs.declared.pieces.Formula.{Formula}
use Rattle.ref_rewrite.specs.declared.pieces.Piece.{Piece}
use Rattle.ref_rewrite.specs.declared.pieces.Piece.TheVariants as piece
use Rattle.formula_reader.specs.declared.symbols.Symbol.{Symbol}
use Rattle.formula_reader.specs.Sheets.{Sheets}
use Rattle.formula_reader.specs.Pieces.{text_piece, pieces_from}
use Rattle.formula_reader.specs.Printed.{printed, IsPrintable, ArePrintable}
use Rattle.formula_reader.specs.Symbols.{AreSymbolsOf}
use Rattle.formula_reader.specs.ReadBack.{piece_as_printed, IsWellFormed, NoTextFirst, AreApart, IsPresent, IsReadable, IsReadAs, as_printed}
use Rattle.formula_reader.proofs.Neighbours.{kind_of_token, kind_of_symbol, before_operand, behind_operand, Leads, tree_leads}
use Rattle.formula_reader.proofs.Apart.{AreLexemes, items_fit}
use Rattle.formula_reader.proofs.Counted.{passed_alike}
use Rattle.formula_reader.proofs.PrintedItems.{assembled, behind_text, items_printed}
use Rattle.formula_reader.proofs.Gathering.{gathered, read_gathered}

kept_whole : (text : List ℕ) → 0 < length text → text_piece text ≡ piece.Text text ∷ []
kept_whole [] some = absurd (omega arith)
kept_whole (byte ∷ bytes) some = refl

-- pieces of which no text stands before another are the same again
text_apart : (text : List ℕ) (later : List Piece) → 0 < length text → NoTextFirst later
    → assembled text later ≡ piece.Text text ∷ assembled [] later
text_apart text [] some apart = kept_whole text some
text_apart text (piece.Text own ∷ later) some apart = absurd apart
text_apart text (piece.Word word ∷ later) some apart = rw (kept_whole text some) refl
text_apart text (piece.Ref reference ∷ later) some apart = rw (kept_whole text some) refl
text_apart text (piece.Lost ∷ later) some apart = rw (kept_whole text some) refl

same_pieces : (pieces : List Piece) → AreApart pieces → All IsWellFormed pieces
    → assembled [] pieces ≡ map piece_as_printed pieces
same_pieces [] apart formed = refl
same_pieces (piece.Text text ∷ later) apart formed =
    text_apart text later (All-head IsWellFormed (piece.Text text) later formed) apart.0
    ∙ ap (λ pieces. piece.Text text ∷ pieces)
    (same_pieces later apart.1 (All-tail IsWellFormed (piece.Text text) later formed))
same_pieces (piece.Word word ∷ later) apart formed =
    ap (λ pieces. piece.Word word ∷ pieces)
    (same_pieces later apart (All-tail IsWellFormed (piece.Word word) later formed))
same_pieces (piece.Ref reference ∷ later) apart formed =
    ap (λ pieces. piece_as_printed (piece.Ref reference) ∷ pieces)
    (same_pieces later apart (All-tail IsWellFormed (piece.Ref reference) later formed))
same_pieces (piece.Lost ∷ later) apart formed =
    ap (λ pieces. piece.Lost ∷ pieces) (same_pieces later apart (All-tail IsWellFormed piece.Lost later formed))

module _ (a1 : A1Laws) (sheets : Sheets) (here : ℕ) where
  -- behind its = a printed formula spells items of the kinds of its symbols
  record IsSpelled (pieces : List Piece) (symbols : List Symbol) : Type 0 where
    pub items : List Item
    pub text : printed sheets pieces ≡ 61 ∷ spell items
    pub are : AreLexemes items
    pub kinds : map kind_of_token (tokens_in items) ≡ map kind_of_symbol symbols
    pub again : gathered sheets here (61 ∷ []) items ≡ assembled [] pieces

  spelled_again : (pieces : List Piece) (symbols : List Symbol) → AreSymbolsOf pieces symbols
      → ArePrintable sheets pieces
      → All IsWellFormed pieces → All (IsPresent sheets here) pieces → IsSpelled pieces symbols
  spelled_again [] symbols are printable formed present = absurd are
  spelled_again (piece.Word word ∷ later) symbols are printable formed present = absurd are
  spelled_again (piece.Ref reference ∷ later) symbols are printable formed present = absurd are
  spelled_again (piece.Lost ∷ later) symbols are printable formed present = absurd are
  spelled_again (piece.Text text ∷ later) symbols are printable formed present =
      let parts = are.2 in
      let rest = items_printed a1 sheets here later parts.1 parts.3
      (All-tail (IsPrintable sheets) (piece.Text text) later printable)
      (All-tail IsWellFormed (piece.Text text) later formed)
      (All-tail (IsPresent sheets here) (piece.Text text) later present) in
      let found = behind_text sheets here later parts.1 rest.0 rest.1 are.0 parts.0 parts.2 in
      record {
        items = found.0;
        text = ap (λ own. own ++ printed sheets later) are.1 ∙ ap (λ own. 61 ∷ own) (sym found.1.of.spells);
        are = found.1.of.are;
        kinds = found.1.of.kinds_are ∙ ap (map kind_of_symbol) (sym parts.4);
        again = found.1.again (61 ∷ []) ∙ ap (λ own. assembled own later) (sym are.1);
      }

  -- so its items are its tokens, and give its pieces
  pub read_again : (formula : Formula) → ArePrintable sheets formula.pieces → IsReadable sheets here formula
      → IsReadAs sheets here (printed sheets formula.pieces) (as_printed formula)
  read_again formula printable is =
      let symbols = is.tree_is.0 in
      let found = spelled_again formula.pieces symbols is.tree_is.1 printable is.form.each is.references in
      let leads = subst (λ kinds. Leads before_operand kinds behind_operand) (sym found.kinds)
      (tree_leads symbols is.tree is.tree_is.2) in
      let pieces_are : pieces_from sheets here (printed sheets formula.pieces) 0
      (placed 0 found.items) ≡ map piece_as_printed formula.pieces =
      rw found.text
      (read_gathered sheets here found.items ∙ found.again ∙ same_pieces formula.pieces is.form.apart is.form.each) in
      record {
        tokens = placed 0 found.items;
        are = (
          spell found.items,
          found.text,
          are_placed [] found.items
              (items_fit found.items before_operand behind_operand found.are leads),
        );
        formula_is = rw (passed_alike found.items symbols found.kinds, is.limits, pieces_are) refl;
      }
