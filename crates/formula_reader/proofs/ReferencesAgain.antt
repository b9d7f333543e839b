-- A reference that is printed and read again.
use Rattle.a1_notation.specs.Laws.{A1Laws}
use Rattle.std.proofs.Common.{◌≡◌, ℕ, true, false, List, refl, inl, inr, subst}
use Rattle.std.specs.Prelude.{Some}
use Rattle.std.proofs.lemmas.Bool.{cases_Bool}
use Rattle.ref_rewrite.specs.declared.reference.Ref.{Ref}
use Rattle.ref_rewrite.specs.declared.pieces.Piece.TheVariants as piece
use Rattle.formula_reader.specs.declared.tokens.token.Token.{Token}
use Rattle.formula_reader.specs.declared.tokens.token.Token.TheVariants as token
use Rattle.formula_reader.proofs.Lexemes.{IsLexeme}
use Rattle.formula_reader.specs.Sheets.{Sheets}
use Rattle.formula_reader.specs.Printed.{printed_piece, IsPrintableReference}
use Rattle.formula_reader.specs.Pieces.{piece_of}
use Rattle.formula_reader.specs.ReadBack.{piece_as_printed, IsSheetOf, IsPresentReference}
use Rattle.formula_reader.proofs.Neighbours.{operand, kind_of_token}
use Rattle.formula_reader.proofs.PrintedReferences.{written_again, own_printed, titled_printed}

-- the piece of a reference to the formula's own sheet, and of one behind its sheet's title
pub own_again : (sheets : Sheets) (here : ℕ) (reference : Ref) → reference.named ≡ false
    → IsPresentReference sheets here reference
    → piece_of sheets here (token.Reference (written_again reference)) ≡ Some (piece_as_printed (piece.Ref reference))
own_again sheets here reference own present =
    let same : reference.area.sheet ≡ here = subst
    (λ named. IsSheetOf sheets here named reference.area.sheet) own present.sheet in
    rw (← same, present.inside, own) refl

pub titled_again : (sheets : Sheets) (here : ℕ) (reference : Ref) (title : List ℕ) → reference.named ≡ true
    → sheets.title reference.area.sheet ≡ Some title → IsPresentReference sheets here reference
    → piece_of sheets here (token.TitledReference title (written_again reference)) ≡ Some
    (piece_as_printed (piece.Ref reference))
titled_again sheets here reference title named has present =
    let sheet_is : IsSheetOf sheets here true reference.area.sheet =
    subst (λ named. IsSheetOf sheets here named reference.area.sheet) named present.sheet in
    let one : title ≡ sheet_is.titled.title = cc in
    rw (one, sheet_is.names, present.inside, named) refl

-- what is printed is a lexeme of the token, whose piece is the reference with the marks that are printed
pub record IsReadAgain (sheets : Sheets) (here : ℕ) (reference : Ref) (token : Token) : Type 0 where
  pub lexeme_is : IsLexeme token (printed_piece sheets (piece.Ref reference))
  pub piece_is : piece_of sheets here token ≡ Some (piece_as_printed (piece.Ref reference))
  pub kind_is : kind_of_token token ≡ operand true

pub reference_again : A1Laws → (sheets : Sheets) (here : ℕ) (reference : Ref) → IsPrintableReference sheets reference
    → IsPresentReference sheets here reference → (token : Token) × IsReadAgain sheets here reference token
reference_again a1 sheets here reference printable present =
    elim (cases_Bool reference.named) [
      | inl named ↦ (
        token.TitledReference printable.titled.title (written_again reference),
        record {
          lexeme_is =
              titled_printed a1 sheets reference printable.titled.title named printable.titled.has
              printable.titled.some printable.form;
          piece_is = titled_again sheets here reference printable.titled.title named printable.titled.has present;
          kind_is = refl;
        },
      )
      | inr own ↦ (
        token.Reference (written_again reference),
        record {
          lexeme_is = own_printed a1 sheets reference own printable.form;
          piece_is = own_again sheets here reference own present;
          kind_is = refl;
        },
      )
    ]
