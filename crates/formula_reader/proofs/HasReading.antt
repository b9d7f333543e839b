-- Each text is read as a formula, and what is read of it is there.
use Rattle.std.proofs.Common.{ℕ, List, [], refl, sym, subst}
use Rattle.std.specs.Prelude.{Option, None}
use Rattle.std.proofs.lemmas.List.Elements.{All-cons, All-nil}
use Rattle.a1_notation.specs.Laws.{A1Laws}
use Rattle.ref_rewrite.specs.declared.pieces.Formula.{Formula}
use Rattle.ref_rewrite.specs.declared.pieces.Piece.TheVariants as piece
use Rattle.formula_reader.specs.declared.fault.FormulaFault.{FormulaFault}
use Rattle.formula_reader.specs.Limits.{passed}
use Rattle.formula_reader.specs.Pieces.{IsRead, by_tokens, as_text, one_text, pieces_from}
use Rattle.formula_reader.specs.Printed.{IsPrintable}
use Rattle.formula_reader.specs.ReadBack.{IsPresent}
use Rattle.formula_reader.specs.Reads.{HasReading, ReadsAreThere}
use Rattle.formula_reader.specs.Sheets.{Sheets}
use Rattle.formula_reader.proofs.Readable.{HasReferences, pieces_referring}

pub has_reading : HasReading
has_reading sheets here text none =
    none (one_text text) None
    (as_text (λ tokens are. none (record { pieces = pieces_from sheets here text 0 tokens }) (passed tokens)
    (by_tokens tokens are refl refl)) refl refl)

module _ (a1 : A1Laws) (sheets : Sheets) (here : ℕ) where
  text_there : (text : List ℕ) → HasReferences sheets here (one_text text)
  text_there text known = (
    All-cons (IsPrintable sheets) (piece.Text text) [] tt (All-nil (IsPrintable sheets)),
    All-cons (IsPresent sheets here) (piece.Text text) [] tt (All-nil (IsPresent sheets here)),
  )

  read_there : (text : List ℕ) (formula : Formula) (limit : Option FormulaFault) → IsRead sheets here text formula limit
      → HasReferences sheets here formula
  read_there text formula limit (by_tokens tokens (behind, text_is, are) formula_is limit_is) =
      subst (HasReferences sheets here) (sym formula_is)
      (subst (λ t. HasReferences sheets here (record { pieces = pieces_from sheets here t 0 tokens })) (sym text_is)
      (pieces_referring a1 sheets here behind tokens are))
  read_there text formula limit (as_text none formula_is limit_is) =
      subst (HasReferences sheets here) (sym formula_is) (text_there text)

pub reads_are_there : A1Laws → ReadsAreThere
reads_are_there a1 sheets here text formula limit is known = read_there a1 sheets here text formula limit is known
