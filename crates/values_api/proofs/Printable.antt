-- Each formula of a sound spreadsheet can be printed.
use Rattle.std.proofs.Common.{ℕ, ◌≤◌, List, get_or, ap, arith}
use Rattle.std.specs.List.{All}
use Rattle.std.specs.Option.{option_map}
use Rattle.grid_range.specs.Area.{AreaWithin}
use Rattle.grid_range.specs.Band.{Within}
use Rattle.grid_range.specs.declared.band.Band.{Band}
use Rattle.grid_range.specs.declared.band.Band.TheVariants.{Whole, From, Span}
use Rattle.ref_rewrite.specs.declared.pieces.Piece.{Piece}
use Rattle.ref_rewrite.specs.declared.pieces.Piece.TheVariants as piece
use Rattle.ref_rewrite.specs.declared.reference.Ref.{Ref as Reference}
use Rattle.formula_reader.specs.Printed.{IsPrintable, IsPrintableReference, ArePrintable}
use Rattle.formula_reader.specs.ReferenceText.{HasForm}
use Rattle.world_model.specs.declared.limits.TheConstants.{MOST_COLUMNS, MOST_ROWS}
use Rattle.world_model.specs.Book.{PlaceBook}
use Rattle.world_model.specs.Sheet.{PlaceSheet}
use Rattle.world_model.specs.Sound.{HasNotation, IsAreaWithin, IsPieceWithin, IsSound, place_sheet_with}
use Rattle.values_api.specs.FoundLaws.{some_and, sound_sheet}
use Rattle.values_api.specs.Sheets.{formula_sheets}

has_form : (rows cols : Band) (r c : ℕ) → HasNotation rows cols → Within rows r → Within cols c → r ≤ MOST_ROWS
    → c ≤ MOST_COLUMNS → HasForm rows cols
has_form Whole (Span start end) r c form rows cols few short = (tt, (omega (arith, cols.0), omega (arith, cols.1)))
has_form (From first) (Span start end) r c form rows cols few short =
    (omega (arith, rows), (omega (arith, cols.0), omega (arith, cols.1)))
has_form (Span first last) (Span start end) r c form rows cols few short =
    ((omega (arith, rows.0), omega (arith, rows.1)), (omega (arith, cols.0), omega (arith, cols.1)))
has_form (Span first last) Whole r c form rows cols few short = (omega (arith, rows.0), omega (arith, rows.1))
has_form (Span first last) (From start) r c form rows cols few short = absurd form
has_form (From first) Whole r c form rows cols few short = absurd form
has_form (From first) (From start) r c form rows cols few short = absurd form
has_form Whole Whole r c form rows cols few short = absurd form
has_form Whole (From start) r c form rows cols few short = absurd form

module _ (book : PlaceBook) (sound : IsSound book) where
  reference_printable : (reference : Reference) → IsAreaWithin book.sheets reference.area
      → IsPrintableReference (formula_sheets book.sheets) reference
  reference_printable reference within =
      let (sheet, is, lines) =
      some_and (λ (sheet : PlaceSheet). AreaWithin reference.area sheet.table.rows sheet.table.cols)
      (place_sheet_with reference.area.sheet book.sheets) within.0 in
      let own = sound_sheet book sound reference.area.sheet sheet is in
      record {
        titled = record {
          title = sheet.title;
          has = ap (option_map (λ (sheet : PlaceSheet). sheet.title)) is;
          some = own.titled;
        };
        form = has_form reference.area.rows reference.area.cols sheet.table.rows sheet.table.cols within.1
            lines.0 lines.1
            own.rows.1 own.cols.1;
      }

  piece_printable : (one : Piece) → IsPieceWithin book.sheets one → IsPrintable (formula_sheets book.sheets) one
  piece_printable (piece.Text text) within = tt
  piece_printable (piece.Word word) within = tt
  piece_printable (piece.Ref reference) within = reference_printable reference within
  piece_printable piece.Lost within = tt

  pub pieces_printable : (pieces : List Piece) → All (IsPieceWithin book.sheets) pieces
      → ArePrintable (formula_sheets book.sheets) pieces
  pieces_printable pieces within = λ k d there. piece_printable (get_or pieces k d) (within k d there)
