use Rattle.std.proofs.Common.{subst}
use Rattle.std.specs.Prelude.{All}
use Rattle.formula_reader.specs.Printed.{ArePrintable}
use Rattle.formula_reader.specs.ReadBack.{AreKnown, IsPresent}
use Rattle.world_model.specs.Book.{PlaceBook}
use Rattle.values_api.specs.KnownSheets.{are_known, pieces_within}
use Rattle.values_api.specs.Sheets.{formula_sheets}
use Rattle.values_api.proofs.entry.formula.Goals as goal

pub returns-clause-within : goal.returns-clause-within
returns-clause-within c =
    let book = c.args.book.now in
    let here = c.args.sheet in
    let pieces = c.in_ok-formula.formula.pieces in
    let refers = subst (λ (book : PlaceBook). AreKnown (formula_sheets book.sheets) here
    → ArePrintable (formula_sheets book.sheets) pieces × All (IsPresent (formula_sheets book.sheets) here) pieces)
    c.of.ensures c.in_ok-formula.ensures.references in
    let known = are_known book c.stays_sound.ensures (c.ids_find.ensures.finds book c.stays_sound.ensures) here
    c.requires.there in
    let both = refers known in
    pieces_within book.sheets here pieces both.0 both.1
