-- What a formula refers to that is read on a sheet of a sound spreadsheet is there: each sheet can be told by its
-- title.
use Rattle.std.proofs.Common.{◌≡◌, ℕ, List, refl, sym, subst}
use Rattle.std.specs.Prelude.{Option, Some}
use Rattle.std.specs.List.{All}
use Rattle.std.specs.Option.{IsSome}
use Rattle.ref_rewrite.specs.declared.pieces.Formula.{Formula}
use Rattle.formula_reader.specs.Pieces.{IsRead}
use Rattle.formula_reader.specs.Reads.{ReadsAreThere}
use Rattle.formula_reader.specs.declared.fault.FormulaFault.{FormulaFault}
use Rattle.world_model.specs.Book.{PlaceBook}
use Rattle.world_model.specs.Laws.{IdsFind}
use Rattle.world_model.specs.Sheet.{PlaceSheet}
use Rattle.world_model.specs.Sound.{IsPieceWithin, IsSound, place_sheet_with}
use Rattle.values_api.specs.KnownSheets.{are_known, pieces_within}
use Rattle.values_api.specs.Sheets.{formula_sheets}

-- what is read on a sheet that is there refers to what is there
abbrev pub ReadsWithin : Type 0
ReadsWithin = (book : PlaceBook) (here : ℕ) (sheet : PlaceSheet) (text : List ℕ) (formula : Formula)
    (limit : Option FormulaFault) → IsSound book → place_sheet_with here book.sheets ≡ Some sheet
    → IsRead (formula_sheets book.sheets) here text formula limit → All (IsPieceWithin book.sheets) formula.pieces

pub reads_within : IdsFind → ReadsAreThere → ReadsWithin
reads_within ids refer book here sheet text formula limit sound there is =
    let known = are_known book sound (ids.finds book sound) here (subst IsSome (sym there) refl) in
    let both = refer (formula_sheets book.sheets) here text formula limit is known in
    pieces_within book.sheets here formula.pieces both.0 both.1
