-- What may become of a formula between its reading and its printing.
use Rattle.std.specs.Prelude.{◌≡◌, ℕ, ⊤, List, map}
use Rattle.std.specs.List.{All, AllZip}
use Rattle.grid_range.specs.declared.axis.Axis.{Axis}
use Rattle.grid_range.specs.declared.change.Change.{Change}
use Rattle.ref_rewrite.specs.declared.pieces.Formula.{Formula}
use Rattle.ref_rewrite.specs.declared.pieces.Piece.{Piece}
use Rattle.ref_rewrite.specs.declared.pieces.Piece.TheVariants as piece
use Rattle.ref_rewrite.specs.Following.{piece_followed, piece_without_sheet}
use Rattle.ref_rewrite.specs.Renaming.{piece_renamed}
use Rattle.formula_reader.specs.Sheets.{Sheets}
use Rattle.formula_reader.specs.Printed.{printed}
use Rattle.formula_reader.specs.ReadBack.{IsOwnWord, IsPresent, IsReadable, as_printed}

-- what a piece may become: a text stays, a word stays one, and a reference is another or lost for good
abbrev pub MayBecome : Piece → Piece → Type 0
MayBecome (piece.Text text) (piece.Text other) = other ≡ text
MayBecome (piece.Word word) (piece.Word other) = IsOwnWord word → IsOwnWord other
MayBecome (piece.Ref reference) (piece.Ref other) = ⊤
MayBecome (piece.Ref reference) piece.Lost = ⊤
MayBecome piece.Lost piece.Lost = ⊤
MayBecome _ _ = ⊥

-- a formula that is readable is so as what its pieces may become, at any sheets, where the cells of its
-- references are in the grid
abbrev pub StaysReadable : Type 0
StaysReadable = (before after : Sheets) (here : ℕ) (one other : Formula) → IsReadable before here one
    → AllZip MayBecome one.pieces other.pieces → All (IsPresent after here) other.pieces
    → IsReadable after here other

-- a formula prints the same text once it is read again as it is printed
abbrev pub PrintsTheSame : Type 0
PrintsTheSame = (sheets : Sheets) (formula : Formula)
    → printed sheets (as_printed formula).pieces ≡ printed sheets formula.pieces

-- what is made of pieces where lines change, where a sheet is lost and where a name becomes another that
-- is a word, they may become
abbrev pub MayFollow : Type 0
MayFollow = (sheet : ℕ) (axis : Axis) (count : ℕ) (change : Change) (pieces : List Piece)
    → AllZip MayBecome pieces (map (piece_followed sheet axis count change) pieces)

abbrev pub MayLoseSheet : Type 0
MayLoseSheet = (sheet : ℕ) (pieces : List Piece) → AllZip MayBecome pieces (map (piece_without_sheet sheet) pieces)

abbrev pub MayBeRenamed : Type 0
MayBeRenamed = (old new : List ℕ) (pieces : List Piece) → IsOwnWord new
    → AllZip MayBecome pieces (map (piece_renamed old new) pieces)
