-- What the references of a formula become when lines of a sheet are inserted, deleted or moved, or when
-- a sheet is deleted: insertDimension, deleteDimension, moveDimension and deleteSheet of the Google
-- Sheets API v4.
use Rattle.std.specs.Prelude.{ℕ, ◌≡◌, ◌≢◌, ◌==◌, Option, None, Some, if◌then◌else◌, ⊤}
use Rattle.std.specs.Option.{option_map_or}
use Rattle.grid_range.specs.declared.axis.Axis.{Axis}
use Rattle.grid_range.specs.declared.band.Band.{Band}
use Rattle.grid_range.specs.declared.change.Change.{Change}
use Rattle.grid_range.specs.Area.{band_on, IsWithinOn}
use Rattle.grid_range.specs.Tracking.{Tracks, area_followed}
use Rattle.ref_rewrite.specs.declared.reference.Ref.{Ref as Reference}
use Rattle.ref_rewrite.specs.declared.pieces.Piece.{Piece}
use Rattle.ref_rewrite.specs.declared.pieces.Piece.TheVariants.{Text, Word, Ref, Lost}

-- a reference to the sheet has lines on that axis that are among `count`
abbrev pub IsPieceWithinOn : ℕ → Axis → ℕ → Piece → Type 0
IsPieceWithinOn sheet axis count (Ref reference) = IsWithinOn sheet axis count reference.area
IsPieceWithinOn sheet axis count (Text text) = ⊤
IsPieceWithinOn sheet axis count (Word word) = ⊤
IsPieceWithinOn sheet axis count Lost = ⊤

-- a reference follows with its area, and its title and marks stay; without its area it is lost
abbrev pub reference_followed : ℕ → Axis → ℕ → Change → Reference → Piece
reference_followed sheet axis count change reference =
    option_map_or (λ area. Ref (record reference { area = area }))
    (area_followed sheet axis count change reference.area) Lost

-- a reference follows, a lost one is lost for good, and all else stays
abbrev pub piece_followed : ℕ → Axis → ℕ → Change → Piece → Piece
piece_followed sheet axis count change (Ref reference) =
    reference_followed sheet axis count change reference
piece_followed sheet axis count change (Text text) = Text text
piece_followed sheet axis count change (Word word) = Word word
piece_followed sheet axis count change Lost = Lost

-- the lines of a reference on the axis; another piece has none
abbrev pub lines_on : Axis → Piece → Option Band
lines_on axis (Ref reference) = Some (band_on axis reference.area)
lines_on axis (Text text) = None
lines_on axis (Word word) = None
lines_on axis Lost = None

-- what becomes of a piece: the lines of a reference to the sheet are followed, whatever their names
-- are, and all else stays
abbrev pub IsFollowed : ℕ → Axis → ℕ → Change → Piece → Piece → Type 0
IsFollowed sheet axis count change (Ref reference) after =
    (reference.area.sheet ≡ sheet
    → Tracks (band_on axis reference.area) count change (lines_on axis after))
    × (reference.area.sheet ≢ sheet → after ≡ Ref reference)
IsFollowed sheet axis count change (Text text) after = after ≡ Text text
IsFollowed sheet axis count change (Word word) after = after ≡ Word word
IsFollowed sheet axis count change Lost after = after ≡ Lost

-- without the sheet, a reference to it is lost, and all else stays
abbrev pub piece_without_sheet : ℕ → Piece → Piece
piece_without_sheet sheet (Ref reference) =
    if reference.area.sheet == sheet then Lost else Ref reference
piece_without_sheet sheet (Text text) = Text text
piece_without_sheet sheet (Word word) = Word word
piece_without_sheet sheet Lost = Lost

-- the piece is no reference to the sheet
abbrev pub IsNoReferenceTo : ℕ → Piece → Type 0
IsNoReferenceTo sheet (Ref reference) = reference.area.sheet ≢ sheet
IsNoReferenceTo sheet (Text text) = ⊤
IsNoReferenceTo sheet (Word word) = ⊤
IsNoReferenceTo sheet Lost = ⊤
