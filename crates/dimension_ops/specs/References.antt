-- The formulas of a sheet with a reference to a sheet: only they follow a change of its lines. And when such a change
-- can be made.
use Rattle.std.specs.Prelude.{◌≡◌, ◌↔◌, ℕ, Bool, true, false, List, Any, Contains, IfSome, ◌==◌, ⊤}
use Rattle.std.specs.List.{All, list_any}
use Rattle.std.specs.Option.{IsSome, option_map_or}
use Rattle.std.specs.List.Sorted.{IsStrictlySortedBy}
use Rattle.basic_filter.specs.Following.{AreBelow}
use Rattle.basic_filter.specs.declared.types.Filter.{Filter}
use Rattle.grid_range.specs.Area.{band_on, by_rows}
use Rattle.grid_range.specs.Band.{Within}
use Rattle.grid_range.specs.Tearing.{IsTorn}
use Rattle.grid_range.specs.declared.area.Area.{Area}
use Rattle.grid_range.specs.declared.axis.Axis.{Axis}
use Rattle.grid_range.specs.declared.change.Change.{Change}
use Rattle.cell_store.specs.Moved.{IsRoomAfter, lines_on}
use Rattle.cell_store.specs.Table.{Table, item_at, with_item}
use Rattle.merge_ranges.specs.Following.{AreWithin}
use Rattle.ref_rewrite.specs.Following.{IsPieceWithinOn}
use Rattle.ref_rewrite.specs.declared.cell_content.Content.{Content}
use Rattle.ref_rewrite.specs.declared.cell_content.Content.TheVariants as content
use Rattle.ref_rewrite.specs.declared.pieces.Piece.{Piece}
use Rattle.ref_rewrite.specs.declared.pieces.Piece.TheVariants as piece
use Rattle.world_model.specs.Counts.{formulas_in, is_formula}
use Rattle.world_model.specs.PlaceChange.{content_followed}
use Rattle.world_model.specs.Sheet.{PlaceSheet}

abbrev pub is_reference_to : ℕ → Piece → Bool
is_reference_to sheet (piece.Ref reference) = reference.area.sheet == sheet
is_reference_to sheet (piece.Text text) = false
is_reference_to sheet (piece.Word word) = false
is_reference_to sheet piece.Lost = false

-- the content is a formula with such a reference
abbrev pub refers_to : ℕ → Content → Bool
refers_to sheet (content.Formula formula) = list_any (is_reference_to sheet) formula.pieces
refers_to sheet (content.Number number) = false
refers_to sheet (content.Text text) = false
refers_to sheet (content.Truth truth) = false

-- what stands at the place passes the test
abbrev pub passes_at : (Content → Bool) → Table Content → ℕ × ℕ → Bool
passes_at test table place = option_map_or test (item_at table place.0 place.1) false

-- these are the places of the contents that pass the test, each once, by rows
pub record ArePlacesOfSuch (test : Content → Bool) (table : Table Content) (places : List (ℕ × ℕ)) : Type 0 where
  pub in_order : IsStrictlySortedBy by_rows places
  pub exactly : (row col : ℕ) → Contains places (row, col) ↔ (passes_at test table (row, col) ≡ true)

-- a formula with such a reference stands at the place
abbrev pub refers_at : ℕ → Table Content → ℕ × ℕ → Bool
refers_at sheet = passes_at (refers_to sheet)

-- a formula stands at the place
abbrev pub is_formula_at : Table Content → ℕ × ℕ → Bool
is_formula_at = passes_at is_formula

-- the marks are those of a sheet of that size, and there is one wherever a formula stands
pub record AreMarked {M : Type 0} (table : Table Content) (marks : Table M) : Type 0 where
  pub rows : marks.rows ≡ table.rows
  pub cols : marks.cols ≡ table.cols
  pub each : (row col : ℕ) → is_formula_at table (row, col) ≡ true → IsSome (item_at marks row col)

-- formulas stand where they stood, in a sheet of the same size
pub record KeepsFormulas (before after : Table Content) : Type 0 where
  pub rows : after.rows ≡ before.rows
  pub cols : after.cols ≡ before.cols
  pub each : (row col : ℕ) → is_formula_at after (row, col) ≡ is_formula_at before (row, col)
  pub count : formulas_in after ≡ formulas_in before

-- these are the places of the formulas with a reference to the sheet
abbrev pub AreReferring : ℕ → Table Content → List (ℕ × ℕ) → Type 0
AreReferring sheet = ArePlacesOfSuch (refers_to sheet)

-- each reference of a formula to the sheet is to lines that are among `count`
abbrev pub IsContentWithinOn : ℕ → Axis → ℕ → Content → Type 0
IsContentWithinOn sheet axis count (content.Formula formula) = All (IsPieceWithinOn sheet axis count) formula.pieces
IsContentWithinOn sheet axis count (content.Number number) = ⊤
IsContentWithinOn sheet axis count (content.Text text) = ⊤
IsContentWithinOn sheet axis count (content.Truth truth) = ⊤

-- so is each reference of what the table holds
abbrev pub AreWithinOn : ℕ → Axis → ℕ → Table Content → Type 0
AreWithinOn sheet axis count table = (row col : ℕ) → IfSome (item_at table row col) (IsContentWithinOn sheet axis count)

-- none of the merges is torn by the change of `count` lines
abbrev pub TearsNone : Axis → ℕ → Change → List Area → Type 0
TearsNone axis count change merges = ¬ (Any (λ merge. IsTorn change count (band_on axis merge)) merges)

-- the filter can follow a change of `count` lines on the axis: its area and the columns of its criteria are among them
pub record CanFollow (axis : Axis) (count : ℕ) (filter : Filter) : Type 0 where
  pub area : Within (band_on axis filter.area) count
  pub columns : AreBelow axis count filter.criteria

-- the sheet has `count` lines on the axis, and can make the change of them
pub record CanMove (axis : Axis) (count : ℕ) (change : Change) (found : PlaceSheet) : Type 0 where
  pub long : lines_on axis found.table.rows found.table.cols ≡ count
  pub room : IsRoomAfter axis change found.table
  pub merges : AreWithin axis count found.merges
  pub untorn : TearsNone axis count change found.merges
  pub filter : IfSome found.filter (CanFollow axis count)

-- a change of the lines of a sheet that has `count` on the axis can be made on this one of its sheets
pub record CanChange (sheet : ℕ) (axis : Axis) (count : ℕ) (change : Change) (found : PlaceSheet) : Type 0 where
  pub own : found.id ≡ sheet → CanMove axis count change found
  pub within : AreWithinOn sheet axis count found.table

-- what stands at the place follows there
abbrev pub followed_at : ℕ → Axis → ℕ → Change → Table Content → ℕ × ℕ → Table Content
followed_at sheet axis count change table place =
    option_map_or (λ item. with_item table place.0 place.1 (content_followed sheet axis count change item))
    (item_at table place.0 place.1) table
