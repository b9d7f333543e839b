-- The content whose references followed by their lines is the one whose references followed by places.
use Rattle.std.proofs.Common.{◌≡◌, ℕ, refl, ap, ◌∙◌, List, [], ◌∷◌, arith, suc}
use Rattle.std.specs.Prelude.{Option, None, Some, IfSome, map}
use Rattle.std.specs.List.{All}
use Rattle.std.specs.Option.{option_map, option_map_or}
use Rattle.grid_range.specs.Tracking.{area_followed}
use Rattle.grid_range.specs.declared.area.Area.{Area}
use Rattle.grid_range.specs.declared.change.Change.{Change}
use Rattle.ref_rewrite.specs.Following.{piece_followed}
use Rattle.ref_rewrite.specs.declared.cell_content.Content.{Content}
use Rattle.ref_rewrite.specs.declared.cell_content.Content.TheVariants as content
use Rattle.ref_rewrite.specs.declared.pieces.Piece.{Piece}
use Rattle.ref_rewrite.specs.declared.pieces.Piece.TheVariants as piece
use Rattle.ref_rewrite.specs.declared.reference.Ref.{Ref as Reference}
use Rattle.world_model.specs.Area.{Orders, area_named}
use Rattle.world_model.specs.Content.{NamePiece, NameContent, piece_named, content_named, reference_named}
use Rattle.world_model.specs.LineChange.{LineChange, name_area_followed, name_piece_followed, name_content_followed}
use Rattle.world_model.specs.PlaceChange.{content_followed}
use Rattle.world_model.specs.Sheet.{PlaceSheet}
use Rattle.world_model.specs.Sound.{IsOnSheet, IsPieceWithin, IsContentWithin}

-- what areas on some sheets follow to by lines is what they follow to by places
pub record AreasFollow (sheets : List PlaceSheet) (to : LineChange) (count : ℕ) (change : Change)
    (before after : Orders) : Type 0 where
  pub follow : (area : Area) → IsOnSheet sheets area → name_area_followed to (area_named before area)
      ≡ option_map (area_named after) (area_followed to.sheet to.axis count change area)

module _ (sheets : List PlaceSheet) (to : LineChange) (count : ℕ) (change : Change) (before after : Orders)
    (areas : AreasFollow sheets to count change before after) where
  abbrev by_places : Piece → Piece
  by_places = piece_followed to.sheet to.axis count change

  -- a reference to what its area follows to
  reference_to : (reference : Reference) (area : Option Area)
      → option_map_or (λ found. NamePiece.Ref (record (reference_named before reference) { area = found }))
      (option_map (area_named after) area) NamePiece.Lost
      ≡ piece_named after (option_map_or (λ found. piece.Ref (record reference { area = found })) area piece.Lost)
  reference_to reference None = refl
  reference_to reference (Some area) = refl

  piece_follows : (one : Piece) → IsPieceWithin sheets one
      → name_piece_followed to (piece_named before one) ≡ piece_named after (by_places one)
  piece_follows (piece.Text text) within = refl
  piece_follows (piece.Word word) within = refl
  piece_follows (piece.Ref reference) within =
      ap (λ area. option_map_or (λ found. NamePiece.Ref (record (reference_named before reference) { area = found }))
      area NamePiece.Lost) (areas.follow reference.area within.0)
      ∙ reference_to reference (area_followed to.sheet to.axis count change reference.area)
  piece_follows piece.Lost within = refl

  pieces_follow : (pieces : List Piece) → All (IsPieceWithin sheets) pieces
      → map (name_piece_followed to) (map (piece_named before) pieces)
      ≡ map (piece_named after) (map by_places pieces)
  pieces_follow [] within = refl
  pieces_follow (one ∷ pieces) within =
      ap (λ first. first ∷ map (name_piece_followed to) (map (piece_named before) pieces))
      (piece_follows one (within 0 one (omega arith)))
      ∙ ap (λ rest. piece_named after (by_places one) ∷ rest)
      (pieces_follow pieces (λ k d there. within (suc k) d (omega arith)))

  pub content_follows : (one : Content) → IsContentWithin sheets one
      → name_content_followed to (content_named before one)
      ≡ content_named after (content_followed to.sheet to.axis count change one)
  content_follows (content.Number number) within = refl
  content_follows (content.Text text) within = refl
  content_follows (content.Truth truth) within = refl
  content_follows (content.Formula formula) within = ap NameContent.Formula (pieces_follow formula.pieces within)

  pub held_follows : (held : Option Content) → IfSome held (IsContentWithin sheets)
      → option_map (name_content_followed to) (option_map (content_named before) held)
      ≡ option_map (content_named after) (option_map (content_followed to.sheet to.axis count change) held)
  held_follows None within = refl
  held_follows (Some one) within = ap Some (content_follows one within)
