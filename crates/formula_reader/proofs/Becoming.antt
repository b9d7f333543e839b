-- The changes of formulas make of their pieces what these may become.
use Rattle.std.proofs.Common.{ℕ, Bool, true, false, List, [], ◌∷◌, map, refl}
use Rattle.std.specs.Prelude.{Option, Some, None, if◌then◌else◌, ◌==◌}
use Rattle.std.specs.Option.{option_map_or}
use Rattle.std.specs.List.{AllZip}
use Rattle.grid_range.specs.declared.area.Area.{Area}
use Rattle.ref_rewrite.specs.declared.reference.Ref.{Ref}
use Rattle.ref_rewrite.specs.declared.pieces.Piece.{Piece}
use Rattle.ref_rewrite.specs.declared.pieces.Piece.TheVariants as piece
use Rattle.grid_range.specs.Tracking.{area_followed}
use Rattle.ref_rewrite.specs.Following.{piece_followed, piece_without_sheet}
use Rattle.ref_rewrite.specs.Renaming.{is_word, piece_renamed}
use Rattle.formula_reader.specs.ReadBack.{IsOwnWord}
use Rattle.formula_reader.specs.Changed.{MayBecome, MayFollow, MayLoseSheet, MayBeRenamed}

-- pieces may become what is made of each
each_may : (made : Piece → Piece) → ((own : Piece) → MayBecome own (made own)) → (pieces : List Piece)
    → AllZip MayBecome pieces (map made pieces)
each_may made may [] = tt
each_may made may (own ∷ later) = (may own, each_may made may later)

-- a reference may have another area or none
may_have : (reference : Ref) (area : Option Area)
    → MayBecome (piece.Ref reference)
    (option_map_or (λ own. piece.Ref (record reference { area = own })) area piece.Lost)
may_have reference None = tt
may_have reference (Some area) = tt

pub may_follow : MayFollow
may_follow sheet axis count change pieces = each_may (piece_followed sheet axis count change) follows pieces
  where
    follows : (own : Piece) → MayBecome own (piece_followed sheet axis count change own)
    follows (piece.Ref reference) = may_have reference (area_followed sheet axis count change reference.area)
    follows (piece.Text text) = refl
    follows (piece.Word word) = λ is. is
    follows piece.Lost = tt

-- and may be lost
may_be_lost : (gone : Bool) (reference : Ref)
    → MayBecome (piece.Ref reference) (if gone then piece.Lost else piece.Ref reference)
may_be_lost true reference = tt
may_be_lost false reference = tt

pub may_lose_sheet : MayLoseSheet
may_lose_sheet sheet pieces = each_may (piece_without_sheet sheet) stays pieces
  where
    stays : (own : Piece) → MayBecome own (piece_without_sheet sheet own)
    stays (piece.Ref reference) = may_be_lost (reference.area.sheet == sheet) reference
    stays (piece.Text text) = refl
    stays (piece.Word word) = λ is. is
    stays piece.Lost = tt

-- a word may be another one
may_be_word : (named : Bool) (word new : List ℕ) → IsOwnWord new
    → MayBecome (piece.Word word) (if named then piece.Word new else piece.Word word)
may_be_word true word new is = λ own. is
may_be_word false word new is = λ own. own

pub may_be_renamed : MayBeRenamed
may_be_renamed old new pieces is = each_may (piece_renamed old new) renamed pieces
  where
    renamed : (own : Piece) → MayBecome own (piece_renamed old new own)
    renamed (piece.Word word) = may_be_word (is_word old (piece.Word word)) word new is
    renamed (piece.Text text) = refl
    renamed (piece.Ref reference) = tt
    renamed piece.Lost = tt
