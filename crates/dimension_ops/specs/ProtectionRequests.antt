-- What requests that add, change or delete a protected range make of a spreadsheet (Google Sheets API v4 reference,
-- AddProtectedRangeRequest, UpdateProtectedRangeRequest, DeleteProtectedRangeRequest). How many there may be is the
-- caller's to say.
use Rattle.std.specs.Prelude.{◌≡◌, List, [], ◌∷◌, IfSome}
use Rattle.std.specs.List.{All}
use Rattle.protection.specs.declared.range.Protection.{Protection}
use Rattle.protection.specs.declared.range.ProtectionPatch.{ProtectionPatch}
use Rattle.world_model.specs.Book.{PlaceBook}
use Rattle.world_model.specs.BookChange.{AreChanges, BookChange}
use Rattle.world_model.specs.ProtectionLaws.{place_protections_set}
use Rattle.world_model.specs.Sheet.{PlaceSheet}
use Rattle.world_model.specs.Sound.{IsOnSheet}

-- the area that is given is on a sheet that is there, and within it, and so is each unprotected range that is given
abbrev pub IsPatchWithin : List PlaceSheet → ProtectionPatch → Type 0
IsPatchWithin sheets patch =
    IfSome patch.area (IsOnSheet sheets) × IfSome patch.unprotected (All (IsOnSheet sheets))

-- the spreadsheet has these protected ranges, and all else of it is as it was, by places, and whatever its lines are
-- called
pub record ProtectionsBecome (protections : List Protection) (before after : PlaceBook) : Type 0 where
  pub set : after ≡ place_protections_set protections before
  pub names : AreChanges (BookChange.ProtectionsSet protections ∷ []) before after
