-- addProtectedRange (Google Sheets API v4 reference, AddProtectedRangeRequest): a protected range is added and is
-- replied as its user is shown it, who is put at the end of its editors where he would be kept off. No cell is touched.
use Rattle.std.specs.Prelude.{◌≡◌, ◌+◌, ◌||◌, ℕ, List, [], ◌∷◌, length, Option, None, Some, Result, Ok, Err}
use Rattle.std.specs.Option.{is_none}
use Rattle.cell_value.specs.Ids.{IsLeastUnused, IsNewId, is_taken}
use Rattle.protection.specs.Listed.{has_id, with_one_more}
use Rattle.protection.specs.Patch.{blank, is_bad, patched}
use Rattle.protection.specs.declared.range.Protection.{Protection}
use Rattle.protection.specs.declared.range.ProtectionPatch.{ProtectionPatch}
use Rattle.world_model.specs.Book.{PlaceBook}
use Rattle.world_model.specs.BookChange.{BookChange}
use Rattle.dimension_ops.specs.Broken.{Broken, first_broken, first_passed}
use Rattle.dimension_ops.specs.declared.rule.Rule.{Rule}
use Rattle.sheets_json.specs.declared.spreadsheet.Reply.{Reply}
use Rattle.sheets_json.specs.declared.spreadsheet.Reply.TheVariants as reply
use Rattle.request_kinds.specs.Protections.{areas_given, broken_by_areas, passes_protections, patch_cut}
use Rattle.request_kinds.specs.Shown.{shown_protection}

-- an area is given
abbrev pub protection_added_broken : Option ℕ → ProtectionPatch → PlaceBook → Broken
protection_added_broken id patch book = record (broken_by_areas book.sheets (areas_given patch)) {
  bad_shape = is_none patch.area || is_bad patch None;
  id_taken = is_taken (has_id book.protections) id;
  past_limit = first_passed (passes_protections (length book.protections + 1));
}

-- the protected range that is added, with its id
abbrev pub protection_made : List ℕ → ProtectionPatch → PlaceBook → ℕ → Protection
protection_made user patch book id = patched user book.owner (patch_cut book.sheets patch) (blank id)

-- it is replied, and stands among the others in order of id
abbrev pub put_among : List ℕ → PlaceBook → Protection → Reply × List BookChange
put_among user book protection = (
  reply.AddProtectedRange (shown_protection user book.owner protection),
  BookChange.ProtectionsSet (with_one_more protection book.protections) ∷ [],
)

-- what is told where that is the first broken rule, or else of the protected range, whose id is the one that is given
-- or the least from 1 on that none has
abbrev pub IsProtectionAdded : List ℕ → Option ℕ → ProtectionPatch → PlaceBook → Option Rule
    → Result (Reply × List BookChange) Rule → Type 0
IsProtectionAdded user id patch book (Some broken) told = told ≡ Err broken
IsProtectionAdded user id patch book None told =
    (new : ℕ) × IsNewId (IsLeastUnused (has_id book.protections)) id new
    × (told ≡ Ok (put_among user book (protection_made user patch book new)))

abbrev pub IsAddProtectedRange : List ℕ → Option ℕ → ProtectionPatch → PlaceBook → Result (Reply × List BookChange) Rule
    → Type 0
IsAddProtectedRange user id patch book =
    IsProtectionAdded user id patch book (first_broken (protection_added_broken id patch book))
