-- updateProtectedRange (Google Sheets API v4 reference, UpdateProtectedRangeRequest): the members of a protected range
-- are set that the mask takes. Its user is put at the end of its editors where he would be kept off. Only an editor or
-- the owner may do it, and everybody where it is a warning. No cell is touched.
use Rattle.std.specs.Prelude.{ℕ, Bool, false, not, List, [], ◌∷◌, Option, Result}
use Rattle.std.specs.Option.{is_none, option_map_or}
use Rattle.protection.specs.Editors.{may_edit}
use Rattle.protection.specs.Listed.{with_changed, with_id}
use Rattle.protection.specs.Patch.{is_bad, patched}
use Rattle.protection.specs.declared.range.Protection.{Protection}
use Rattle.protection.specs.declared.range.ProtectionPatch.{ProtectionPatch}
use Rattle.world_model.specs.Book.{PlaceBook}
use Rattle.world_model.specs.BookChange.{BookChange}
use Rattle.dimension_ops.specs.Broken.{Broken, judged_by}
use Rattle.dimension_ops.specs.declared.rule.Rule.{Rule}
use Rattle.sheets_json.specs.declared.spreadsheet.Reply.{Reply}
use Rattle.sheets_json.specs.declared.spreadsheet.Reply.TheVariants as reply
use Rattle.request_kinds.specs.Protections.{areas_given, broken_by_areas, patch_cut}

-- the user may not edit it
abbrev pub keeps_off : List ℕ → List ℕ → Option Protection → Bool
keeps_off user owner protection = option_map_or (λ one. not (may_edit user owner one)) protection false

-- whether a shape is bad depends on the protected range where the request doesn't give the area or the mark
abbrev pub protection_updated_broken : List ℕ → ℕ → ProtectionPatch → PlaceBook → Broken
protection_updated_broken user id patch book =
    let found = with_id id book.protections in
    record (broken_by_areas book.sheets (areas_given patch)) {
      bad_shape = is_bad patch found;
      no_id = is_none found;
      not_editor = keeps_off user book.owner found;
    }

abbrev pub protections_updated : List ℕ → ℕ → ProtectionPatch → PlaceBook → List Protection
protections_updated user id patch book =
    with_changed id (patched user book.owner (patch_cut book.sheets patch)) book.protections

abbrev pub protection_updated : List ℕ → ℕ → ProtectionPatch → PlaceBook → Result (Reply × List BookChange) Rule
protection_updated user id patch book = judged_by (protection_updated_broken user id patch book)
    (reply.Empty, BookChange.ProtectionsSet (protections_updated user id patch book) ∷ [])
