-- deleteProtectedRange (Google Sheets API v4 reference, DeleteProtectedRangeRequest): the protected range with the id
-- is deleted. Only an editor of it or the owner may do it, and everybody where it is a warning. No cell is touched.
use Rattle.std.specs.Prelude.{ℕ, List, [], ◌∷◌, Result}
use Rattle.std.specs.Option.{is_none}
use Rattle.protection.specs.Listed.{with_id, without_id}
use Rattle.world_model.specs.Book.{PlaceBook}
use Rattle.world_model.specs.BookChange.{BookChange}
use Rattle.dimension_ops.specs.Broken.{Broken, judged_by, unbroken}
use Rattle.dimension_ops.specs.declared.rule.Rule.{Rule}
use Rattle.sheets_json.specs.declared.spreadsheet.Reply.{Reply}
use Rattle.sheets_json.specs.declared.spreadsheet.Reply.TheVariants as reply
use Rattle.request_kinds.specs.UpdateProtectedRange.{keeps_off}

abbrev pub protection_deleted_broken : List ℕ → ℕ → PlaceBook → Broken
protection_deleted_broken user id book =
    let found = with_id id book.protections in
    record unbroken { no_id = is_none found; not_editor = keeps_off user book.owner found }

abbrev pub protection_deleted : List ℕ → ℕ → PlaceBook → Result (Reply × List BookChange) Rule
protection_deleted user id book = judged_by (protection_deleted_broken user id book)
    (reply.Empty, BookChange.ProtectionsSet (without_id id book.protections) ∷ [])
