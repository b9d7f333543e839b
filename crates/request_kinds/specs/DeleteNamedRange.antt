-- deleteNamedRange (Google Sheets API v4 reference, DeleteNamedRangeRequest): the named range with the id is deleted.
-- Words of formulas that are its name stay.
use Rattle.std.specs.Prelude.{ℕ, List, [], ◌∷◌, Result}
use Rattle.std.specs.Option.{is_none}
use Rattle.named_ranges.specs.Listed.{with_id}
use Rattle.named_ranges.specs.declared.range.NamedRange.{NamedRange}
use Rattle.world_model.specs.BookChange.{BookChange}
use Rattle.dimension_ops.specs.Broken.{Broken, judged_by, unbroken}
use Rattle.dimension_ops.specs.declared.rule.Rule.{Rule}
use Rattle.sheets_json.specs.declared.spreadsheet.Reply.{Reply}
use Rattle.sheets_json.specs.declared.spreadsheet.Reply.TheVariants as reply

abbrev pub range_deleted_broken : List ℕ → List NamedRange → Broken
range_deleted_broken id ranges = record unbroken { no_id = is_none (with_id id ranges) }

abbrev pub range_deleted : List ℕ → List NamedRange → Result (Reply × List BookChange) Rule
range_deleted id ranges =
    judged_by (range_deleted_broken id ranges) (reply.Empty, BookChange.RangeDeleted id ∷ [])
