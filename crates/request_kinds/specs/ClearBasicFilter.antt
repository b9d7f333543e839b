-- clearBasicFilter (Google Sheets API v4 reference, ClearBasicFilterRequest): the sheet has no filter any more. No cell
-- is touched. That a sheet without one stays as it is, is this project's profile.
use Rattle.std.specs.Prelude.{ℕ, List, [], ◌∷◌, None, Result}
use Rattle.std.specs.Option.{is_none}
use Rattle.world_model.specs.BookChange.{BookChange}
use Rattle.world_model.specs.Sheet.{PlaceSheet}
use Rattle.world_model.specs.Sound.{place_sheet_with}
use Rattle.dimension_ops.specs.Broken.{Broken, judged_by, unbroken}
use Rattle.dimension_ops.specs.declared.rule.Rule.{Rule}
use Rattle.sheets_json.specs.declared.spreadsheet.Reply.{Reply}
use Rattle.sheets_json.specs.declared.spreadsheet.Reply.TheVariants as reply

abbrev pub filter_cleared_broken : ℕ → List PlaceSheet → Broken
filter_cleared_broken sheet sheets = record unbroken { no_sheet = is_none (place_sheet_with sheet sheets) }

abbrev pub basic_filter_cleared : ℕ → List PlaceSheet → Result (Reply × List BookChange) Rule
basic_filter_cleared sheet sheets =
    judged_by (filter_cleared_broken sheet sheets) (reply.Empty, BookChange.FilterSet sheet None ∷ [])
