-- What a user is shown of a sheet and of a protected range, by the replies of requests and by looks at a spreadsheet
-- (Google Sheets API v4 reference, SheetProperties and ProtectedRange).
use Rattle.std.specs.Prelude.{ℕ, not, ◌&&◌, List, Option, None, Some, if◌then◌else◌}
use Rattle.protection.specs.Editors.{may_edit}
use Rattle.protection.specs.declared.range.Protection.{Protection}
use Rattle.world_model.specs.Sheet.{PlaceSheet}
use Rattle.sheets_json.specs.declared.spreadsheet.ShownProperties.{ShownProperties}
use Rattle.sheets_json.specs.declared.spreadsheet.ShownProtection.{ShownProtection}

-- what is known of the sheet itself, at its place among the sheets
abbrev pub shown_properties : ℕ → PlaceSheet → ShownProperties
shown_properties index sheet = record {
  column_count = sheet.table.cols;
  row_count = sheet.table.rows;
  hidden = sheet.hidden;
  index = index;
  sheet_id = sheet.id;
  title = sheet.title;
}

-- the editors are shown to editors and to the owner; a warning has none
abbrev pub shown_editors : List ℕ → List ℕ → Protection → Option (List (List ℕ))
shown_editors user owner protection =
    if may_edit user owner protection && not protection.warning_only then Some protection.editors else None

abbrev pub shown_protection : List ℕ → List ℕ → Protection → ShownProtection
shown_protection user owner protection = record {
  description = protection.description;
  editors = shown_editors user owner protection;
  protected_range_id = protection.id;
  range = protection.area;
  requesting_user_can_edit = may_edit user owner protection;
  unprotected_ranges = protection.unprotected;
  warning_only = protection.warning_only;
}
