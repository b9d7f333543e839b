-- Laws of sheets that follow a change of the lines of one of them.
use Rattle.std.proofs.Common.{◌≢◌, ℕ, refl, List, get_or}
use Rattle.grid_range.specs.Area.{AreaWithin, band_on}
use Rattle.grid_range.specs.Band.{Within}
use Rattle.grid_range.specs.declared.area.Area.{Area}
use Rattle.grid_range.specs.declared.axis.Axis.{Axis}
use Rattle.grid_range.specs.declared.axis.Axis.TheVariants.{Rows, Columns}
use Rattle.grid_range.specs.declared.change.Change.{Change}
use Rattle.merge_ranges.specs.Following.{AreWithin}
use Rattle.world_model.specs.PlaceChange.{SheetChanged}
use Rattle.world_model.specs.Sheet.{PlaceSheet}
use Rattle.world_model.specs.Sound.{IsSheetSound}
use Rattle.dimension_ops.specs.Lines.{SheetFollows, lines_of_sheet}

-- areas of a sheet have lines that are among its lines
pub on_axis : (axis : Axis) (area : Area) (sheet : PlaceSheet) → AreaWithin area sheet.table.rows sheet.table.cols
    → Within (band_on axis area) (lines_of_sheet axis sheet)
on_axis Rows area sheet within = within.0
on_axis Columns area sheet within = within.1

-- so have its merges
pub merges_within : (axis : Axis) (sheets : List PlaceSheet) (sheet : PlaceSheet) → IsSheetSound sheets sheet
    → AreWithin axis (lines_of_sheet axis sheet) sheet.merges
merges_within axis sheets sheet sound k d there =
    on_axis axis (get_or sheet.merges k d) sheet (sound.merges.1 k d there).1

-- a sheet whose lines aren't changed
pub another_changed : (id : ℕ) (axis : Axis) (count : ℕ) (change : Change) (before after : PlaceSheet) → before.id ≢ id
    → SheetFollows id axis count change before after → SheetChanged id axis count change before after
another_changed id axis count change before after other follows = record {
  id = follows.id;
  title = follows.title;
  hidden = follows.hidden;
  moved = before.table;
  goes = λ own. absurd (other own);
  stays = λ _. refl;
  followed = follows.followed;
  whole = λ own. absurd (other own);
  merges_follow = λ own. absurd (other own);
  merges_stay = λ _. follows.merges;
  filter_follows = λ own. absurd (other own);
  filter_stays = λ _. follows.filter;
}
