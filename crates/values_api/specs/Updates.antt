-- What a clear makes of the cells of an area (Google Sheets API v4 reference, spreadsheets.values.clear), and what an
-- update is by the names of lines.
use Rattle.std.specs.Prelude.{ℕ, None, Some, ◌&&◌, if◌then◌else◌}
use Rattle.grid_range.specs.declared.area.Area.{Area}
use Rattle.merge_ranges.specs.Tests.{has_line}
use Rattle.world_model.specs.Book.{NameBook, PlaceBook}
use Rattle.world_model.specs.StandsFor.{BookStandsFor}
use Rattle.world_model.specs.Updating.{Updates, BookUpdated, book_updated}

-- each place of the area is emptied
abbrev pub cleared : Area → Updates
cleared area row col = if has_line area.rows row && has_line area.cols col then Some None else None

-- the spreadsheet after is the one before with these updates, by places, and by names whatever its lines are called
pub record AreUpdated (sheet : ℕ) (updates : Updates) (before after : PlaceBook) : Type 0 where
  pub places : BookUpdated sheet updates before after
  pub names : (model : NameBook) → BookStandsFor before model → BookStandsFor after (book_updated sheet updates model)
