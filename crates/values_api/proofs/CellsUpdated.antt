-- The cells of an area can be emptied.
use Rattle.std.proofs.Common.{◌≡◌, ◌&&◌, refl}
use Rattle.std.specs.Prelude.{Option, Some, None}
use Rattle.std.specs.Option.{IsSome}
use Rattle.std.proofs.lemmas.Bool.{false≢true}
use Rattle.merge_ranges.specs.Tests.{has_line}
use Rattle.world_model.specs.Book.{PlaceBook}
use Rattle.world_model.specs.Laws.{UpdatesAreWrites, UpdatesFollow, WritesStaySound}
use Rattle.world_model.specs.Sheet.{PlaceSheet}
use Rattle.world_model.specs.Sound.{place_sheet_with}
use Rattle.values_api.specs.Answered.{AreasEmpty}
use Rattle.values_api.specs.CellsUpdate.{cells_update, empty_beside, empty_within}
use Rattle.values_api.specs.Updates.{AreUpdated, cleared}

pub areas_empty : UpdatesAreWrites → WritesStaySound → UpdatesFollow → AreasEmpty
areas_empty writes stay follow book area sound some = by_sheet (place_sheet_with area.sheet book.sheets) refl some
  where
    by_sheet : (sheet : Option PlaceSheet) → place_sheet_with area.sheet book.sheets ≡ sheet → IsSome sheet
        → (after : PlaceBook) × AreUpdated area.sheet (cleared area) book after
    by_sheet None is some = absurd (false≢true some)
    by_sheet (Some sheet) is some =
        cells_update writes stay follow book sound area.sheet sheet is (cleared area)
        (λ row col. empty_within book.sheets (has_line area.rows row && has_line area.cols col))
        (λ row col past. empty_beside (has_line area.rows row && has_line area.cols col))
