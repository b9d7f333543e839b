-- A part of a sheet that it gets anew (Google Sheets API v4 reference, SheetProperties, and `merges` and `basicFilter`
-- of Sheet).
use Rattle.world_model.specs.Sheet.{PlaceSheet}
use Rattle.world_model.specs.SheetChange.{place_filtered, place_marked_hidden, place_merged, place_titled}
use Rattle.dimension_ops.specs.declared.part.Part.{Part}
use Rattle.dimension_ops.specs.declared.part.Part.TheVariants.{Title, Hidden, Merges, BasicFilter}

-- the sheet with that part, and all else as it was
abbrev pub with_part : Part → PlaceSheet → PlaceSheet
with_part (Title title) = place_titled title
with_part (Hidden hidden) = place_marked_hidden hidden
with_part (Merges merges) = place_merged merges
with_part (BasicFilter filter) = place_filtered filter
