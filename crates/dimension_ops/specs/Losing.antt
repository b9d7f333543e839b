-- The references of a table's formulas to a sheet that is deleted (DeleteSheetRequest of the Google Sheets API v4
-- reference).
use Rattle.std.specs.Prelude.{ℕ}
use Rattle.std.specs.Option.{option_map_or}
use Rattle.cell_store.specs.Table.{Table, item_at, with_item}
use Rattle.ref_rewrite.specs.declared.cell_content.Content.{Content}
use Rattle.world_model.specs.SheetChange.{content_without}

-- those that stand at the place are lost
abbrev pub lost_at : ℕ → Table Content → ℕ × ℕ → Table Content
lost_at sheet table place =
    option_map_or (λ item. with_item table place.0 place.1 (content_without sheet item)) (item_at table place.0 place.1)
    table
