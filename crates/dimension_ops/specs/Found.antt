-- What is found in a spreadsheet, and in a world of them.
use Rattle.std.specs.Prelude.{◌≡◌, ℕ, List, [], Option, MatchOption}
use Rattle.std.specs.Option.{option_and_then}
use Rattle.grid_range.specs.declared.area.Area.{Area}
use Rattle.cell_store.specs.Places.{AreFilledPlaces}
use Rattle.cell_store.specs.Table.{item_at}
use Rattle.ref_rewrite.specs.declared.cell_content.Content.{Content}
use Rattle.world_model.specs.Sheet.{PlaceSheet}
use Rattle.world_model.specs.Sound.{place_sheet_with}

-- what is stored at a place of the sheet with the id
abbrev pub content_at : ℕ → ℕ → ℕ → List PlaceSheet → Option Content
content_at id row col sheets = option_and_then (λ sheet. item_at sheet.table row col) (place_sheet_with id sheets)

-- these are the places of the area at which something is stored, each once, by rows; none where its sheet isn't there
abbrev pub ArePlacesOf : Area → List PlaceSheet → List (ℕ × ℕ) → Type 0
ArePlacesOf area sheets places =
    MatchOption (place_sheet_with area.sheet sheets) (places ≡ []) (λ sheet. AreFilledPlaces area sheet.table places)
