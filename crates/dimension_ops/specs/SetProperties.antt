-- Which rules are broken by a request that sets properties of a sheet, and the changes that it makes (Google Sheets API
-- v4 reference, UpdateSheetPropertiesRequest). Where another number of lines is given they are deleted from the end or
-- appended there. An id and a place aren't set.
use Rattle.std.specs.Prelude.{◌≡◌, ◌≤◌, ℕ, ◌+◌, ◌-◌, ◌*◌, ◌==◌, ◌&&◌, ◌||◌, ◌++◌, Bool, false, true, nat_lt, List, [], ◌∷◌}
use Rattle.std.specs.Prelude.{Option, None, Some, unwrap_or, if◌then◌else◌}
use Rattle.std.specs.List.{list_all, sum_by}
use Rattle.std.specs.Option.{IsSome, option_map, option_map_or}
use Rattle.cell_value.specs.Ids.{is_taken}
use Rattle.cell_value.specs.declared.cell.SheetProperties.{SheetProperties}
use Rattle.cell_store.specs.Moved.{size_after}
use Rattle.grid_range.specs.declared.axis.Axis.{Axis}
use Rattle.grid_range.specs.declared.axis.Axis.TheVariants.{Rows, Columns}
use Rattle.grid_range.specs.declared.change.Change.TheVariants.{Insert, Delete}
use Rattle.world_model.specs.BookChange.{BookChange}
use Rattle.world_model.specs.Counts.{grid_places}
use Rattle.world_model.specs.Laws.{size_of}
use Rattle.world_model.specs.Sheet.{PlaceSheet}
use Rattle.world_model.specs.SheetChange.{other_sheets}
use Rattle.world_model.specs.Sound.{IsLineCount, most_places, place_sheet_with}
use Rattle.dimension_ops.specs.Broken.{Broken, first_broken, first_passed, unbroken}
use Rattle.dimension_ops.specs.Lines.{passes_size}
use Rattle.dimension_ops.specs.SheetRequests.{has_title, is_bad_title}

-- ---- sizes

-- how many rows and columns are given to a sheet of that size
abbrev pub size_given : SheetProperties → ℕ × ℕ → ℕ × ℕ
size_given properties size = (unwrap_or properties.rows size.0, unwrap_or properties.cols size.1)

-- how many places all sheets have where the one with the id has that size
abbrev pub places_with : ℕ → ℕ × ℕ → List PlaceSheet → ℕ
places_with id given sheets =
    sum_by (λ sheet. let size = if sheet.id == id then given else size_of sheet in size.0 * size.1) sheets

-- ---- rules

-- the rules on the size, counted as it is after the request
abbrev pub size_set_broken : ℕ → ℕ × ℕ → List PlaceSheet → Broken
size_set_broken id size sheets = record unbroken {
  last_line = size.0 == 0 || size.1 == 0;
  past_limit = first_passed (passes_size size (places_with id size sheets));
}

-- a title is taken that another sheet has, and a sheet may be hidden if another one is visible
abbrev pub properties_broken : ℕ → SheetProperties → List PlaceSheet → Broken
properties_broken id properties sheets = option_map_or (λ sheet.
    record (size_set_broken id (size_given properties (size_of sheet)) sheets) {
      bad_name = is_bad_title properties.title;
      name_taken = is_taken (has_title (other_sheets id sheets)) properties.title;
      last_sheet = unwrap_or properties.hidden false && list_all (λ other. other.hidden) (other_sheets id sheets);
    }) (place_sheet_with id sheets) (record unbroken { no_sheet = true })

-- ---- changes

abbrev pub title_set : ℕ → Option (List ℕ) → List BookChange
title_set id title = option_map_or (λ given. BookChange.SheetTitled id given ∷ []) title []

abbrev pub mark_set : ℕ → Option Bool → List BookChange
mark_set id hidden = option_map_or (λ given. BookChange.SheetHidden id given ∷ []) hidden []

-- lines are deleted from the end where there are more
abbrev pub lines_cut : ℕ → Axis → ℕ → ℕ → List BookChange
lines_cut id axis lines given =
    if nat_lt given lines then BookChange.LinesChanged id axis (Delete given lines) ∷ [] else []

-- and are appended where there are fewer
abbrev pub lines_added : ℕ → Axis → ℕ → ℕ → List BookChange
lines_added id axis lines given =
    if nat_lt lines given then BookChange.LinesChanged id axis (Insert lines (given - lines)) ∷ [] else []

abbrev pub size_set : ℕ → ℕ × ℕ → ℕ × ℕ → List BookChange
size_set id size given =
    lines_cut id Rows size.0 given.0 ++ lines_cut id Columns size.1 given.1
    ++ lines_added id Rows size.0 given.0 ++ lines_added id Columns size.1 given.1

abbrev pub all_set : ℕ → SheetProperties → ℕ × ℕ → List BookChange
all_set id properties size =
    title_set id properties.title ++ mark_set id properties.hidden ++ size_set id size (size_given properties size)

abbrev pub properties_set : ℕ → SheetProperties → List PlaceSheet → List BookChange
properties_set id properties sheets =
    option_map_or (λ sheet. all_set id properties (size_of sheet)) (place_sheet_with id sheets) []

-- ---- what the private functions hand to one another

-- the sheet has that size, and the others as many places
pub record IsSized (id : ℕ) (size : ℕ × ℕ) (others : ℕ) (sheets : List PlaceSheet) : Type 0 where
  pub held : option_map size_of (place_sheet_with id sheets) ≡ Some size
  pub places : grid_places sheets ≡ others + size.0 * size.1

-- the others are the same, and the sheet has the size that it had
pub record KeepsSize (id : ℕ) (before after : List PlaceSheet) : Type 0 where
  pub others : other_sheets id after ≡ other_sheets id before
  pub size : option_map size_of (place_sheet_with id after) ≡ option_map size_of (place_sheet_with id before)
  pub places : grid_places after ≡ grid_places before

-- the title may be that of the sheet
pub record IsTitleFor (id : ℕ) (given : Option (List ℕ)) (sheets : List PlaceSheet) : Type 0 where
  pub there : IsSome (place_sheet_with id sheets)
  pub good : is_bad_title given ≡ false
  pub free : is_taken (has_title (other_sheets id sheets)) given ≡ false

-- and so may the mark
pub record IsMarkFor (id : ℕ) (given : Option Bool) (sheets : List PlaceSheet) : Type 0 where
  pub there : IsSome (place_sheet_with id sheets)
  pub visible : (unwrap_or given false && list_all (λ other. other.hidden) (other_sheets id sheets)) ≡ false

-- and the size
pub record IsSizeFor (id : ℕ) (size given : ℕ × ℕ) (sheets : List PlaceSheet) : Type 0 where
  pub others : ℕ
  pub sized : IsSized id size others sheets
  pub rows : IsLineCount Rows given.0
  pub cols : IsLineCount Columns given.1
  pub room : others + given.0 * given.1 ≤ most_places

-- no rule is broken by what is set of a sheet of that size
pub record CanBeSet (id : ℕ) (properties : SheetProperties) (sheets : List PlaceSheet) (size : ℕ × ℕ) : Type 0 where
  pub unbroken : first_broken (properties_broken id properties sheets) ≡ None
  pub changes : properties_set id properties sheets ≡ all_set id properties size
  pub for_title : IsTitleFor id properties.title sheets
  pub for_mark : IsMarkFor id properties.hidden sheets
  pub for_size : IsSizeFor id size (size_given properties size) sheets

-- the size where lines are cut, and where they are added
abbrev pub size_cut : Axis → ℕ → ℕ → ℕ × ℕ → ℕ × ℕ
size_cut axis lines given size = if nat_lt given lines then size_after axis (Delete given lines) size.0 size.1 else size

abbrev pub size_added : Axis → ℕ → ℕ → ℕ × ℕ → ℕ × ℕ
size_added axis lines given size =
    if nat_lt lines given then size_after axis (Insert lines (given - lines)) size.0 size.1 else size

-- the sheet gets that size, and the others keep their places
abbrev pub GetsSize : ℕ → (ℕ × ℕ → ℕ × ℕ) → List PlaceSheet → List PlaceSheet → Type 0
GetsSize id now before after =
    (size : ℕ × ℕ) (others : ℕ) → IsSized id size others before → IsSized id (now size) others after
