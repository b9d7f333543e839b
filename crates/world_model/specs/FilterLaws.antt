-- What is done to the basic filter of a sheet by places (setBasicFilter and clearBasicFilter of the Google Sheets API
-- v4) stands for what is meant by names, and keeps what always holds of a spreadsheet. A criterion follows as a
-- location on its column does.
use Rattle.std.specs.Prelude.{◌≡◌, ℕ, [], ◌∷◌, IfSome, IsSomeAnd, Option}
use Rattle.std.specs.Option.{option_map}
use Rattle.basic_filter.specs.declared.types.Filter.{Filter}
use Rattle.grid_range.specs.declared.axis.Axis.TheVariants.{Columns}
use Rattle.world_model.specs.Book.{PlaceBook}
use Rattle.world_model.specs.BookChange.{AreChanges, BookChange}
use Rattle.world_model.specs.Filters.{NameCriterion}
use Rattle.world_model.specs.LineChange.{LineChange, name_criterion_followed, name_spot_followed}
use Rattle.world_model.specs.Metadata.{NameSpot}
use Rattle.world_model.specs.SheetChange.{place_filter_set}
use Rattle.world_model.specs.Sound.{IsFilterOf, IsSound, place_sheet_with}

-- a sheet that is there gets a filter that it can have, or none
pub record FilterIsSet : Type 0 where
  pub stays : (book : PlaceBook) (id : ℕ) (filter : Option Filter) → IsSound book
      → IsSomeAnd (place_sheet_with id book.sheets) (λ sheet. IfSome filter (IsFilterOf sheet))
      → IsSound (place_filter_set id filter book)
  pub changes : (book : PlaceBook) (id : ℕ) (filter : Option Filter)
      → IsSomeAnd (place_sheet_with id book.sheets) (λ sheet. IfSome filter (IsFilterOf sheet))
      → AreChanges (BookChange.FilterSet id filter ∷ []) book (place_filter_set id filter book)

-- a criterion stays, or goes, as a location on its column does
pub record CriteriaFollowColumns : Type 0 where
  pub follows : (to : LineChange) (sheet : ℕ) (criterion : NameCriterion)
      → name_criterion_followed to sheet criterion
      ≡ option_map (λ still. criterion) (name_spot_followed to (NameSpot.Line sheet Columns criterion.column))
