-- A sheet that gets another filter, by places and by names.
use Rattle.std.proofs.Common.{◌≡◌, ℕ, refl, List, [], ◌∷◌, get_or}
use Rattle.std.specs.Prelude.{IfSome, IsSomeAnd, Option, ◌==◌}
use Rattle.std.specs.Option.{option_map}
use Rattle.std.proofs.lemmas.Bool.{eqb-true}
use Rattle.basic_filter.specs.declared.types.Filter.{Filter}
use Rattle.grid_range.specs.declared.axis.Axis.{Axis}
use Rattle.grid_range.specs.declared.axis.Axis.TheVariants.{Rows, Columns}
use Rattle.world_model.specs.Book.{PlaceBook, orders_of}
use Rattle.world_model.specs.BookChange.{AreChanges, BookChange, filtered}
use Rattle.world_model.specs.Filters.{NameFilter, filter_named}
use Rattle.world_model.specs.Sheet.{NameSheet, PlaceSheet, lines_of}
use Rattle.world_model.specs.SheetChange.{place_filter_set, place_filtered}
use Rattle.world_model.specs.Sound.{IsFilterOf, IsSound, place_sheet_with}
use Rattle.world_model.specs.StandsFor.{SheetStandsFor}
use Rattle.world_model.proofs.Kept.{if_there, only_one}
use Rattle.world_model.proofs.Lines.{KeepsLines}
use Rattle.world_model.proofs.SheetMarked.{KeepsMarks, KeepsTable, chosen_has, marked_stands, marks_kept_sound, merges_stay}

-- ---- the spreadsheet is sound

filtered_keeps : (filter : Option Filter) → KeepsTable (place_filtered filter)
filtered_keeps filter = record { id = λ sheet. refl; table = λ sheet. refl }

filtered_marks : (filter : Option Filter) → KeepsMarks (place_filtered filter)
filtered_marks filter = record { title = λ sheet. refl; hidden = λ sheet. refl }

pub set_sound : (book : PlaceBook) (id : ℕ) (filter : Option Filter) → IsSound book
    → IsSomeAnd (place_sheet_with id book.sheets) (λ sheet. IfSome filter (IsFilterOf sheet))
    → IsSound (place_filter_set id filter book)
set_sound book id filter sound can =
    marks_kept_sound id (place_filtered filter) (filtered_keeps filter) (filtered_marks filter) book sound
    (merges_stay id (place_filtered filter) (λ sheet. refl) book.sheets book.sheets sound.sheets)
    (λ k d there.
    let sheet = get_or book.sheets k d in
    chosen_has (λ one. one.filter) (λ one held. IfSome held (IsFilterOf one)) (place_filtered filter) (sheet.id == id)
    sheet
    (λ is. only_one id (λ one. IfSome filter (IsFilterOf one)) book.sheets sound.distinct
    (if_there (λ one. IfSome filter (IsFilterOf one)) (place_sheet_with id book.sheets) can) k d there
    (eqb-true sheet.id id is))
    (sound.sheets k d there).filter)

-- ---- and stands for the one by names

filtered_lines : (filter : Option NameFilter) → KeepsLines (filtered filter)
filtered_lines filter = record { id = λ sheet. refl; lines = own }
  where
    own : (sheet : NameSheet) (axis : Axis) → lines_of (filtered filter sheet) axis ≡ lines_of sheet axis
    own sheet Rows = refl
    own sheet Columns = refl

filtered_follows : (filter : Option Filter) (sheets : List NameSheet) (sheet : PlaceSheet) (names : NameSheet)
    → SheetStandsFor sheets sheet names
    → SheetStandsFor sheets (place_filtered filter sheet)
    (filtered (option_map (filter_named (orders_of sheets)) filter) names)
filtered_follows filter sheets sheet names stands = record {
  id = stands.id;
  title = stands.title;
  hidden = stands.hidden;
  distinct_rows = stands.distinct_rows;
  distinct_cols = stands.distinct_cols;
  rows = stands.rows;
  cols = stands.cols;
  cells = stands.cells;
  nowhere_else = stands.nowhere_else;
  merges = stands.merges;
  filter = refl;
}

pub set_changes : (book : PlaceBook) (id : ℕ) (filter : Option Filter)
    → IsSomeAnd (place_sheet_with id book.sheets) (λ sheet. IfSome filter (IsFilterOf sheet))
    → AreChanges (BookChange.FilterSet id filter ∷ []) book (place_filter_set id filter book)
set_changes book id filter can = record {
  id = refl;
  names = λ named is.
      let by_names : Option NameFilter = option_map (filter_named (orders_of named.book.sheets)) filter in
      marked_stands id (filtered by_names) (place_filtered filter) (filtered_lines by_names) book
      (set_sound book id filter is.stands.sound can) named (filtered_follows filter named.book.sheets) is;
}
