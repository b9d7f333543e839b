-- A sheet that gets other merges, by places and by names.
use Rattle.std.proofs.Common.{◌≡◌, ℕ, refl, List, [], ◌∷◌, get_or}
use Rattle.std.specs.Prelude.{IsSomeAnd, map, ◌==◌}
use Rattle.std.proofs.lemmas.Bool.{eqb-true}
use Rattle.grid_range.specs.declared.area.Area.{Area}
use Rattle.grid_range.specs.declared.axis.Axis.{Axis}
use Rattle.grid_range.specs.declared.axis.Axis.TheVariants.{Rows, Columns}
use Rattle.world_model.specs.Area.{NameArea, area_named}
use Rattle.world_model.specs.Book.{PlaceBook, orders_of}
use Rattle.world_model.specs.BookChange.{AreChanges, BookChange, merged}
use Rattle.world_model.specs.Sheet.{NameSheet, PlaceSheet, lines_of}
use Rattle.world_model.specs.SheetChange.{place_merged, place_merges_set}
use Rattle.world_model.specs.Sound.{AreMergesOf, IsSound, place_sheet_with}
use Rattle.world_model.specs.StandsFor.{SheetStandsFor}
use Rattle.world_model.proofs.Kept.{if_there, only_one}
use Rattle.world_model.proofs.Lines.{KeepsLines}
use Rattle.world_model.proofs.SheetMarked.{KeepsMarks, KeepsTable, chosen_has, filters_stay, marked_stands, marks_kept_sound}

-- ---- the spreadsheet is sound

merged_keeps : (merges : List Area) → KeepsTable (place_merged merges)
merged_keeps merges = record { id = λ sheet. refl; table = λ sheet. refl }

merged_marks : (merges : List Area) → KeepsMarks (place_merged merges)
merged_marks merges = record { title = λ sheet. refl; hidden = λ sheet. refl }

pub merged_sound : (id : ℕ) (merges : List Area) (book : PlaceBook) → IsSound book
    → IsSomeAnd (place_sheet_with id book.sheets) (λ sheet. AreMergesOf sheet merges)
    → IsSound (place_merges_set id merges book)
merged_sound id merges book sound can =
    marks_kept_sound id (place_merged merges) (merged_keeps merges) (merged_marks merges) book sound
    (λ k d there.
    let sheet = get_or book.sheets k d in
    chosen_has (λ one. one.merges) AreMergesOf (place_merged merges) (sheet.id == id) sheet
    (λ is. only_one id (λ one. AreMergesOf one merges) book.sheets sound.distinct
    (if_there (λ one. AreMergesOf one merges) (place_sheet_with id book.sheets) can) k d there
    (eqb-true sheet.id id is))
    (sound.sheets k d there).merges)
    (filters_stay id (place_merged merges) (λ sheet. refl) book.sheets book.sheets sound.sheets)

-- ---- and stands for the one by names

merged_lines : (merges : List NameArea) → KeepsLines (merged merges)
merged_lines merges = record { id = λ sheet. refl; lines = own }
  where
    own : (sheet : NameSheet) (axis : Axis) → lines_of (merged merges sheet) axis ≡ lines_of sheet axis
    own sheet Rows = refl
    own sheet Columns = refl

merged_follows : (merges : List Area) (sheets : List NameSheet) (sheet : PlaceSheet) (names : NameSheet)
    → SheetStandsFor sheets sheet names
    → SheetStandsFor sheets (place_merged merges sheet) (merged (map (area_named (orders_of sheets)) merges) names)
merged_follows merges sheets sheet names stands = record {
  id = stands.id;
  title = stands.title;
  hidden = stands.hidden;
  distinct_rows = stands.distinct_rows;
  distinct_cols = stands.distinct_cols;
  rows = stands.rows;
  cols = stands.cols;
  cells = stands.cells;
  nowhere_else = stands.nowhere_else;
  merges = λ area. (λ listed. listed, λ listed. listed);
  filter = stands.filter;
}

pub merged_changes : (book : PlaceBook) (id : ℕ) (merges : List Area)
    → IsSomeAnd (place_sheet_with id book.sheets) (λ sheet. AreMergesOf sheet merges)
    → AreChanges (BookChange.MergesSet id merges ∷ []) book (place_merges_set id merges book)
merged_changes book id merges can = record {
  id = refl;
  names = λ named is.
      let by_names : List NameArea = map (area_named (orders_of named.book.sheets)) merges in
      marked_stands id (merged by_names) (place_merged merges) (merged_lines by_names) book
      (merged_sound id merges book is.stands.sound can) named (merged_follows merges named.book.sheets) is;
}
