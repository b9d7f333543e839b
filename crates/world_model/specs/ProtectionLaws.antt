-- What is done to the protected ranges of a spreadsheet by places (addProtectedRange, updateProtectedRange and
-- deleteProtectedRange of the Google Sheets API v4) stands for what is meant by names, and keeps what always holds of a
-- spreadsheet; and by places and by names they keep the same users off the same cells.
use Rattle.std.specs.Prelude.{◌≡◌, ◌↔◌, ℕ, List, [], ◌∷◌, Any, IsSomeAnd, Some, slice_get}
use Rattle.std.specs.List.{All}
use Rattle.grid_range.specs.Change.{Fits}
use Rattle.grid_range.specs.declared.axis.Axis.{Axis}
use Rattle.grid_range.specs.declared.axis.Axis.TheVariants.{Rows, Columns}
use Rattle.grid_range.specs.declared.change.Change.TheVariants.{Insert}
use Rattle.cell_store.specs.Moved.{lines_on}
use Rattle.protection.specs.Denial.{Denies}
use Rattle.protection.specs.declared.range.Protection.{Protection}
use Rattle.world_model.specs.Book.{NameBook, PlaceBook, orders_of}
use Rattle.world_model.specs.BookChange.{AreChanges, BookChange, Named, NamedStandsFor, changed_by}
use Rattle.world_model.specs.Leaving.{HasCell}
use Rattle.world_model.specs.Protected.{IsProtected}
use Rattle.world_model.specs.Sound.{IsProtectionWithin, IsSound, place_sheet_with}
use Rattle.world_model.specs.StandsFor.{BookStandsFor}

-- the protections are these and no others
abbrev pub place_protections_set : List Protection → PlaceBook → PlaceBook
place_protections_set protections book = record book { protections = protections }

-- a spreadsheet gets protections of its sheets
pub record ProtectionsAreSet : Type 0 where
  pub stays : (book : PlaceBook) (protections : List Protection) → IsSound book
      → All (IsProtectionWithin book.sheets) protections → IsSound (place_protections_set protections book)
  pub changes : (book : PlaceBook) (protections : List Protection) → All (IsProtectionWithin book.sheets) protections
      → AreChanges (BookChange.ProtectionsSet protections ∷ []) book (place_protections_set protections book)

-- a cell is denied by places where the cell of the lines at that place is protected, and only there
pub record DenialsByName : Type 0 where
  pub denied : (book : PlaceBook) (names : NameBook) (user : List ℕ) (id row col r c : ℕ) → BookStandsFor book names
      → slice_get (orders_of names.sheets id Rows) row ≡ Some r
      → slice_get (orders_of names.sheets id Columns) col ≡ Some c
      → Any (Denies user book.owner id row col) book.protections ↔ IsProtected user names id r c

-- a cell that is protected is so, too, once lines are inserted
pub record InsertsKeepProtected : Type 0 where
  pub kept : (book : PlaceBook) (named : Named) (user : List ℕ) (sheet : ℕ) (axis : Axis) (at inserted : ℕ)
      (id row col : ℕ) → NamedStandsFor book named
      → IsSomeAnd (place_sheet_with sheet book.sheets)
      (λ found. Fits (Insert at inserted) (lines_on axis found.table.rows found.table.cols))
      → HasCell id row col named.book → IsProtected user named.book id row col
      → IsProtected user (changed_by named (BookChange.LinesChanged sheet axis (Insert at inserted))).book id row col
