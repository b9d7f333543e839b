-- Cells that keep what was entered into them, whatever a user does: those that he doesn't touch, and those that are
-- protected from him. Such a cell stays where it is; its references follow their lines, or are lost with these or with
-- their sheet, and its words are renamed; its value may change. Cells are known by the names of their lines.
use Rattle.std.specs.Prelude.{◌≡◌, ℕ, List, [], ◌∷◌, flat_map, Some, slice_get, ⊤}
use Rattle.std.specs.Option.{option_map}
use Rattle.grid_range.specs.declared.axis.Axis.TheVariants.{Rows, Columns}
use Rattle.protection.specs.Denial.{Cells}
use Rattle.world_model.specs.Book.{NameBook, PlaceBook, orders_of}
use Rattle.world_model.specs.BookChange.{BookChange, Named, NamedStandsFor, changed_by_all}
use Rattle.world_model.specs.Leaving.{HasCell, cell_of, content_kept_by_all}
use Rattle.world_model.specs.Protected.{IsProtected}

-- the cell is still there after the changes, and holds what it held, which follows them
pub record StaysAsEntered (named : Named) (changes : List BookChange) (id row col : ℕ) : Type 0 where
  pub there : HasCell id row col (changed_by_all named changes).book
  pub content : cell_of id row col (changed_by_all named changes).book
      ≡ option_map (content_kept_by_all named changes) (cell_of id row col named.book)

-- the row and the column stand where one of these cells is
pub record IsNamedBy (names : NameBook) (cells : Cells) (id row col : ℕ) : Type 0 where
  pub row_place : ℕ
  pub col_place : ℕ
  pub is : cells id row_place col_place
  pub row_there : slice_get (orders_of names.sheets id Rows) row_place ≡ Some row
  pub col_there : slice_get (orders_of names.sheets id Columns) col_place ≡ Some col

-- changes leave each cell of the spreadsheet but for these, which are where they are once the first changes are made
abbrev pub LeavesOthers : List BookChange → Cells → PlaceBook → List BookChange → Type 0
LeavesOthers first cells book changes = (named : Named) (id row col : ℕ) → NamedStandsFor book named
    → HasCell id row col named.book → ¬ (IsNamedBy (changed_by_all named first).book cells id row col)
    → StaysAsEntered named changes id row col

-- changes leave each cell that is protected from the user before them
abbrev pub LeavesProtected : List ℕ → Named → List BookChange → Type 0
LeavesProtected user named changes = (id row col : ℕ) → HasCell id row col named.book
    → IsProtected user named.book id row col → StaysAsEntered named changes id row col

-- and so does one part after another, each on what those before it leave
abbrev pub LeaveInTurn : List ℕ → Named → List (List BookChange) → Type 0
LeaveInTurn user named [] = ⊤
LeaveInTurn user named (made ∷ parts) =
    LeavesProtected user named made × LeaveInTurn user (changed_by_all named made) parts

-- the changes of the spreadsheet do so in parts, whatever its lines are called
pub record LeavesProtectedInParts (user : List ℕ) (book : PlaceBook) (changes : List BookChange) : Type 0 where
  pub parts : List (List BookChange)
  pub all : changes ≡ flat_map (λ part. part) parts
  pub each : (named : Named) → NamedStandsFor book named → LeaveInTurn user named parts
