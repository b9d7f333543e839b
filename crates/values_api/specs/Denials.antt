-- Cells that protected ranges deny a user (Google Sheets API v4 reference, ProtectedRange): what touches one of them is
-- refused. Which cells are touched by what, and that the refusal names the least id, is this project's profile.
use Rattle.std.specs.Prelude.{◌≡◌, ◌<◌, ◌⊎◌, ◌↔◌, ℕ, Bool, false, List, min}
use Rattle.std.specs.Prelude.{Option, None, Some, Result, Ok, Err, All, Any, IsSomeAnd}
use Rattle.std.specs.Option.{IsSome}
use Rattle.cell_value.specs.declared.cell.Block.{Block}
use Rattle.grid_range.specs.Area.{Holds}
use Rattle.grid_range.specs.declared.area.Area.{Area}
use Rattle.protection.specs.Denial.{Cells, DeniesOne, IsFirst}
use Rattle.world_model.specs.Book.{PlaceBook}
use Rattle.world_model.specs.Sheet.{PlaceSheet}
use Rattle.world_model.specs.Sound.{place_sheet_with}
use Rattle.dimension_ops.specs.Broken.{judged_by, unbroken}
use Rattle.dimension_ops.specs.declared.rule.Rule.{Rule}
use Rattle.values_api.specs.Blocks.{IsWrite, written}
use Rattle.values_api.specs.Rest.{is_reached}
use Rattle.values_api.specs.declared.writing.WrittenCells.{WrittenCells}

-- ---- cells

abbrev pub NoCells : Cells
NoCells id row col = ⊥

-- those of a sheet that is there
abbrev pub OnSheet : List PlaceSheet → ℕ → (PlaceSheet → ℕ → ℕ → Type 0) → Cells
OnSheet sheets sheet Has id row col = (id ≡ sheet)
    × IsSomeAnd (place_sheet_with sheet sheets) (λ found. Has found row col)

-- the area has the cell, and the sheet its row and its column
abbrev pub HasCellOf : Area → PlaceSheet → ℕ → ℕ → Type 0
HasCellOf area sheet row col = Holds area row col × (row < sheet.table.rows) × (col < sheet.table.cols)

-- those of an area
abbrev pub AreaCells : List PlaceSheet → Area → Cells
AreaCells sheets area = OnSheet sheets area.sheet (HasCellOf area)

-- those of several areas
abbrev pub CellsOfAll : List PlaceSheet → List Area → Cells
CellsOfAll sheets areas id row col = Any (λ area. AreaCells sheets area id row col) areas

-- those that a write of the block to the area writes or empties; one that is skipped or that a merge covers is none
abbrev pub WriteCells : List PlaceSheet → Bool → Area → Block → Cells
WriteCells sheets one_cell area block =
    OnSheet sheets area.sheet (λ sheet row col. IsSome (written one_cell area block sheet row col))

-- those of the area that the block doesn't reach
abbrev pub RestCells : List PlaceSheet → Area → Block → Cells
RestCells sheets area block =
    OnSheet sheets area.sheet (λ sheet row col. HasCellOf area sheet row col × (is_reached area block row col ≡ false))

-- those that the block is written to, and the rest of the area
abbrev pub FilledCells : List PlaceSheet → Area → Block → Cells
FilledCells sheets area block id row col =
    WriteCells sheets false area block id row col ⊎ RestCells sheets area block id row col

-- ---- denials

-- the least id of a protected range of the spreadsheet that denies the user one of the cells, if one does
abbrev pub IsDenial : List ℕ → PlaceBook → Cells → Option ℕ → Type 0
IsDenial user book cells (Some id) = IsFirst (DeniesOne user book.owner cells) book.protections id
IsDenial user book cells None = All (λ one. ¬ (DeniesOne user book.owner cells one)) book.protections

-- what is told where cells are denied by the protected range with that id, if there is one: each other rule that what
-- touches cells can break is tried before this one
abbrev pub unless_denied : {A : Type 0} → Option ℕ → Result A Rule → Result A Rule
unless_denied denied (Ok done) = judged_by (record unbroken { protected = denied }) done
unless_denied denied (Err broken) = Err broken

-- something is done and told, unless it touches one of the cells and a protected range of the spreadsheet denies the
-- user that one
pub record IsUnlessDenied {A : Type 0} (user : List ℕ) (book : PlaceBook) (cells : Cells) (Is : Result A Rule → Type 0)
    (told : Result A Rule) : Type 0 where
  pub denied : Option ℕ
  pub is_denied : IsDenial user book cells denied
  pub done : Result A Rule
  pub is : Is done
  pub told_is : told ≡ unless_denied denied done

-- the user's values are written to the area, or from its first cell on: the cells that are written or emptied are
-- touched
abbrev pub IsWriteBy : List ℕ → Bool → Area → Block → PlaceSheet → PlaceBook → PlaceBook
    → Result WrittenCells Rule → Type 0
IsWriteBy user one_cell area block sheet before after =
    IsUnlessDenied user before (WriteCells before.sheets one_cell area block)
    (IsWrite one_cell area block sheet before after)

-- ---- what the private functions hand to one another

-- the lesser of two ids, of which none may be there
abbrev pub lesser : Option ℕ → Option ℕ → Option ℕ
lesser (Some one) (Some other) = Some (min one other)
lesser (Some one) None = Some one
lesser None other = other

-- these areas have just the cells of the area that the block doesn't reach
abbrev pub AreRestOf : PlaceSheet → Area → Block → List Area → Type 0
AreRestOf sheet area block areas = All (λ one. one.sheet ≡ area.sheet) areas
    × ((row col : ℕ) → Any (λ one. HasCellOf one sheet row col) areas
    ↔ (HasCellOf area sheet row col × (is_reached area block row col ≡ false)))
