-- What a protected range keeps a user from: `range` and `unprotectedRanges` of the `ProtectedRange`
-- of the Google Sheets API v4. A cell is a sheet's id, a row and a column, each counted from 0.
use Rattle.std.specs.Prelude.{ℕ, ◌≡◌, ◌<◌, false, List, All, Contains}
use Rattle.grid_range.specs.declared.area.Area.{Area}
use Rattle.grid_range.specs.Area.{Holds}
use Rattle.protection.specs.declared.range.Protection.{Protection}
use Rattle.protection.specs.Editors.{may_edit}

-- the area has the cell; an area of another sheet doesn't
abbrev pub HasCell : ℕ → ℕ → ℕ → Area → Type 0
HasCell sheet row col area = (area.sheet ≡ sheet) × Holds area row col

-- no range has the cell
abbrev pub IsOutside : ℕ → ℕ → ℕ → List Area → Type 0
IsOutside sheet row col ranges = All (λ range. ¬ (HasCell sheet row col range)) ranges

-- the protection denies the user the cell
pub record Denies (user owner : List ℕ) (sheet row col : ℕ) (protection : Protection) : Type 0 where
  pub kept_off : may_edit user owner protection ≡ false
  pub covered : HasCell sheet row col protection.area
  pub not_opened : IsOutside sheet row col protection.unprotected

-- it denies the user some cell of the area, on a sheet of that size
pub record DeniesSome (user owner : List ℕ) (area : Area) (rows cols : ℕ)
    (protection : Protection) : Type 0 where
  pub row : ℕ
  pub col : ℕ
  pub row_there : row < rows
  pub col_there : col < cols
  pub asked : Holds area row col
  pub denied : Denies user owner area.sheet row col protection

-- some cells of a spreadsheet, each by its sheet's id, its row and its column
abbrev pub Cells : Type 1
Cells = ℕ → ℕ → ℕ → Type 0

-- it denies the user one of the cells
pub record DeniesOne (user owner : List ℕ) (cells : Cells) (protection : Protection) : Type 0 where
  pub sheet : ℕ
  pub row : ℕ
  pub col : ℕ
  pub is : cells sheet row col
  pub denied : Denies user owner sheet row col protection

-- the cells of a sheet that are listed by row and column
abbrev pub ListedCells : ℕ → List (ℕ × ℕ) → Cells
ListedCells sheet cells id row col = (id ≡ sheet) × Contains cells (row, col)

-- that is the least id of a protection that denies so
pub record IsFirst (IsDenying : Protection → Type 0) (protections : List Protection) (id : ℕ) : Type 0 where
  pub protection : Protection
  pub listed : Contains protections protection
  pub has_id : protection.id ≡ id
  pub denies : IsDenying protection
  pub least : All (λ other. other.id < id → ¬ (IsDenying other)) protections

-- that is the least id of a protection that denies the user some cell of the area
abbrev pub IsFirstDenial : List ℕ → List ℕ → Area → ℕ → ℕ → List Protection → ℕ → Type 0
IsFirstDenial user owner area rows cols = IsFirst (DeniesSome user owner area rows cols)
