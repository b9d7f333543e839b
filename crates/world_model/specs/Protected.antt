-- Which cells a protected range keeps a user off, by the names of their lines (Google Sheets API v4 reference,
-- ProtectedRange: `range`, `unprotectedRanges`, `warningOnly` and `editors`). A user is the text of his name.
use Rattle.std.specs.Prelude.{◌≡◌, ◌≢◌, ℕ, false, List, Contains, Any, ⊤}
use Rattle.std.specs.List.{All}
use Rattle.grid_range.specs.NameBand.{NameBand}
use Rattle.grid_range.specs.NameBand.NameBand.{Whole, Closed, Open}
use Rattle.world_model.specs.Area.{NameArea}
use Rattle.world_model.specs.Book.{NameBook}
use Rattle.world_model.specs.Protections.{NameProtection}

-- the band has the line
abbrev pub HasName : NameBand → ℕ → Type 0
HasName Whole line = ⊤
HasName (Closed lines) line = Contains lines line
HasName (Open lines) line = Contains lines line

-- the area has the cell of the row and the column of the sheet with the id
abbrev pub CoversCell : ℕ → ℕ → ℕ → NameArea → Type 0
CoversCell id row col area = (area.sheet ≡ id) × HasName area.rows row × HasName area.cols col

-- the protected range keeps the user off the cell: it isn't a warning, the cell is in its area and in none of its
-- unprotected ranges, and the user is neither one of its editors nor the owner
pub record KeepsOff (user owner : List ℕ) (id row col : ℕ) (protection : NameProtection) : Type 0 where
  pub guards : protection.warning_only ≡ false
  pub covered : CoversCell id row col protection.area
  pub not_opened : All (λ range. ¬ (CoversCell id row col range)) protection.unprotected
  pub not_editor : ¬ (Contains protection.editors user)
  pub not_owner : user ≢ owner

-- the cell is protected from the user
abbrev pub IsProtected : List ℕ → NameBook → ℕ → ℕ → ℕ → Type 0
IsProtected user book id row col = Any (KeepsOff user book.owner id row col) book.protections
