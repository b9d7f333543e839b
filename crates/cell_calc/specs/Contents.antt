-- A spreadsheet by what is stored in it, and the cells that its formulas read (Google Sheets API v4 reference,
-- Spreadsheet, SheetProperties, CellData, `userEnteredValue`, and NamedRange).
use Rattle.std.specs.Prelude.{◌≡◌, ◌≢◌, ◌↔◌, ℕ, ◌<◌, ⊤, List, Contains, map, Option, Some, None, unwrap_or, IfSome, IsSomeAnd}
use Rattle.std.specs.Option.{IsSome}
use Rattle.std.specs.List.{All, AllPairs}
use Rattle.std.specs.List.Sorted.{IsStrictlySortedBy}
use Rattle.cell_value.specs.declared.cell.Value.TheVariants as value
use Rattle.grid_range.specs.declared.area.Area.{Area}
use Rattle.grid_range.specs.Area.{AreaWithin, Holds, by_rows}
use Rattle.ref_rewrite.specs.declared.cell_content.Content.{Content}
use Rattle.ref_rewrite.specs.declared.cell_content.Content.TheVariants.{Number, Text, Truth, Formula}
use Rattle.ref_rewrite.specs.declared.pieces.Formula.{Formula as StoredFormula}
use Rattle.ref_rewrite.specs.declared.pieces.Piece.{Piece}
use Rattle.ref_rewrite.specs.declared.pieces.Piece.TheVariants as piece
use Rattle.formula_reader.specs.Tree.{Expression}
use Rattle.formula_reader.specs.Only.{IsOnly}
use Rattle.formula_reader.specs.Symbols.{IsTreeOf, KeepsLimits}
use Rattle.cell_calc.specs.declared.cells.StoredCell.{StoredCell}
use Rattle.cell_calc.specs.Book.{Book, Place, Cell, stored, formula}

-- the ids of the sheets, how many rows and columns a sheet has, what is stored in a place, and the area of the
-- named range that a word names
pub record Contents : Type 0 where
  pub sheets : List ℕ
  pub size : ℕ → Option (ℕ × ℕ)
  pub content : Place → Option Content
  pub named : List ℕ → Option Area

-- the sheet is there, and it has the place
abbrev pub HasPlace : Contents → Place → Type 0
HasPlace contents place =
    IsSomeAnd (contents.size place.sheet) (λ size. (place.row < size.0) × (place.column < size.1))

-- the area's sheet is there, and both bands are within it
abbrev pub HasArea : Contents → Area → Type 0
HasArea contents area = IsSomeAnd (contents.size area.sheet) (λ size. AreaWithin area size.0 size.1)

-- a reference's cells are there
abbrev pub IsPieceWithin : Contents → Piece → Type 0
IsPieceWithin contents (piece.Ref reference) = HasArea contents reference.area
IsPieceWithin contents (piece.Text text) = ⊤
IsPieceWithin contents (piece.Word word) = ⊤
IsPieceWithin contents piece.Lost = ⊤

-- the cells of a formula's references are there
abbrev pub IsContentSound : Contents → Content → Type 0
IsContentSound contents (Formula text) = All (IsPieceWithin contents) text.pieces
IsContentSound contents (Number number) = ⊤
IsContentSound contents (Text text) = ⊤
IsContentSound contents (Truth truth) = ⊤

-- each sheet has one id and just these have a size, what is stored stands in a sheet, and so do the cells of
-- references and of names
pub record AreSound (contents : Contents) : Type 0 where
  pub once : AllPairs (λ one other. one ≢ other) contents.sheets
  pub sized : (sheet : ℕ) → IsSome (contents.size sheet) ↔ Contains contents.sheets sheet
  pub inside : (place : Place) → IsSome (contents.content place) → HasPlace contents place
  pub formulas : (place : Place) → IfSome (contents.content place) (IsContentSound contents)
  pub names : (word : List ℕ) → IfSome (contents.named word) (HasArea contents)

-- these are the places of the area where something is stored, by rows
pub record AreStoredPlaces (contents : Contents) (area : Area) (places : List (ℕ × ℕ)) : Type 0 where
  pub in_order : IsStrictlySortedBy by_rows places
  pub exactly : (row column : ℕ) → Contains places (row, column)
      ↔ (Holds area row column
      × IsSome (contents.content (record { sheet = area.sheet; row = row; column = column })))

abbrev pub cell_place : StoredCell → ℕ × ℕ
cell_place cell = (cell.row, cell.column)

-- in each of these cells of the sheet that is stored which it has
abbrev pub AreOnSheet : Contents → ℕ → List StoredCell → Type 0
AreOnSheet contents sheet cells = (cell : StoredCell) → Contains cells cell
    → contents.content (record { sheet = sheet; row = cell.row; column = cell.column }) ≡ Some cell.content.now

-- these are the cells of the area in which something is stored, by rows, each with what is stored there
pub record AreStoredCells (contents : Contents) (area : Area) (cells : List StoredCell) : Type 0 where
  pub places : AreStoredPlaces contents area (map cell_place cells)
  pub content : AreOnSheet contents area.sheet cells

-- a formula is stored
abbrev pub IsStoredFormula : Option Content → Type 0
IsStoredFormula None = ⊥
IsStoredFormula (Some (Number number)) = ⊥
IsStoredFormula (Some (Text text)) = ⊥
IsStoredFormula (Some (Truth truth)) = ⊥
IsStoredFormula (Some (Formula text)) = ⊤

-- the formula has that tree, and passes no limit of reading; a formula that passes one has no tree
abbrev pub IsTreeWithin : StoredFormula → Expression → Type 0
IsTreeWithin text tree = KeepsLimits text × IsTreeOf text tree

-- what is stored is that cell: an empty place is blank, and a formula is the only tree that it has
abbrev pub IsCell : Option Content → Cell → Type 0
IsCell None cell = cell ≡ stored value.Blank
IsCell (Some (Number number)) cell = cell ≡ stored (value.Number number)
IsCell (Some (Text text)) cell = cell ≡ stored (value.Text text)
IsCell (Some (Truth truth)) cell = cell ≡ stored (value.Truth truth)
IsCell (Some (Formula text)) cell =
    (tree : Option Expression) × IsOnly (IsTreeWithin text) tree × (cell ≡ formula tree)

-- what is stored is that spreadsheet
pub record AreOf (contents : Contents) (book : Book) : Type 0 where
  pub cells : (place : Place) → IsCell (contents.content place) (book.cells place)
  pub size : (sheet : ℕ) → book.size sheet ≡ unwrap_or (contents.size sheet) (0, 0)
  pub named : (word : List ℕ) → book.named word ≡ contents.named word
