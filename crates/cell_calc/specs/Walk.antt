-- The walk that finds values: a path of formulas, each of which waits for cells that it reads, the first one above
-- the others.
use Rattle.std.specs.Prelude.{◌≡◌, ◌≢◌, ◌⊎◌, ℕ, ⊤, Bool, true, List, [], ◌∷◌, ◌++◌, Contains, map, Option, Some}
use Rattle.std.specs.Option.{IsSome}
use Rattle.std.specs.List.{AllByRecursion}
use Rattle.cell_value.specs.declared.cell.Value.{Value}
use Rattle.ref_rewrite.specs.declared.cell_content.Content.{Content}
use Rattle.ref_rewrite.specs.declared.cell_content.Content.TheVariants as content
use Rattle.grid_range.specs.declared.area.Area.{Area}
use Rattle.formula_reader.specs.Tree.{Expression, expression_of}
use Rattle.cell_calc.specs.declared.cells.StoredCell.{StoredCell}
use Rattle.cell_calc.specs.declared.mark.Mark.{Mark}
use Rattle.cell_calc.specs.declared.mark.Mark.TheVariants.{Open, Endless, Known}
use Rattle.cell_calc.specs.declared.walk.Frame.{Frame}
use Rattle.cell_calc.specs.Book.{Book, Place, formula, IsFormula, HoldsPlace}
use Rattle.cell_calc.specs.Contents.{Contents, AreOf, IsStoredFormula, cell_place}
use Rattle.cell_calc.specs.CellValue.{Reads, Walks, value_in}
use Rattle.cell_calc.specs.Marks.{keyed_place, is_known, IsMarked, IsKnown}

-- one of the areas holds the place
abbrev pub HeldBy : List Area → Place → Type 0
HeldBy areas place = (area : Area) × Contains areas area × HoldsPlace area place

abbrev pub place_at : Frame → Place
place_at frame = keyed_place frame.place

-- a formula on the path stands there
abbrev pub OnPath : List Frame → Place → Type 0
OnPath [] place = ⊥
OnPath (frame ∷ below) place = (place_at frame ≡ place) ⊎ OnPath below place

-- a formula waits with the areas that it has left: it reads the cells that they hold, and those that it noted, and
-- the other formulas that it reads are known
pub record Waits (book : Book) (marks : Place → Option Mark) (frame : Frame) : Type 0 where
  pub is : book.cells (place_at frame) ≡ formula (Some (expression_of frame.tree))
  pub within : (place : Place) → HeldBy frame.rest.items place → Reads book.named (book.cells (place_at frame)) place
  pub covers : (place : Place) → Reads book.named (book.cells (place_at frame)) place
      → IsFormula (book.cells place) → IsKnown (marks place) ⊎ HeldBy frame.rest.items place
  pub noted : (key : ℕ × ℕ × ℕ) → Contains frame.noted.items key
      → Reads book.named (book.cells (place_at frame)) (keyed_place key)

-- the first formula of the path, where there is one, reads the place
abbrev pub IsReadBy : Book → List Frame → Place → Type 0
IsReadBy book [] place = ⊤
IsReadBy book (frame ∷ below) place = Reads book.named (book.cells (place_at frame)) place

-- and each of the others reads the one above it
abbrev pub IsLinked : Book → List Frame → Type 0
IsLinked book [] = ⊤
IsLinked book (frame ∷ below) = IsReadBy book below (place_at frame) × IsLinked book below

-- the marks are right and of formulas alone, and the path is right. No walk of so many steps starts at a known cell
pub record Holds (book : Book) (marks : Place → Option Mark) (path : List Frame) : Type 0 where
  pub depth : ℕ
  pub formulas : (place : Place) → IsSome (marks place) → IsFormula (book.cells place)
  pub known : (place : Place) (value : Value) → marks place ≡ Some (Known value)
      → (Walks book depth place → ⊥) × (value_in book depth place ≡ value)
  pub endless : (place : Place) → marks place ≡ Some Endless → (steps : ℕ) → Walks book steps place
  pub opened : (place : Place) → marks place ≡ Some Open → OnPath path place
  pub linked : IsLinked book path
  pub waits : AllByRecursion (Waits book marks) path

-- what has a mark keeps one
abbrev pub Stay : (Place → Option Mark) → (Place → Option Mark) → Type 0
Stay before after = (place : Place) → IsSome (before place) → IsSome (after place)

-- marks and a path that are right come to others that are right, whatever spreadsheet is stored
pub record Goes (contents : Contents) (before : Place → Option Mark) (path : List Frame)
    (after : Place → Option Mark) (next : List Frame) : Type 0 where
  pub right : (book : Book) → AreOf contents book → Holds book before path → Holds book after next
  pub stay : Stay before after

-- the same where the path's first formula reads a place
pub record Passes (contents : Contents) (place : Place) (before : Place → Option Mark) (path : List Frame)
    (after : Place → Option Mark) (next : List Frame) : Type 0 where
  pub right : (book : Book) → AreOf contents book → IsReadBy book path place → Holds book before path
      → Holds book after next
  pub stay : Stay before after

-- and where the place then has a mark
pub record Meets (contents : Contents) (place : Place) (before : Place → Option Mark) (path : List Frame)
    (after : Place → Option Mark) (next : List Frame) : Type 0 where
  pub right : (book : Book) → AreOf contents book → IsReadBy book path place → Holds book before path
      → Holds book after next
  pub stay : Stay before after
  pub met : IsSome (after place)

-- each formula of the path in turn becomes one from which walks have no end
abbrev pub Closes : (Place → Option Mark) → List Frame → (Place → Option Mark) → Type 0
Closes before [] after = (place : Place) → after place ≡ before place
Closes before (frame ∷ later) after =
    (next : Place → Option Mark) × IsMarked before (place_at frame) Endless next × Closes next later after

-- the whole of a formula's areas are those that are left and one more
pub record IsCut (whole frame : Frame) (area : Area) : Type 0 where
  pub place : whole.place ≡ frame.place
  pub tree : whole.tree ≡ frame.tree
  pub rest : whole.rest.items ≡ frame.rest.items ++ area ∷ []

-- the cell in the place is the formula with this tree, whatever spreadsheet is stored
abbrev pub IsTreeAt : Contents → Place → Option Expression → Type 0
IsTreeAt contents place tree = (book : Book) → AreOf contents book → book.cells place ≡ formula tree

-- a place is noted behind others, or there is no room for it among them
abbrev pub IsNoted : ℕ × ℕ × ℕ → List (ℕ × ℕ × ℕ) → List (ℕ × ℕ × ℕ) → Type 0
IsNoted key before after = (after ≡ before ++ key ∷ []) ⊎ ((after ≢ []) × (after ≡ before))

-- what is stored is no formula, or one whose mark tells that it is known
abbrev pub is_settled_by : Option Mark → Content → Bool
is_settled_by mark (content.Number number) = true
is_settled_by mark (content.Text text) = true
is_settled_by mark (content.Truth truth) = true
is_settled_by mark (content.Formula text) = is_known mark

-- a cell of the sheet has no formula, or one that is known
abbrev pub is_settled : (Place → Option Mark) → ℕ → StoredCell → Bool
is_settled marks sheet cell = is_settled_by (marks (keyed_place (sheet, cell.row, cell.column))) cell.content.now

-- all of these cells of the sheet
abbrev pub AreSettled : (Place → Option Mark) → ℕ → List StoredCell → Type 0
AreSettled marks sheet cells = (cell : StoredCell) → Contains cells cell → is_settled marks sheet cell ≡ true

-- the formulas that the area holds are known
abbrev pub IsAreaSettled : Contents → (Place → Option Mark) → Area → Type 0
IsAreaSettled contents marks area =
    (place : Place) → HoldsPlace area place → IsStoredFormula (contents.content place) → IsKnown (marks place)

-- and those that all areas hold
abbrev pub AreAreasSettled : Contents → (Place → Option Mark) → List Area → Type 0
AreAreasSettled contents marks areas = (area : Area) → Contains areas area → IsAreaSettled contents marks area

-- a cell of a sheet is settled, or is noted
abbrev pub LooksAt : (Place → Option Mark) → ℕ → StoredCell → List (ℕ × ℕ × ℕ) → List (ℕ × ℕ × ℕ) → Type 0
LooksAt marks sheet cell noted next =
    ((is_settled marks sheet cell ≡ true) × (next ≡ noted)) ⊎ IsNoted (sheet, cell.row, cell.column) noted next

-- of cells of a sheet some are noted; if none is, the first ones are settled
pub record Notes (marks : Place → Option Mark) (sheet : ℕ) (cells first : List StoredCell) (noted : List (ℕ × ℕ × ℕ)) :
    Type 0 where
  pub settled : noted ≡ [] → AreSettled marks sheet first
  pub among : (key : ℕ × ℕ × ℕ) → Contains noted key
      → (key.0 ≡ sheet) × Contains (map cell_place cells) (key.1, key.2)
