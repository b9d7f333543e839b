-- The value of a cell in a spreadsheet (Google Sheets API v4 reference, CellData, `effectiveValue`). A walk goes
-- from a formula to one that it reads, in any branch and through names. Cells from which walks have no end are
-- #REF!, the error of a circular dependency.
use Rattle.std.specs.Prelude.{◌≡◌, ◌≢◌, ℕ, zero, suc, List, [], ◌∷◌, ◌++◌, length, Contains, AllPairs, Option, Some, None}
use Rattle.std.specs.Option.{option_to_list}
use Rattle.cell_value.specs.declared.cell.Kind.TheVariants as kind
use Rattle.cell_value.specs.declared.cell.Value.{Value}
use Rattle.cell_value.specs.declared.cell.Value.TheVariants.{Error}
use Rattle.grid_range.specs.declared.area.Area.{Area}
use Rattle.formula_reader.specs.Tree.{Expression, number, text, truth, reference, lost, word, negative, binary, call, Arguments, no_arguments, argument}
use Rattle.cell_calc.specs.Book.{Book, Place, Cell, stored, formula, IsFormula, HoldsPlace}
use Rattle.cell_calc.specs.FormulaValue.{value_of_cell}

-- the areas of an expression, by the area that a word names
abbrev mutual
  pub areas_of : (List ℕ → Option Area) → Expression → List Area
  areas_of named (number n) = []
  areas_of named (text t) = []
  areas_of named (truth b) = []
  areas_of named (reference area) = area ∷ []
  areas_of named lost = []
  areas_of named (word w) = option_to_list (named w)
  areas_of named (negative operand) = areas_of named operand
  areas_of named (binary operator left right) = areas_of named left ++ areas_of named right
  areas_of named (call name arguments) = all_areas_of named arguments

  pub all_areas_of : (List ℕ → Option Area) → Arguments → List Area
  all_areas_of named no_arguments = []
  all_areas_of named (argument first later) = areas_of named first ++ all_areas_of named later

-- a cell reads a place
abbrev pub Reads : (List ℕ → Option Area) → Cell → Place → Type 0
Reads named (stored value) place = ⊥
Reads named (formula None) place = ⊥
Reads named (formula (Some tree)) place =
    (area : Area) × Contains (areas_of named tree) area × HoldsPlace area place

-- a walk of so many steps starts at the place
abbrev pub Walks : Book → ℕ → Place → Type 0
Walks book zero place = IsFormula (book.cells place)
Walks book (suc steps) place = (next : Place) × Reads book.named (book.cells place) next × Walks book steps next

-- the value in a place by recursion so deep
abbrev pub value_in : Book → ℕ → Place → Value
value_in book zero place = value_of_cell book (λ other. Error kind.Ref) (book.cells place)
value_in book (suc depth) place = value_of_cell book (value_in book depth) (book.cells place)

-- all places of formulas, only these, none twice
pub record AreFormulas (book : Book) (places : List Place) : Type 0 where
  pub all : (place : Place) → IsFormula (book.cells place) → Contains places place
  pub only : (place : Place) → Contains places place → IsFormula (book.cells place)
  pub once : AllPairs (λ one other. one ≢ other) places

-- the value in a place, where there are so many formulas: #REF! where a walk of so many steps starts there, and
-- else by recursion so deep
pub record HasValueAmong (count : ℕ) (book : Book) (place : Place) (value : Value) : Type 0 where
  pub endless : Walks book count place → value ≡ Error kind.Ref
  pub ends : (Walks book count place → ⊥) → value ≡ value_in book count place

-- the value in a place of a spreadsheet
abbrev pub HasValue : Book → Place → Value → Type 0
HasValue book place value =
    (places : List Place) → AreFormulas book places → HasValueAmong (length places) book place value

-- the same without a count: #REF! where walks of every length start there, and else by any recursion that is
-- deeper than each walk is long
pub record IsValueOf (book : Book) (place : Place) (value : Value) : Type 0 where
  pub endless : ((steps : ℕ) → Walks book steps place) → value ≡ Error kind.Ref
  pub ends : (depth : ℕ) → (Walks book depth place → ⊥) → value ≡ value_in book depth place

-- what has a value without a count has it
abbrev pub CountsAreBounds : Type 0
CountsAreBounds = (book : Book) (place : Place) (value : Value) → IsValueOf book place value → HasValue book place value

-- the value of a cell is the same in two spreadsheets where the sizes of sheets, the areas of names, and the values
-- in the places that it reads are the same
abbrev pub ReadsDecide : Type 0
ReadsDecide = (one other : Book) (read same : Place → Value) (cell : Cell)
    → ((sheet : ℕ) → one.size sheet ≡ other.size sheet) → ((word : List ℕ) → one.named word ≡ other.named word)
    → ((place : Place) → Reads one.named cell place → read place ≡ same place)
    → value_of_cell one read cell ≡ value_of_cell other same cell
