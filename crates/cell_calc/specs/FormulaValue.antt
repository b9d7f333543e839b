-- The value of a formula by its tree, where the value in each place is given (Google Docs Editors Help, "Using
-- arithmetic formulas in Sheets"; Google Sheets API v4 reference, ErrorType).
use Rattle.std.specs.Prelude.{List, [], ◌∷◌}
use Rattle.std.specs.Option.{option_map_or}
use Rattle.cell_value.specs.declared.cell.Kind.TheVariants as kind
use Rattle.cell_value.specs.declared.cell.Value.{Value}
use Rattle.cell_value.specs.declared.cell.Value.TheVariants.{Number, Text, Truth, Error}
use Rattle.formula_reader.specs.Tree.{Expression, number, text, truth, reference, lost, word, negative, binary, call, Arguments, no_arguments, argument}
use Rattle.cell_calc.specs.Arguments.{Given, single, area, value_of}
use Rattle.cell_calc.specs.Operators.{operation, negation}
use Rattle.cell_calc.specs.FunctionValues.{called_value}
use Rattle.cell_calc.specs.Book.{Book, Place, Cell, stored, formula, cells_of}

-- what an expression gives: a reference, and a word that names a range, gives the cells of an area
abbrev mutual
  pub given_by : Book → (Place → Value) → Expression → Given
  given_by book read (number n) = single (Number n)
  given_by book read (text t) = single (Text t)
  given_by book read (truth b) = single (Truth b)
  given_by book read (reference cells) = area (cells_of book read cells)
  given_by book read lost = single (Error kind.Ref)
  given_by book read (word w) =
      option_map_or (λ cells. area (cells_of book read cells)) (book.named w) (single (Error kind.Name))
  given_by book read (negative operand) = single (negation (value_of (given_by book read operand)))
  given_by book read (binary operator left right) =
      single (operation operator (value_of (given_by book read left)) (value_of (given_by book read right)))
  given_by book read (call name arguments) = single (called_value name (all_given_by book read arguments))

  pub all_given_by : Book → (Place → Value) → Arguments → List Given
  all_given_by book read no_arguments = []
  all_given_by book read (argument first later) = given_by book read first ∷ all_given_by book read later

-- the value of a cell; a formula without a tree is #ERROR!
abbrev pub value_of_cell : Book → (Place → Value) → Cell → Value
value_of_cell book read (stored value) = value
value_of_cell book read (formula tree) =
    option_map_or (λ expression. value_of (given_by book read expression)) tree (Error kind.Error)
