-- What a cell reads decides its value.
use Rattle.std.proofs.Common.{◌≡◌, ℕ, ◌-◌, List, [], ◌∷◌, ◌++◌, length, map, refl, ap, sym, ◌∙◌, arith, Contains, Option, Some, None}
use Rattle.std.specs.Prelude.{flat_map}
use Rattle.std.specs.Option.{option_map_or, option_to_list}
use Rattle.std.proofs.lemmas.List.{map-append}
use Rattle.std.proofs.lemmas.List.Elements.{Contains-append_left, Contains-append_right}
use Rattle.cell_value.specs.declared.cell.Kind.TheVariants as kind
use Rattle.cell_value.specs.declared.cell.Value.{Value}
use Rattle.cell_value.specs.declared.cell.Value.TheVariants.{Error}
use Rattle.cell_value.specs.Elements.{Contains-head, Contains-cons}
use Rattle.grid_range.specs.declared.area.Area.{Area}
use Rattle.grid_range.specs.declared.band.Band.{Band}
use Rattle.grid_range.specs.declared.band.Band.TheVariants.{Whole, From, Span}
use Rattle.grid_range.specs.Band.{HasLine}
use Rattle.formula_reader.specs.Tree.{Expression, number, text, truth, reference, lost, word, negative, binary, call, Arguments, no_arguments, argument}
use Rattle.cell_calc.specs.Arguments.{Cells, single, area, value_of}
use Rattle.cell_calc.specs.Operators.{operation, negation}
use Rattle.cell_calc.specs.FunctionValues.{called_value}
use Rattle.cell_calc.specs.Book.{Book, Place, stored, formula, HoldsPlace, lines_of, cells_of}
use Rattle.cell_calc.specs.FormulaValue.{given_by, all_given_by}
use Rattle.cell_calc.proofs.Rectangle.{range_only}
use Rattle.cell_calc.specs.CellValue.{areas_of, all_areas_of, ReadsDecide}

-- each line of a band is one that it has
pub has_lines : (band : Band) (count line : ℕ) → Contains (lines_of band count) line → HasLine band line
has_lines Whole count line has = tt
has_lines (From start) count line has = (range_only start (count - start) line has).0
has_lines (Span start end) count line has =
    let within = range_only start (end - start) line has in
    (within.0, omega (arith, within.0, within.1))

module _ (read same : Place → Value) (sheet : ℕ) where
  abbrev at : ℕ → ℕ → Place
  at row column = record { sheet = sheet; row = row; column = column }

  row_agrees : (row : ℕ) (columns : List ℕ)
      → ((column : ℕ) → Contains columns column → read (at row column) ≡ same (at row column))
      → map read (map (at row) columns) ≡ map same (map (at row) columns)
  row_agrees row [] agree = refl
  row_agrees row (column ∷ columns) agree =
      ap (λ v. v ∷ map read (map (at row) columns)) (agree column (Contains-head column columns))
      ∙ ap (λ l. same (at row column) ∷ l)
      (row_agrees row columns (λ c has. agree c (Contains-cons column c columns has)))

  rows_agree : (rows columns : List ℕ)
      → ((row column : ℕ) → Contains rows row → Contains columns column → read (at row column) ≡ same (at row column))
      → map read (flat_map (λ row. map (at row) columns) rows) ≡ map same (flat_map (λ row. map (at row) columns) rows)
  rows_agree [] columns agree = refl
  rows_agree (row ∷ rows) columns agree =
      let later = flat_map (λ r. map (at r) columns) rows in
      map-append read (map (at row) columns) later
      ∙ ap (λ l. l ++ map read later) (row_agrees row columns (λ c has. agree row c (Contains-head row rows) has))
      ∙ ap (λ l. map same (map (at row) columns) ++ l)
      (rows_agree rows columns (λ r c has. agree r c (Contains-cons row r rows has)))
      ∙ sym (map-append same (map (at row) columns) later)

module _ (one other : Book) (read same : Place → Value)
    (sizes : (sheet : ℕ) → one.size sheet ≡ other.size sheet)
    (names : (word : List ℕ) → one.named word ≡ other.named word) where
  abbrev AgreesOn : Area → Type 0
  AgreesOn cells = (place : Place) → HoldsPlace cells place → read place ≡ same place

  abbrev AgreesOnAll : List Area → Type 0
  AgreesOnAll areas = (cells : Area) → Contains areas cells → AgreesOn cells

  -- the cells of an area by the size of its sheet
  abbrev cells_by : (Place → Value) → Area → ℕ × ℕ → Cells
  cells_by values cells size = record {
    rows = length (lines_of cells.rows size.0);
    columns = length (lines_of cells.cols size.1);
    values = map values (flat_map (λ row. map (λ column. record { sheet = cells.sheet; row = row; column = column })
        (lines_of cells.cols size.1)) (lines_of cells.rows size.0));
  }

  cells_agree : (cells : Area) → AgreesOn cells → cells_of one read cells ≡ cells_of other same cells
  cells_agree cells agree =
      let size = one.size cells.sheet in
      let values = rows_agree read same cells.sheet (lines_of cells.rows size.0) (lines_of cells.cols size.1)
      (λ row column in_rows in_columns. agree (record { sheet = cells.sheet; row = row; column = column })
      (refl, (has_lines cells.rows size.0 row in_rows, has_lines cells.cols size.1 column in_columns))) in
      ap (λ (all : List Value).
      record {
        rows = length (lines_of cells.rows size.0);
        columns = length (lines_of cells.cols size.1);
        values =
            all;
      }) values
      ∙ ap (cells_by same cells) (sizes cells.sheet)

  named_agree : (found : Option Area) → AgreesOnAll (option_to_list found)
      → option_map_or (λ cells. area (cells_of one read cells)) found (single (Error kind.Name))
      ≡ option_map_or (λ cells. area (cells_of other same cells)) found (single (Error kind.Name))
  named_agree None agree = refl
  named_agree (Some cells) agree = ap area (cells_agree cells (agree cells (Contains-head cells [])))

  mutual
    given_agree : (tree : Expression) → AgreesOnAll (areas_of one.named tree)
        → given_by one read tree ≡ given_by other same tree
    given_agree (number n) agree = refl
    given_agree (text t) agree = refl
    given_agree (truth b) agree = refl
    given_agree (reference cells) agree = ap area (cells_agree cells (agree cells (Contains-head cells [])))
    given_agree lost agree = refl
    given_agree (word w) agree =
        named_agree (one.named w) agree
        ∙ ap (λ found. option_map_or (λ cells. area (cells_of other same cells)) found
        (single (Error kind.Name))) (names w)
    given_agree (negative operand) agree = ap (λ given. single (negation (value_of given))) (given_agree operand agree)
    given_agree (binary operator left right) agree =
        let lefts = areas_of one.named left in
        let rights = areas_of one.named right in
        ap (λ given. single (operation operator (value_of given) (value_of (given_by one read right))))
        (given_agree left (λ cells has. agree cells (Contains-append_left lefts rights cells has)))
        ∙ ap (λ given. single (operation operator (value_of (given_by other same left)) (value_of given)))
        (given_agree right (λ cells has. agree cells (Contains-append_right lefts rights cells has)))
    given_agree (call name arguments) agree = ap (λ given. single (called_value name given)) (all_agree arguments agree)

    all_agree : (arguments : Arguments) → AgreesOnAll (all_areas_of one.named arguments)
        → all_given_by one read arguments ≡ all_given_by other same arguments
    all_agree no_arguments agree = refl
    all_agree (argument first later) agree =
        let firsts = areas_of one.named first in
        let laters = all_areas_of one.named later in
        ap (λ given. given ∷ all_given_by one read later)
        (given_agree first (λ cells has. agree cells (Contains-append_left firsts laters cells has)))
        ∙ ap (λ given. given_by other same first ∷ given)
        (all_agree later (λ cells has. agree cells (Contains-append_right firsts laters cells has)))

pub reads_decide : ReadsDecide
reads_decide one other read same (stored value) sizes names agree = refl
reads_decide one other read same (formula None) sizes names agree = refl
reads_decide one other read same (formula (Some tree)) sizes names agree =
    ap value_of (given_agree one other read same sizes names tree
    (λ cells has place holds. agree place (cells, has, holds)))
