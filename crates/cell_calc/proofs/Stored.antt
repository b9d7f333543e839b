-- A place without a formula has what is stored there.
use Rattle.std.proofs.Common.{◌≡◌, ℕ, zero, suc, ap, sym, subst}
use Rattle.cell_value.specs.declared.cell.Kind.TheVariants as kind
use Rattle.cell_value.specs.declared.cell.Value.{Value}
use Rattle.cell_value.specs.declared.cell.Value.TheVariants.{Error}
use Rattle.cell_calc.specs.Book.{Book, Place, stored, IsFormula}
use Rattle.cell_calc.specs.Calculated.{StoredValues}
use Rattle.cell_calc.specs.CellValue.{Reads, Walks, value_in}
use Rattle.cell_calc.specs.FormulaValue.{value_of_cell}

module _ (book : Book) (place : Place) (value : Value) (is : book.cells place ≡ stored value) where
  no_walk : (steps : ℕ) → Walks book steps place → ⊥
  no_walk zero walks = subst IsFormula is walks
  no_walk (suc steps) walks = subst (λ cell. Reads book.named cell walks.0) is walks.1

  stored_in : (depth : ℕ) → value_in book depth place ≡ value
  stored_in zero = ap (value_of_cell book (λ other. Error kind.Ref)) is
  stored_in (suc depth) = ap (value_of_cell book (value_in book depth)) is

pub stored_values : StoredValues
stored_values contents place value only book are places listed =
    let is = only (book.cells place) (are.cells place) in
    record {
      endless = λ walks. absurd (no_walk book place value is _ walks);
      ends = λ ends. sym (stored_in book place value is _);
    }
