-- How deep a recursion is doesn't matter for a cell from which no walk is as long.
use Rattle.std.proofs.Common.{◌≡◌, ℕ, zero, suc, refl, sym, ◌∙◌}
use Rattle.cell_value.specs.declared.cell.Kind.TheVariants as kind
use Rattle.cell_value.specs.declared.cell.Value.{Value}
use Rattle.cell_value.specs.declared.cell.Value.TheVariants.{Error}
use Rattle.cell_calc.specs.Book.{Book, Place, Cell, stored, formula, IsFormula}
use Rattle.cell_calc.specs.CellValue.{Walks, value_in, IsValueOf}
use Rattle.cell_calc.specs.FormulaValue.{value_of_cell}
use Rattle.cell_calc.proofs.ReadsDecide.{reads_decide}

module _ (book : Book) where
  -- what is read by a recursion so deep
  abbrev pub read_at : ℕ → Place → Value
  read_at zero place = Error kind.Ref
  read_at (suc depth) place = value_in book depth place

  pub as_cell : (depth : ℕ) (place : Place) → value_in book depth place
      ≡ value_of_cell book (read_at depth) (book.cells place)
  as_cell zero place = refl
  as_cell (suc depth) place = refl

  same_stored : (read other : Place → Value) (cell : Cell) → (IsFormula cell → ⊥)
      → value_of_cell book read cell ≡ value_of_cell book other cell
  same_stored read other (stored value) none = refl
  same_stored read other (formula tree) none = absurd (none tt)

  unless_formula : (one other : ℕ) (place : Place) → (IsFormula (book.cells place) → ⊥)
      → value_in book one place ≡ value_in book other place
  unless_formula one other place none =
      as_cell one place ∙ same_stored (read_at one) (read_at other) (book.cells place) none ∙ sym (as_cell other place)

  -- two depths, each of which no walk has
  pub same_at : (one other : ℕ) (place : Place) → (Walks book one place → ⊥) → (Walks book other place → ⊥)
      → value_in book one place ≡ value_in book other place
  same_at zero other place none ends = unless_formula zero other place none
  same_at (suc one) zero place none ends = unless_formula (suc one) zero place ends
  same_at (suc one) (suc other) place none ends =
      reads_decide book book (value_in book one) (value_in book other) (book.cells place) (λ sheet. refl) (λ word. refl)
      (λ next reads. same_at one other next (λ walk. none (next, reads, walk)) (λ walk. ends (next, reads, walk)))

  -- the value of a cell from which no walk is so long
  pub known_is_value : (depth : ℕ) (place : Place) (value : Value) → (Walks book depth place → ⊥)
      → value_in book depth place ≡ value → IsValueOf book place value
  known_is_value depth place value none is = record {
    endless = λ walks. absurd (none (walks depth));
    ends = λ other ends. sym is ∙ same_at depth other place none ends;
  }

  pub endless_is_value : (place : Place) → ((steps : ℕ) → Walks book steps place)
      → IsValueOf book place (Error kind.Ref)
  endless_is_value place walks = record {
    endless = λ _. refl;
    ends = λ depth none. absurd (none (walks depth));
  }
