-- What is answered to a write.
use Rattle.std.proofs.Common.{◌≡◌, ℕ, List, map, length, sym, subst}
use Rattle.std.specs.Prelude.{Option, None, Some, Result, Ok, Err, Contains, IsSomeAnd}
use Rattle.formula_reader.specs.declared.fault.FormulaFault.{FormulaFault}
use Rattle.grid_range.specs.declared.area.Area.{Area}
use Rattle.grid_range.specs.declared.axis.Axis.TheVariants.{Rows, Columns}
use Rattle.merge_ranges.specs.Merges.{is_covered}
use Rattle.world_model.specs.Book.{PlaceBook}
use Rattle.world_model.specs.Sheet.{PlaceSheet}
use Rattle.dimension_ops.specs.Rules.{IsUnlessNoMemory}
use Rattle.dimension_ops.specs.declared.rule.Rule.{Rule}
use Rattle.dimension_ops.specs.declared.rule.RuleOr.{RuleOr}
use Rattle.dimension_ops.specs.declared.rule.RuleOr.TheVariants as refusal
use Rattle.values_api.specs.Blocks.{AreCells, AreLines, area_written, broken_by_write}
use Rattle.values_api.specs.Given.{AreGiven, ArePut, IsAnswer, IsDone, fits_by, line_on}
use Rattle.values_api.specs.Given.{value_by, value_listed, value_uncovered}
use Rattle.values_api.specs.declared.given.Given.{Given}
use Rattle.values_api.specs.declared.writing.WrittenCells.{WrittenCells}
use Rattle.values_api.proofs.LinesOn.{rows_of, cols_of}
use Rattle.values_api.proofs.Listed.{listed_uncovered}
use Rattle.values_api.proofs.WriteEnds.{unless}

-- a write that breaks no rule is told as it was done
pub told : (given : Given) (cells : List (ℕ × ℕ)) (limit : Option FormulaFault) (book : PlaceBook)
    (written : WrittenCells)
    → AreGiven given cells → broken_by_write limit (fits_by given) book ≡ None
    → written.area ≡ area_written given.area.now given.block.now
    → AreLines (Contains (map (line_on Rows) cells)) written.rows
    → AreLines (Contains (map (line_on Columns) cells)) written.cols → written.cells ≡ length cells
    → IsAnswer given (value_listed cells given) limit book (Ok written)
told given cells limit book written are none area rows cols count = (
  none,
  record {
    area_is = area;
    rows_are = rows_of (value_listed cells given) cells are.exactly written.rows rows;
    cols_are = cols_of (value_listed cells given) cells are.exactly written.cols cols;
    cells_are = record { cells = cells; are = are; many = count };
  },
)

module _ (given : Given) (cells : List (ℕ × ℕ)) where
  -- the cells with a value that no merge covers have the values that are listed
  values_are : (merges : List Area) → AreCells (value_uncovered merges given) cells
      → value_listed cells given ≡ value_uncovered merges given
  values_are merges are = listed_uncovered (value_by given) (is_covered merges) cells are.exactly

  abbrev AreUncovered : PlaceSheet → Type 0
  AreUncovered sheet = AreCells (value_uncovered sheet.merges given) cells

  -- and so have those of a list that is the same
  pub same_uncovered : (found : Option PlaceSheet) (list : List (ℕ × ℕ)) → cells ≡ list
      → IsSomeAnd found (λ sheet. AreCells (value_uncovered sheet.merges given) list) → IsSomeAnd found AreUncovered
  same_uncovered found list same =
      subst (λ one. IsSomeAnd found (λ (sheet : PlaceSheet). AreCells (value_uncovered sheet.merges given) one))
      (sym same)

  pub given_to : (found : Option PlaceSheet) → IsSomeAnd found AreUncovered → AreGiven given cells
  given_to None are = absurd are
  given_to (Some sheet) are = subst (λ values. AreCells values cells) (sym (values_are sheet.merges are)) are

  pub done : (found : Option PlaceSheet) (limit : Option FormulaFault) (before after : PlaceBook)
      (answer : Result WrittenCells RuleOr) → IsSomeAnd found AreUncovered
      → ArePut given (value_listed cells given) before after limit
      → IsUnlessNoMemory (IsAnswer given (value_listed cells given) limit after) answer
      → IsSomeAnd found
      (λ sheet. IsUnlessNoMemory (IsDone given (value_uncovered sheet.merges given) before after) answer)
  done None limit before after answer are put is = absurd are
  done (Some sheet) limit before after answer are put is =
      subst (λ values. IsUnlessNoMemory (IsDone given values before after) answer) (values_are sheet.merges are)
      (unless (IsAnswer given (value_listed cells given) limit after)
      (IsDone given (value_listed cells given) before after)
      (λ one right. record { limit = limit; put = put; answered = right }) answer is)

-- of want of memory nothing is told
pub told_nothing : (P : PlaceSheet → Type 0) (Q : PlaceSheet → Result WrittenCells Rule → Type 0)
    (found : Option PlaceSheet)
    (answer : Result WrittenCells RuleOr) → IsUnlessNoMemory (λ _. ⊥) answer → IsSomeAnd found P
    → IsSomeAnd found (λ sheet. IsUnlessNoMemory (Q sheet) answer)
told_nothing P Q None answer is there = absurd there
told_nothing P Q (Some sheet) (Ok written) is there = absurd is
told_nothing P Q (Some sheet) (Err (refusal.Rule rule)) is there = absurd is
told_nothing P Q (Some sheet) (Err refusal.NoMemory) is there = tt
