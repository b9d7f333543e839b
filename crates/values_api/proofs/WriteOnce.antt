-- An update makes one spreadsheet, and a write makes one thing of the cells, and has one answer.
use Rattle.std.proofs.Common.{◌≡◌, ℕ, Bool, sym, ap, subst, ◌∙◌, List}
use Rattle.std.specs.Prelude.{Option, Some, None, Result, Ok, Err, MatchResult}
use Rattle.std.specs.Option.{IsSome}
use Rattle.cell_value.specs.declared.cell.Block.{Block}
use Rattle.cell_value.specs.declared.entered.Input.{Input}
use Rattle.formula_reader.specs.Laws.{IsReadOnce}
use Rattle.formula_reader.specs.declared.fault.FormulaFault.{FormulaFault}
use Rattle.grid_range.specs.declared.area.Area.{Area}
use Rattle.world_model.specs.Book.{PlaceBook}
use Rattle.world_model.specs.Laws.{StandsForApart, StandsForSome}
use Rattle.world_model.specs.Sheet.{PlaceSheet}
use Rattle.world_model.specs.Sound.{IsSound}
use Rattle.world_model.specs.Updating.{Updates, book_updated}
use Rattle.dimension_ops.specs.declared.rule.Rule.{Rule}
use Rattle.values_api.specs.Blocks.{IsWrite, IsWritten, IsNumberOfCells, AreLines, IsFirstPassed}
use Rattle.values_api.specs.Blocks.{broken_by_write, contents_of, fits, written}
use Rattle.values_api.specs.Laws.{UpdatesOnce, WritesOnce}
use Rattle.values_api.specs.Sheets.{formula_sheets}
use Rattle.values_api.specs.Updates.{AreUpdated}
use Rattle.values_api.specs.declared.writing.WrittenCells.{WrittenCells}
use Rattle.values_api.proofs.Entering.{entries_once}
use Rattle.values_api.proofs.FirstPassed.{first_once}
use Rattle.values_api.proofs.Kept.{kept_sheet}
use Rattle.values_api.proofs.SameCells.{same_length}
use Rattle.values_api.proofs.SameLines.{same_lines}

some_same : {A : Type 0} (one other : A) → Some one ≡ Some other → one ≡ other
some_same one other e = cc

none_some : {A : Type 0} (x : A) → None ≡ Some x → ⊥
none_some x e = cc

lines_once : (IsLine : ℕ → Type 0) (lines lines' : List ℕ) → AreLines IsLine lines → AreLines IsLine lines'
    → lines ≡ lines'
lines_once IsLine lines lines' are are' =
    same_lines lines lines' are.in_order are'.in_order
    (λ n has. (are'.exactly n).1 ((are.exactly n).0 has)) (λ n has. (are.exactly n).1 ((are'.exactly n).0 has))

number_once : (values : ℕ → ℕ → Option Input) (number number' : ℕ) → IsNumberOfCells values number
    → IsNumberOfCells values number' → number ≡ number'
number_once values number number' is is' =
    is.many
    ∙ same_length is.cells is'.cells is.are.once is'.are.once
    (λ cell has. (is'.are.exactly cell.0 cell.1).1 ((is.are.exactly cell.0 cell.1).0 has))
    (λ cell has. (is.are.exactly cell.0 cell.1).1 ((is'.are.exactly cell.0 cell.1).0 has))
    ∙ sym is'.many

abbrev written_as : Area → List ℕ → List ℕ → ℕ → WrittenCells
written_as area rows cols cells = record { area = area; rows = rows; cols = cols; cells = cells }

written_once : (area : Area) (block : Block) (values : ℕ → ℕ → Option Input) (one other : WrittenCells)
    → IsWritten area block values one → IsWritten area block values other → one ≡ other
written_once area block values one other is is' =
    ap (λ found. written_as found one.rows one.cols one.cells) (is.area_is ∙ sym is'.area_is)
    ∙ ap (λ rows. written_as other.area rows one.cols one.cells)
    (lines_once (λ row. (col : ℕ) × IsSome (values row col)) one.rows other.rows is.rows_are is'.rows_are)
    ∙ ap (λ cols. written_as other.area other.rows cols one.cells)
    (lines_once (λ col. (row : ℕ) × IsSome (values row col)) one.cols other.cols is.cols_are is'.cols_are)
    ∙ ap (λ cells. written_as other.area other.rows other.cols cells)
    (number_once values one.cells other.cells is.cells_are is'.cells_are)

module _ (fit : Bool) (area : Area) (block : Block) (values : ℕ → ℕ → Option Input) where
  abbrev Answers : Option FormulaFault → PlaceBook → Result WrittenCells Rule → Type 0
  Answers limit after answer = MatchResult answer
      (λ done. (broken_by_write limit fit after ≡ None) × IsWritten area block values done)
      (λ broken. broken_by_write limit fit after ≡ Some broken)

  answer_once : (limit : Option FormulaFault) (after : PlaceBook) (one other : Result WrittenCells Rule)
      → Answers limit after one → Answers limit after other → one ≡ other
  answer_once limit after (Ok one) (Ok other) is is' =
      ap (λ answer. Ok answer) (written_once area block values one other is.1 is'.1)
  answer_once limit after (Ok one) (Err broken) is is' = absurd (none_some broken (sym is.0 ∙ is'))
  answer_once limit after (Err broken) (Ok other) is is' = absurd (none_some broken (sym is'.0 ∙ is))
  answer_once limit after (Err broken) (Err broken') is is' =
      ap (λ rule. Err rule) (some_same broken broken' (sym is ∙ is'))

module _ (some_names : StandsForSome) (apart : StandsForApart) where
  updated_once : (sheet : ℕ) (updates : Updates) (before one other : PlaceBook) → IsSound before
      → AreUpdated sheet updates before one → AreUpdated sheet updates before other → one ≡ other
  updated_once sheet updates before one other sound is is' =
      let (names, stands) = some_names.stands before sound in
      apart.same one other (book_updated sheet updates names) (is.names names stands) (is'.names names stands)

  updated_sound : (sheet : ℕ) (updates : Updates) (before after : PlaceBook) → IsSound before
      → AreUpdated sheet updates before after → IsSound after
  updated_sound sheet updates before after sound is =
      let (names, stands) = some_names.stands before sound in (is.names names stands).sound

  pub updates_once : UpdatesOnce
  updates_once = record {
    once = updated_once;
    sound = updated_sound;
    kept = λ sheet updates before after id own is found.
        kept_sheet sheet updates id before.sheets after.sheets is.places.sheets own found;
  }

module _ (reads_once : IsReadOnce) (some_names : StandsForSome) (apart : StandsForApart) where
  write_once : (one_cell : Bool) (area : Area) (block : Block) (sheet : PlaceSheet) (before after after' : PlaceBook)
      (answer answer' : Result WrittenCells Rule) → IsSound before
      → (one : IsWrite one_cell area block sheet before after answer)
      → (other : IsWrite one_cell area block sheet before after' answer')
      → (contents_of one.entries ≡ contents_of other.entries) × (answer ≡ answer')
  write_once one_cell area block sheet before after after' answer answer' sound one other =
      let values = written one_cell area block sheet in
      let fit = fits one_cell area block sheet in
      let same = entries_once reads_once (formula_sheets before.sheets) area.sheet values one.entries other.entries
      one.entered other.entered in
      let same_contents : contents_of one.entries ≡ contents_of other.entries = ap contents_of same in
      let same_after = updated_once some_names apart area.sheet (contents_of other.entries) before after after' sound
      (subst (λ updates. AreUpdated area.sheet updates before after) same_contents one.updated) other.updated in
      let same_limit = first_once other.entries one.limit other.limit
      (subst (λ entries. IsFirstPassed entries one.limit) same one.first) other.first in (
        same_contents,
        answer_once fit area block values other.limit after' answer answer'
            (subst (λ limit. Answers fit area block values limit after' answer) same_limit
            (subst (λ book. Answers fit area block values one.limit book answer) same_after one.answered))
            other.answered,
      )

  pub writes_once : WritesOnce
  writes_once = record { once = write_once }
