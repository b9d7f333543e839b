-- The cells that values are given for, entered one after another.
use Rattle.std.proofs.Common.{◌≡◌, ℕ, ◌+◌, ◌-◌, ◌<◌, ◌≤◌, List, length, take, get_or, refl, subst, ap, ◌∙◌, cond, Bool, true, false, arith, inl, inr}
use Rattle.std.specs.Prelude.{Option, Some, None, IsSomeAnd, ◌⊎◌}
use Rattle.std.specs.Option.{IsSome, option_map}
use Rattle.std.proofs.lemmas.Bool.{false≢true}
use Rattle.std.proofs.lemmas.List.Elements.{Contains-get_or}
use Rattle.std.proofs.lemmas.List.{take_all}
use Rattle.cell_store.specs.Table.{HasPlace}
use Rattle.cell_value.specs.declared.entered.Input.{Input}
use Rattle.cell_value.specs.declared.entered.Input.TheVariants as input
use Rattle.formula_reader.specs.Laws.{IsReadOnce}
use Rattle.formula_reader.specs.Sheets.{Sheets}
use Rattle.formula_reader.specs.declared.fault.FormulaFault.{FormulaFault}
use Rattle.world_model.specs.Book.{PlaceBook}
use Rattle.world_model.specs.Laws.{UpdatesAreWrites, size_of}
use Rattle.world_model.specs.Sheet.{PlaceSheet}
use Rattle.world_model.specs.Sound.{place_sheet_with}
use Rattle.world_model.specs.Writing.{book_put}
use Rattle.values_api.specs.Blocks.{Entry, IsEntry, given_value, input_at}
use Rattle.values_api.specs.Given.{AreGiven, IsWithinSheet, first_of, first_row, first_col, is_listed}
use Rattle.values_api.specs.Given.{value_by, value_listed}
use Rattle.values_api.specs.declared.given.Given.{Given}
use Rattle.values_api.proofs.GivenCells.{IsInside, made_inside, made_there, some_where}
use Rattle.values_api.proofs.Entering.{AreEntered, next_entered}
use Rattle.values_api.proofs.Listed.{listed_of, listed_next, still_of}

some_so : {A : Type 0} (P Q : A → Type 0) → ((x : A) → P x → Q x) → (found : Option A) → IsSomeAnd found P
    → IsSomeAnd found Q
some_so P Q so None holds = absurd holds
some_so P Q so (Some x) holds = so x holds

pub some_there : {A : Type 0} (found : Option A) (P : A → Type 0) → IsSomeAnd found P → IsSome found
some_there None P holds = absurd holds
some_there (Some x) P holds = refl

-- a value that is given is itself
given_some : (value : Input) → IsSome (given_value value) → given_value value ≡ Some value
given_some input.Skip some = absurd (false≢true some)
given_some input.Empty some = refl
given_some (input.Number number) some = refl
given_some (input.Text text) some = refl
given_some (input.Truth truth) some = refl
given_some (input.FormulaText text) some = refl

listed_or : {A : Type 0} (b : Bool) (found : Option A) (item : A) → found ≡ Some item
    → (cond b found None ≡ None) ⊎ (cond b found None ≡ Some item)
listed_or true found item is = inr is
listed_or false found item is = inl refl

module _ (given : Given) (cells : List (ℕ × ℕ)) (are : AreGiven given cells) where
  abbrev id : ℕ
  id = given.area.now.sheet

  abbrev value_for : ℕ → ℕ → Input
  value_for row col = input_at given.block.now (row - first_row given) (col - first_col given)

  module _ (k : ℕ) (below : k < length cells) where
    abbrev cell : ℕ × ℕ
    cell = get_or cells k (0, 0)

    cell_some : IsSome (value_by given cell.0 cell.1)
    cell_some =
        (some_where (is_listed cells cell.0 cell.1) (value_by given cell.0 cell.1)
        ((are.exactly cell.0 cell.1).0 (Contains-get_or cells k (0, 0) below))).1

    pub listed_inside : IsInside given cell.0 cell.1
    listed_inside = made_inside given cell.0 cell.1 cell_some

    -- the cell is there
    pub listed_there : (before now : PlaceBook) → IsWithinSheet before.sheets given
        → option_map size_of (place_sheet_with id now.sheets) ≡ option_map size_of (place_sheet_with id before.sheets)
        → IsSomeAnd (place_sheet_with id now.sheets) (λ sheet. HasPlace sheet.table cell.0 cell.1)
    listed_there before now within sizes =
        still_of (λ size. (cell.0 < size.0) × (cell.1 < size.1)) (place_sheet_with id now.sheets)
        (place_sheet_with id before.sheets) sizes
        (some_so (λ (sheet : PlaceSheet). (given.end_row ≤ sheet.table.rows) × (given.end_col ≤ sheet.table.cols))
        (λ (sheet : PlaceSheet). (cell.0 < sheet.table.rows) × (cell.1 < sheet.table.cols))
        (λ sheet ends. (inside_row sheet.table.rows ends.0, inside_col sheet.table.cols ends.1))
        (place_sheet_with id before.sheets) within)
      where
        inside_row : (rows : ℕ) → given.end_row ≤ rows → cell.0 < rows
        inside_row rows ends = let here = listed_inside.row_to in omega (arith, here, ends)

        inside_col : (cols : ℕ) → given.end_col ≤ cols → cell.1 < cols
        inside_col cols ends = let here = listed_inside.col_to in omega (arith, here, ends)

    pub value_is : value_by given cell.0 cell.1 ≡ given_value (value_for cell.0 cell.1)
    value_is = made_there given cell.0 cell.1 listed_inside

    -- the value for it is one
    pub value_given : IsSome (given_value (value_for cell.0 cell.1))
    value_given = subst IsSome value_is cell_some

    -- one cell more is entered
    pub put_next : (reads_once : IsReadOnce) (laws : UpdatesAreWrites) (sheets : Sheets)
        (before between after : PlaceBook)
        (limit : Option FormulaFault) (entry : Entry) → IsEntry sheets id (value_for cell.0 cell.1) entry
        → after ≡ book_put id cell.0 cell.1 entry.content between
        → AreEntered sheets id (listed_of (value_by given) (take k cells)) before between limit
        → AreEntered sheets id (listed_of (value_by given) (take (k + 1) cells)) before after
        (first_of limit entry.limit)
    put_next reads_once laws sheets before between after limit entry is put so_far =
        let value = value_for cell.0 cell.1 in
        let some : value_by given cell.0 cell.1 ≡ Some value = value_is ∙ given_some value value_given in
        subst (λ values. AreEntered sheets id values before after (first_of limit entry.limit))
        (listed_next (value_by given) cells k cell value below refl some)
        (next_entered reads_once sheets id laws (listed_of (value_by given) (take k cells)) before between after limit
        cell.0 cell.1 value entry
        (listed_or (is_listed (take k cells) cell.0 cell.1) (value_by given cell.0 cell.1) value some) is put so_far)

  -- behind the last cell all are entered
  pub put_all : (sheets : Sheets) (k : ℕ) (before after : PlaceBook)
      (limit : Option FormulaFault) → length cells ≤ k
      → AreEntered sheets id (listed_of (value_by given) (take k cells)) before after limit
      → AreEntered sheets id (value_listed cells given) before after limit
  put_all sheets k before after limit past entered =
      subst (λ values. AreEntered sheets id values before after limit)
      (ap (listed_of (value_by given)) (take_all k cells past)) entered
