-- What values make of the cells of a sheet: for each value there is an entry, whose references are to what is there. It
-- can't be that one has none, since a formula's text has a reading.
use Rattle.std.proofs.Common.{◌≡◌, ℕ, zero, suc, List, [], ◌∷◌, get_or, refl, cond, Bool, true, false}
use Rattle.std.specs.Prelude.{Option, Some, None, IfSome}
use Rattle.std.specs.List.{AllZip}
use Rattle.cell_value.specs.declared.entered.Input.{Input}
use Rattle.cell_value.specs.declared.entered.Input.TheVariants as input
use Rattle.ref_rewrite.specs.declared.cell_content.Content.TheVariants as content
use Rattle.formula_reader.specs.Reads.{HasReading}
use Rattle.world_model.specs.Book.{PlaceBook}
use Rattle.world_model.specs.Sheet.{PlaceSheet}
use Rattle.world_model.specs.Sound.{IsContentWithin, IsSound, place_sheet_with}
use Rattle.values_api.specs.Blocks.{Entry, IsEntryOf, given_value, plain}
use Rattle.values_api.specs.Shown.{cell_along}
use Rattle.values_api.specs.Sheets.{formula_sheets}
use Rattle.answered_calls.proofs.KnownReads.{ReadsWithin}

-- ---- lists

-- for each of a list there is one, where it can't be that one has none
module _ {A B : Type 0} (Is : A → B → Type 0) where
  some_zipped : ((x : A) → ¬ ((y : B) → ¬ (Is x y))) → (xs : List A) → ¬ ((ys : List B) → ¬ (AllZip Is xs ys))
  some_zipped each [] none = none [] tt
  some_zipped each (x ∷ xs) none =
      each x (λ y is. some_zipped each xs (λ ys are. none (y ∷ ys) (is, are)))

  -- place by place, and behind the last ones
  zipped_at : (d : A) (e : B) → Is d e → (xs : List A) (ys : List B) → AllZip Is xs ys → (k : ℕ)
      → Is (get_or xs k d) (get_or ys k e)
  zipped_at d e is [] [] are k = is
  zipped_at d e is [] (y ∷ ys) are k = absurd are
  zipped_at d e is (x ∷ xs) [] are k = absurd are
  zipped_at d e is (x ∷ xs) (y ∷ ys) are zero = are.0
  zipped_at d e is (x ∷ xs) (y ∷ ys) are (suc k) = zipped_at d e is xs ys are.1 k

-- ---- one value

module _ (book : PlaceBook) (here : ℕ) where
  -- what a value makes of its cell, and what that refers to is there
  pub record IsEntered (value : Option Input) (entry : Option Entry) : Type 0 where
    pub is : IsEntryOf (formula_sheets book.sheets) here value entry
    pub within : IfSome entry (λ one. IfSome one.content (IsContentWithin book.sheets))

  abbrev pub IsEnteredAs : Input → Option Entry → Type 0
  IsEnteredAs value = IsEntered (given_value value)

  -- a value that is for a place, and one that isn't
  pub entered_if : (b : Bool) (value : Input) (entry : Option Entry) → IsEnteredAs value entry
      → IsEntered (cond b (given_value value) None) (cond b entry None)
  entered_if true value entry is = is
  entered_if false value entry is = record { is = refl; within = tt }

  module _ (reading : HasReading) (within : ReadsWithin) (sound : IsSound book) (sheet : PlaceSheet)
      (there : place_sheet_with here book.sheets ≡ Some sheet) where
    some_entered : (value : Input) → ¬ ((entry : Option Entry) → ¬ (IsEnteredAs value entry))
    some_entered input.Skip none = none None (record { is = refl; within = tt })
    some_entered input.Empty none = none (Some (plain None)) (record { is = refl; within = tt })
    some_entered (input.Number number) none =
        none (Some (plain (Some (content.Number number)))) (record { is = refl; within = tt })
    some_entered (input.Text text) none =
        none (Some (plain (Some (content.Text text)))) (record { is = refl; within = tt })
    some_entered (input.Truth truth) none =
        none (Some (plain (Some (content.Truth truth)))) (record { is = refl; within = tt })
    some_entered (input.FormulaText text) none = reading (formula_sheets book.sheets) here text (λ formula limit read.
        none (Some (record { content = Some (content.Formula formula); limit = limit })) (record {
          is = record { formula = formula; content_is = refl; is_read = read };
          within = within book here sheet text formula limit sound there read;
        }))

    -- ---- values by lines

    abbrev pub AreEnteredAs : List (List Input) → List (List (Option Entry)) → Type 0
    AreEnteredAs = AllZip (AllZip IsEnteredAs)

    pub some_lines : (lines : List (List Input))
        → ¬ ((entries : List (List (Option Entry))) → ¬ (AreEnteredAs lines entries))
    some_lines = some_zipped (AllZip IsEnteredAs) (some_zipped IsEnteredAs some_entered)

  -- the value for a cell, and its entry
  abbrev pub value_along : Bool → List (List Input) → ℕ → ℕ → Input
  value_along columns_first lines =
      cell_along columns_first (λ line place. get_or (get_or lines line []) place input.Skip)

  abbrev pub entry_along : Bool → List (List (Option Entry)) → ℕ → ℕ → Option Entry
  entry_along columns_first entries =
      cell_along columns_first (λ line place. get_or (get_or entries line []) place None)

  pub entered_along : (columns_first : Bool) (lines : List (List Input)) (entries : List (List (Option Entry)))
      → AllZip (AllZip IsEnteredAs) lines entries → (row col : ℕ)
      → IsEnteredAs (value_along columns_first lines row col) (entry_along columns_first entries row col)
  entered_along columns_first lines entries are = by_lines columns_first
    where
      at : (line place : ℕ)
          → IsEnteredAs (get_or (get_or lines line []) place input.Skip) (get_or (get_or entries line []) place None)
      at line place =
          zipped_at IsEnteredAs input.Skip None (record { is = refl; within = tt }) (get_or lines line [])
          (get_or entries line []) (zipped_at (AllZip IsEnteredAs) [] [] tt lines entries are line) place

      by_lines : (b : Bool) (row col : ℕ)
          → IsEnteredAs (value_along b lines row col) (entry_along b entries row col)
      by_lines true row col = at col row
      by_lines false row col = at row col
