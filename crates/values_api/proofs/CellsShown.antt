-- What cells without a formula show, and the values of the cells of an area.
use Rattle.std.proofs.Common.{◌≡◌, ℕ, ℤ, Bool, List, [], ◌∷◌, Option, Some, None, refl, ap, sym, subst, ◌∙◌}
use Rattle.std.specs.Option.{option_and_then}
use Rattle.cell_value.specs.Elements.{Contains-head}
use Rattle.cell_value.specs.declared.cell.Cell.TheVariants as cell
use Rattle.cell_value.specs.declared.cell.Render.{Render}
use Rattle.cell_value.specs.declared.cell.Render.TheVariants.{Formatted, Unformatted, Formula}
use Rattle.cell_value.specs.declared.cell.Value.{Value}
use Rattle.cell_value.specs.declared.cell.Value.TheVariants as value
use Rattle.grid_range.specs.Area.{Holds}
use Rattle.grid_range.specs.declared.area.Area.{Area}
use Rattle.cell_store.specs.Table.{item_at}
use Rattle.ref_rewrite.specs.declared.cell_content.Content.{Content}
use Rattle.ref_rewrite.specs.declared.cell_content.Content.TheVariants as content
use Rattle.formula_reader.specs.Sheets.{Sheets}
use Rattle.cell_calc.specs.Book.{Place, Cell, stored}
use Rattle.cell_calc.specs.Calculated.{AreValues, IsValueIn, StoredValues}
use Rattle.cell_calc.specs.Contents.{IsCell, IsStoredFormula}
use Rattle.cell_calc.specs.Known.{value_known}
use Rattle.world_model.specs.Book.{PlaceBook}
use Rattle.world_model.specs.Sheet.{PlaceSheet}
use Rattle.world_model.specs.Sound.{place_sheet_with}
use Rattle.values_api.specs.Reading.{value_told}
use Rattle.values_api.specs.Sheets.{stored_in}
use Rattle.values_api.specs.Shown.{AreShownValues, TellsShown, cell_shown, number_shown, truth_shown, value_by}

module _ (sheets : Sheets) where
  pub none_shows : (render : Render) → cell.Text [] ≡ cell_shown sheets render None value.Blank
  none_shows Formatted = refl
  none_shows Unformatted = refl
  none_shows Formula = refl

  pub text_shows : (render : Render) (text : List ℕ)
      → cell.Text text ≡ cell_shown sheets render (Some (content.Text text)) (value.Text text)
  text_shows Formatted text = refl
  text_shows Unformatted text = refl
  text_shows Formula text = refl

  pub number_shows : (render : Render) (number : ℤ)
      → number_shown render number ≡ cell_shown sheets render (Some (content.Number number)) (value.Number number)
  number_shows Formatted number = refl
  number_shows Unformatted number = refl
  number_shows Formula number = refl

  pub truth_shows : (render : Render) (truth : Bool)
      → truth_shown render truth ≡ cell_shown sheets render (Some (content.Truth truth)) (value.Truth truth)
  truth_shows Formatted truth = refl
  truth_shows Unformatted truth = refl
  truth_shows Formula truth = refl

-- what is stored, and a formula's value, are the values of an area's cells
module _ (laws : StoredValues) (book : PlaceBook) (area : Area) (sheet : PlaceSheet)
    (there : place_sheet_with area.sheet book.sheets ≡ Some sheet) (told : Place → Option Value) where
  abbrev place_at : ℕ → ℕ → Place
  place_at row col = record { sheet = area.sheet; row = row; column = col }

  stored_there : (row col : ℕ) → (stored_in book).content (place_at row col) ≡ item_at sheet.table row col
  stored_there row col = ap (option_and_then (λ (one : PlaceSheet). item_at one.table row col)) there

  -- without a formula
  plain_value : (row col : ℕ) (found : Option Content) (value : Value) → item_at sheet.table row col ≡ found
      → ((cell : Cell) → IsCell found cell → cell ≡ stored value) → IsValueIn (stored_in book) (place_at row col) value
  plain_value row col found value is only =
      laws (stored_in book) (place_at row col) value
      (λ one is_one. only one (subst (λ o. IsCell o one) (stored_there row col ∙ is) is_one))

  value_of : AreValues (stored_in book) (area ∷ []) told → (row col : ℕ) → Holds area row col
      → (found : Option Content) → item_at sheet.table row col ≡ found
      → IsValueIn (stored_in book) (place_at row col) (value_by found (value_known told (place_at row col)))
  value_of values row col holds None is = plain_value row col None value.Blank is (λ one is_one. is_one)
  value_of values row col holds (Some (content.Number n)) is =
      plain_value row col (Some (content.Number n)) (value.Number n) is (λ one is_one. is_one)
  value_of values row col holds (Some (content.Text t)) is =
      plain_value row col (Some (content.Text t)) (value.Text t) is (λ one is_one. is_one)
  value_of values row col holds (Some (content.Truth b)) is =
      plain_value row col (Some (content.Truth b)) (value.Truth b) is (λ one is_one. is_one)
  value_of values row col holds (Some (content.Formula f)) is =
      values.formulas (place_at row col) (subst IsStoredFormula (sym (stored_there row col ∙ is)) tt)
      (area, Contains-head area [], (refl, holds))

  pub values_shown : (render : Render) → TellsShown render book area told
      → AreShownValues render book area (value_told area sheet told)
  values_shown Formatted values = λ row col holds. value_of values row col holds (item_at sheet.table row col) refl
  values_shown Unformatted values = λ row col holds. value_of values row col holds (item_at sheet.table row col) refl
  values_shown Formula values = tt
