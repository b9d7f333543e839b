-- Sheets whose ids and lines stay, and the lines at the places of an order.
use Rattle.std.proofs.Common.{◌≡◌, ℕ, refl, sym, ap, subst, ◌∙◌, List, [], ◌∷◌, cond, inl, inr, Bool, true, false}
use Rattle.std.specs.Prelude.{Option, None, Some, map, slice_get, ◌==◌, Contains}
use Rattle.std.specs.Option.{option_map, option_map_or}
use Rattle.std.proofs.Math.Path.{fun_ext}
use Rattle.std.proofs.lemmas.Bool.{cases_order, false≢true}
use Rattle.std.proofs.lemmas.List.Elements.{Contains-get_or}
use Rattle.std.proofs.lemmas.Option.{slice_get_within, get_or_from_slice_get}
use Rattle.grid_range.specs.Order.{IsOrder}
use Rattle.grid_range.specs.declared.axis.Axis.{Axis}
use Rattle.world_model.specs.Book.{orders_of, sheet_with}
use Rattle.world_model.specs.Sheet.{NameSheet, lines_of}

-- each sheet keeps its id and its lines
pub record KeepsLines (f : NameSheet → NameSheet) : Type 0 where
  pub id : (sheet : NameSheet) → (f sheet).id ≡ sheet.id
  pub lines : (sheet : NameSheet) (axis : Axis) → lines_of (f sheet) axis ≡ lines_of sheet axis

-- the sheet with an id, where each sheet keeps its id
module _ (f : NameSheet → NameSheet) (same_id : (sheet : NameSheet) → (f sheet).id ≡ sheet.id) where
  first_mapped : (is is' : Bool) (sheet : NameSheet) (rest rest' : Option NameSheet) → is ≡ is'
      → rest ≡ option_map f rest' → cond is (Some (f sheet)) rest ≡ option_map f (cond is' (Some sheet) rest')
  first_mapped true true sheet rest rest' same is = refl
  first_mapped true false sheet rest rest' same is = absurd (false≢true (sym same))
  first_mapped false true sheet rest rest' same is = absurd (false≢true same)
  first_mapped false false sheet rest rest' same is = is

  pub sheet_with-map : (id : ℕ) (sheets : List NameSheet)
      → sheet_with id (map f sheets) ≡ option_map f (sheet_with id sheets)
  sheet_with-map id [] = refl
  sheet_with-map id (sheet ∷ sheets) =
      first_mapped ((f sheet).id == id) (sheet.id == id) sheet (sheet_with id (map f sheets)) (sheet_with id sheets)
      (ap (λ n. n == id) (same_id sheet)) (sheet_with-map id sheets)

module _ (f : NameSheet → NameSheet) (keeps : KeepsLines f) where
  lines_stay : (found : Option NameSheet) (axis : Axis)
      → option_map_or (λ sheet. lines_of sheet axis) (option_map f found) []
      ≡ option_map_or (λ sheet. lines_of sheet axis) found []
  lines_stay None axis = refl
  lines_stay (Some sheet) axis = keeps.lines sheet axis

  pub orders_stay_same : (sheets : List NameSheet) → orders_of (map f sheets) ≡ orders_of sheets
  orders_stay_same sheets = fun_ext (λ id. fun_ext (λ axis.
      ap (λ found. option_map_or (λ sheet. lines_of sheet axis) found []) (sheet_with-map f keeps.id id sheets)
      ∙ lines_stay (sheet_with id sheets) axis))

-- the lines of a sheet that is there
pub lines_there : (sheets : List NameSheet) (id : ℕ) (axis : Axis) (sheet : NameSheet) → sheet_with id sheets
    ≡ Some sheet
    → orders_of sheets id axis ≡ lines_of sheet axis
lines_there sheets id axis sheet is = ap (λ found. option_map_or (λ sheet. lines_of sheet axis) found []) is

-- a line of an order has one place
pub line_has_one_place : (order : List ℕ) (i j n : ℕ) → IsOrder order
    → slice_get order i ≡ Some n → slice_get order j ≡ Some n → i ≡ j
line_has_one_place order i j n distinct at_i at_j = elim (cases_order i j) [
  | inl e ↦ e
  | inr apart ↦ elim apart [
    | inl below ↦ absurd (distinct i j 0 below (slice_get_within order j n at_j)
        (get_or_from_slice_get order i n 0 at_i ∙ sym (get_or_from_slice_get order j n 0 at_j)))
    | inr above ↦ absurd (distinct j i 0 above (slice_get_within order i n at_i)
        (get_or_from_slice_get order j n 0 at_j ∙ sym (get_or_from_slice_get order i n 0 at_i)))
  ]
]

-- a line of an order is one of its lines
pub listed : (order : List ℕ) (i n : ℕ) → slice_get order i ≡ Some n → Contains order n
listed order i n at_i = subst (Contains order) (get_or_from_slice_get order i n 0 at_i)
    (Contains-get_or order i 0 (slice_get_within order i n at_i))
