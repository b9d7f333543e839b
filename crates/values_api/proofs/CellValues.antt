-- The value of one cell: what is stored there, or what is calculated of a formula.
use Rattle.std.proofs.Common.{◌≡◌, ℕ, Option, None, Some, [], ◌∷◌, refl, sym, subst, arith}
use Rattle.cell_value.specs.Elements.{Contains-head}
use Rattle.cell_value.specs.declared.cell.Value.{Value}
use Rattle.cell_value.specs.declared.cell.Value.TheVariants as value
use Rattle.cell_calc.specs.Book.{Cell, Place, stored}
use Rattle.cell_calc.specs.Calculated.{AreValues, IsValueIn, StoredValues, one_cell}
use Rattle.cell_calc.specs.Contents.{Contents, IsCell, IsStoredFormula}
use Rattle.cell_calc.specs.Known.{value_known}
use Rattle.ref_rewrite.specs.declared.cell_content.Content.{Content}
use Rattle.ref_rewrite.specs.declared.cell_content.Content.TheVariants as content
use Rattle.values_api.specs.Values.{plain_value, value_alone}

none_some : (value : Value) → None ≡ Some value → ⊥
none_some value e = cc

same_value : (one other : Value) → Some one ≡ Some other → one ≡ other
same_value one other e = cc

module _ (laws : StoredValues) (contents : Contents) (place : Place) where
  value_by_content : (found : Option Content) (value : Value) → contents.content place ≡ found
      → ((cell : Cell) → IsCell found cell → cell ≡ stored value) → IsValueIn contents place value
  value_by_content found value is only =
      laws contents place value (λ one is_one. only one (subst (λ held. IsCell held one) is is_one))

  -- nothing is stored
  blank_in : contents.content place ≡ None → IsValueIn contents place value.Blank
  blank_in is = value_by_content None value.Blank is (λ one is_one. is_one)

  -- something that is no formula
  plain_in : (item : Content) (told : Value) → contents.content place ≡ Some item → Some told ≡ plain_value item
      → IsValueIn contents place told
  plain_in (content.Number number) told is plain =
      subst (IsValueIn contents place) (sym (same_value told (value.Number number) plain))
      (value_by_content (Some (content.Number number)) (value.Number number) is (λ one is_one. is_one))
  plain_in (content.Text text) told is plain =
      subst (IsValueIn contents place) (sym (same_value told (value.Text text) plain))
      (value_by_content (Some (content.Text text)) (value.Text text) is (λ one is_one. is_one))
  plain_in (content.Truth truth) told is plain =
      subst (IsValueIn contents place) (sym (same_value told (value.Truth truth) plain))
      (value_by_content (Some (content.Truth truth)) (value.Truth truth) is (λ one is_one. is_one))
  plain_in (content.Formula formula) told is plain = absurd (none_some told (sym plain))

  -- either
  pub alone_in : (found : Option Content) (told : Value) → contents.content place ≡ found
      → Some told ≡ value_alone found → IsValueIn contents place told
  alone_in None told is alone =
      subst (IsValueIn contents place) (sym (same_value told value.Blank alone)) (blank_in is)
  alone_in (Some item) told is alone = plain_in item told is alone

-- what has no value by itself is a formula
formula_stored : (item : Content) → None ≡ plain_value item → IsStoredFormula (Some item)
formula_stored (content.Number number) none = absurd (none_some (value.Number number) none)
formula_stored (content.Text text) none = absurd (none_some (value.Text text) none)
formula_stored (content.Truth truth) none = absurd (none_some (value.Truth truth) none)
formula_stored (content.Formula formula) none = tt

pub formula_found : (found : Option Content) → None ≡ value_alone found → IsStoredFormula found
formula_found None none = absurd (none_some value.Blank none)
formula_found (Some item) none = formula_stored item none

-- a formula, by what is calculated of its cell alone
pub calculated_in : (contents : Contents) (sheet row column : ℕ) (told : Place → Option Value)
    → AreValues contents (one_cell sheet row column ∷ []) told
    → IsStoredFormula (contents.content (record { sheet = sheet; row = row; column = column }))
    → IsValueIn contents (record { sheet = sheet; row = row; column = column })
    (value_known told (record { sheet = sheet; row = row; column = column }))
calculated_in contents sheet row column told values formula =
    values.formulas (record { sheet = sheet; row = row; column = column }) formula (
      one_cell sheet row column,
      Contains-head (one_cell sheet row column) [],
      (refl, ((omega arith, omega arith), (omega arith, omega arith))),
    )
