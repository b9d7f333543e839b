-- One more mark, and what else it changes: nothing.
use Rattle.std.proofs.Common.{◌≡◌, ◌⊎◌, ℕ, ◌==◌, ◌&&◌, true, cond, Option, Some, None, refl, ap, sym, subst, ◌∙◌, inl, inr, arith}
use Rattle.std.specs.Option.{IsSome}
use Rattle.std.proofs.lemmas.Bool.{and_parts, cases_Bool}
use Rattle.std.proofs.lemmas.Bool.Decides.{nat_tests}
use Rattle.cell_value.specs.declared.cell.Value.{Value}
use Rattle.cell_calc.specs.declared.mark.Mark.{Mark}
use Rattle.cell_calc.specs.declared.mark.Mark.TheVariants.{Open, Endless, Known}
use Rattle.cell_calc.specs.Book.{Place}
use Rattle.cell_calc.specs.Marks.{is_place, IsMarked, IsKnown}
use Rattle.cell_calc.specs.Walk.{Stay}

equal_numbers : (one other : ℕ) → (one == other) ≡ true → one ≡ other
equal_numbers one other is = grind (arith, nat_tests)

equals_itself : (number : ℕ) → (number == number) ≡ true
equals_itself number = grind (arith, nat_tests)

pub same_place : (one other : Place) → is_place one other ≡ true → one ≡ other
same_place one other is =
    let parts = and_parts (one.sheet == other.sheet && one.row == other.row) (one.column == other.column) is in
    let lines = and_parts (one.sheet == other.sheet) (one.row == other.row) parts.0 in
    ap (λ sheet. record { sheet = sheet; row = one.row; column = one.column })
    (equal_numbers one.sheet other.sheet lines.0)
    ∙ ap (λ row. record { sheet = other.sheet; row = row; column = one.column })
    (equal_numbers one.row other.row lines.1)
    ∙ ap (λ column. record { sheet = other.sheet; row = other.row; column = column })
    (equal_numbers one.column other.column parts.1)

pub is_itself : (place : Place) → is_place place place ≡ true
is_itself place =
    ap (λ b. (b && place.row == place.row) && place.column == place.column) (equals_itself place.sheet)
    ∙ ap (λ b. b && place.column == place.column) (equals_itself place.row) ∙ equals_itself place.column

pub some_is : {A : Type 0} → (o : Option A) (x : A) → o ≡ Some x → IsSome o
some_is o x is = subst IsSome (sym is) refl

module _ (before : Place → Option Mark) (place : Place) (mark : Mark) (after : Place → Option Mark)
    (marked : IsMarked before place mark after) where
  pub here : after place ≡ Some mark
  here = marked place ∙ ap (λ b. cond b (Some mark) (before place)) (is_itself place)

  -- a place is that one, or keeps its mark
  pub cases : (other : Place) → ((place ≡ other) × (after other ≡ Some mark)) ⊎ (after other ≡ before other)
  cases other = elim (cases_Bool (is_place place other)) [
    | inl is ↦ inl (same_place place other is, marked other ∙ ap (λ b. cond b (Some mark) (before other)) is)
    | inr apart ↦ inr (marked other ∙ ap (λ b. cond b (Some mark) (before other)) apart)
  ]

  pub mark_stays : Stay before after
  mark_stays other some = elim (cases other) [
    | inl (same, is) ↦ some_is (after other) mark is
    | inr same ↦ subst IsSome (sym same) some
  ]

  -- what is known stays known, where the new mark tells a value too
  pub known_stays : IsKnown (Some mark) → (other : Place) → IsKnown (before other) → IsKnown (after other)
  known_stays known other was = elim (cases other) [
    | inl (same, is) ↦ subst IsKnown (sym is) known
    | inr same ↦ subst IsKnown (sym same) was
  ]

  -- and where the place had no mark
  pub known_apart : before place ≡ None → (other : Place) → IsKnown (before other) → IsKnown (after other)
  known_apart none other was = elim (cases other) [
    | inl (same, is) ↦ absurd (subst IsKnown (ap before (sym same) ∙ none) was)
    | inr same ↦ subst IsKnown (sym same) was
  ]

-- the value of a known cell
pub value_known_of : (mark : Option Mark) → IsKnown mark → (value : Value) × (mark ≡ Some (Known value))
value_known_of None known = absurd known
value_known_of (Some Open) known = absurd known
value_known_of (Some Endless) known = absurd known
value_known_of (Some (Known value)) known = (value, refl)
