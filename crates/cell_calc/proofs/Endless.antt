-- Where a walk of as many steps as there are formulas starts, walks of every length start: it comes back to
-- a cell.
use Rattle.std.proofs.Common.{◌≡◌, ℕ, zero, suc, ◌<◌, ◌≤◌, ◌==◌, ◌⊎◌, Bool, true, false, not, ◌&&◌, cond, List, length, filter, Contains, Option, arith, refl, ap, sym, subst, ◌∙◌, inl, inr}
use Rattle.std.proofs.lemmas.Bool.{and_parts, cases_Bool}
use Rattle.std.proofs.lemmas.Bool.Decides.{nat_tests}
use Rattle.std.proofs.lemmas.List.Filters.{length-filter_both}
use Rattle.cell_value.specs.declared.cell.Value.TheVariants.{Blank}
use Rattle.cell_value.specs.Elements.{Contains-filter}
use Rattle.grid_range.specs.declared.area.Area.{Area}
use Rattle.cell_calc.specs.Book.{Book, Place, Cell, stored, formula, IsFormula}
use Rattle.cell_calc.specs.CellValue.{Reads, Walks, CountsAreBounds}

-- equal places
abbrev is_place : Place → Place → Bool
is_place one other = one.sheet == other.sheet && (one.row == other.row && one.column == other.column)

equal_numbers : (one other : ℕ) → (one == other) ≡ true → one ≡ other
equal_numbers one other is = grind (arith, nat_tests)

equals_itself : (number : ℕ) → (number == number) ≡ true
equals_itself number = grind (arith, nat_tests)

same_place : (one other : Place) → is_place one other ≡ true → one ≡ other
same_place one other is =
    let parts = and_parts (one.sheet == other.sheet) (one.row == other.row && one.column == other.column) is in
    let lines = and_parts (one.row == other.row) (one.column == other.column) parts.1 in
    ap (λ sheet. record { sheet = sheet; row = one.row; column = one.column })
    (equal_numbers one.sheet other.sheet parts.0)
    ∙ ap (λ row. record { sheet = other.sheet; row = row; column = one.column })
    (equal_numbers one.row other.row lines.0)
    ∙ ap (λ column. record { sheet = other.sheet; row = other.row; column = column })
    (equal_numbers one.column other.column lines.1)

is_itself : (place : Place) → is_place place place ≡ true
is_itself place =
    ap (λ b. b && (place.row == place.row && place.column == place.column)) (equals_itself place.sheet)
    ∙ ap (λ b. b && (place.column == place.column)) (equals_itself place.row) ∙ equals_itself place.column

-- a cell that is emptied or not
abbrev emptied : Bool → Cell → Cell
emptied empty cell = cond empty (stored Blank) cell

formula_before : (empty : Bool) (cell : Cell) → IsFormula (emptied empty cell) → IsFormula cell
formula_before true cell is = absurd is
formula_before false cell is = is

reads_before : (named : List ℕ → Option Area) (empty : Bool) (cell : Cell) (place : Place)
    → Reads named (emptied empty cell) place → Reads named cell place
reads_before named true cell place reads = absurd reads
reads_before named false cell place reads = reads

reads_as_formula : (named : List ℕ → Option Area) (cell : Cell) (place : Place) → Reads named cell place
    → IsFormula cell
reads_as_formula named (stored value) place reads = absurd reads
reads_as_formula named (formula tree) place reads = tt

-- the spreadsheet with one cell emptied
abbrev without : Place → Book → Book
without place book = record {
  cells = λ other. emptied (is_place place other) (book.cells other);
  size = book.size;
  named = book.named;
}

-- a walk of so many steps from a place to another
abbrev Leads : Book → ℕ → Place → Place → Type 0
Leads book zero one other = one ≡ other
Leads book (suc steps) one other = (next : Place) × Reads book.named (book.cells one) next × Leads book steps next other

module _ (book : Book) where
  pub shorter : (steps : ℕ) (place : Place) → Walks book (suc steps) place → Walks book steps place
  shorter zero place (next, reads, rest) = reads_as_formula book.named (book.cells place) next reads
  shorter (suc steps) place (next, reads, rest) = (next, reads, shorter steps next rest)

  -- a walk that leads to the start of another
  along : (steps length : ℕ) (one other : Place) → Leads book steps one other → Walks book length other
      → Walks book length one
  along zero length one other same walk = subst (Walks book length) (sym same) walk
  along (suc steps) length one other (next, reads, leads) walk =
      shorter length one (next, reads, along steps length next other leads walk)

  -- one that comes back goes on
  round : (steps : ℕ) (place next : Place) → Reads book.named (book.cells place) next → Leads book steps next place
      → (length : ℕ) → Walks book length place
  round steps place next reads leads zero = reads_as_formula book.named (book.cells place) next reads
  round steps place next reads leads (suc length) =
      (next, reads, along steps length next place leads (round steps place next reads leads length))

module _ (book : Book) (gone : Place) where
  without_more : (steps : ℕ) (place : Place) → Walks (without gone book) steps place → Walks book steps place
  without_more zero place walk = formula_before (is_place gone place) (book.cells place) walk
  without_more (suc steps) place (next, reads, rest) =
      (next, reads_before book.named (is_place gone place) (book.cells place) next reads, without_more steps next rest)

  -- a walk keeps away from a place or leads to it
  split : (steps : ℕ) (place : Place) → Walks book steps place
      → Walks (without gone book) steps place ⊎ ((count : ℕ) × Leads book count place gone)
  split zero place walk =
      elim (cases_Bool (is_place gone place)) [
        | inl is ↦ inr (0, sym (same_place gone place is))
        | inr other ↦ inl (subst (λ b. IsFormula (emptied b (book.cells place))) (sym other) walk)
      ]
  split (suc steps) place (next, reads, rest) =
      elim (cases_Bool (is_place gone place)) [
        | inl is ↦ inr (0, sym (same_place gone place is))
        | inr other ↦
            elim (split steps next rest) [
              | inl away ↦
                  inl (next, subst (λ b. Reads book.named (emptied b (book.cells place)) next) (sym other) reads, away)
              | inr (count, leads) ↦ inr (suc count, (next, reads, leads))
            ]
      ]

-- the list without a place
abbrev others : Place → List Place → List Place
others place places = filter (λ other. not (is_place place other)) places

has_some : (places : List Place) (place : Place) → Contains places place → 0 < length places
has_some places place (at, within, is) = omega (arith, within)

fewer : (places : List Place) (place : Place) → Contains places place → length (others place places) < length places
fewer places place has =
    let some = has_some (filter (is_place place) places) place
    (Contains-filter (is_place place) places place has (is_itself place)) in
    let all = length-filter_both (is_place place) (λ other. not (is_place place other)) (λ other. refl) places in
    omega (arith, some, all)

abbrev AreAll : Book → List Place → Type 0
AreAll book places = (place : Place) → IsFormula (book.cells place) → Contains places place

-- without a cell the others are all
all_others : (book : Book) (places : List Place) (gone : Place) → AreAll book places
    → AreAll (without gone book) (others gone places)
all_others book places gone all place is =
    elim (cases_Bool (is_place gone place)) [
      | inl same ↦ absurd (subst (λ b. IsFormula (emptied b (book.cells place))) same is)
      | inr other ↦
          Contains-filter (λ p. not (is_place gone p)) places place
          (all place (formula_before (is_place gone place) (book.cells place) is)) (ap not other)
    ]

pub endless : (count : ℕ) (book : Book) (places : List Place) → AreAll book places → length places ≤ count
    → (place : Place) → Walks book count place → (steps : ℕ) → Walks book steps place
endless zero book places all few place walk =
    let some = has_some places place (all place walk) in absurd (omega (arith, some, few))
endless (suc count) book places all few place (next, reads, rest) =
    let is = reads_as_formula book.named (book.cells place) next reads in
    elim (split book place count next rest) [
      | inl away ↦
          let less = fewer places place (all place is) in
          let later : (steps : ℕ) → Walks (without place book) steps next =
          endless count (without place book) (others place places) (all_others book places place all)
          (omega (arith, less, few)) next away in
          λ (steps : ℕ). shorter book steps place (next, reads, without_more book place steps next (later steps))
      | inr (number, leads) ↦ round book number place next reads leads
    ]

pub counts_are_bounds : CountsAreBounds
counts_are_bounds book place value is places are = record {
  endless = λ walk. is.endless (endless (length places) book places are.all (omega arith) place walk);
  ends = λ none. is.ends (length places) none;
}
