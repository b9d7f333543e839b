-- The cells of an area by rows, and those among them where something is stored.
use Rattle.std.proofs.Common.{◌≡◌, ℕ, zero, suc, ◌+◌, ◌-◌, ◌<◌, ◌≤◌, inl, inr, Bool, true, false, cond, List, [], ◌∷◌, ◌++◌, map, refl, ap, sym, subst, ◌∙◌, arith, Contains}
use Rattle.std.specs.Prelude.{flat_map, filter}
use Rattle.std.specs.List.{range_with_len}
use Rattle.std.specs.List.Sorted.{IsStrictlySortedBy}
use Rattle.std.specs.declared.cmp.Ordering.{Ordering}
use Rattle.std.specs.declared.cmp.Ordering.TheVariants.{Less, Equal}
use Rattle.std.specs.Ordering.{nat_cmp, ordering_then, is_lt}
use Rattle.std.specs.Cmp.{nat_cmp_is}
use Rattle.std.proofs.lemmas.Bool.{false≢true}
use Rattle.std.proofs.lemmas.Cmp.{then_total, on_total, nat_cmp_total}
use Rattle.std.proofs.lemmas.Grind.{flat_map-append}
use Rattle.std.proofs.lemmas.List.Folds.{flat_map-map}
use Rattle.std.proofs.lemmas.List.FromFn.{length-range_with_len, get_or-range_with_len}
use Rattle.std.proofs.lemmas.List.Elements.{Contains-append_left, Contains-append_right, Contains-append_cases}
use Rattle.cell_value.specs.Elements.{nothing_in, Contains-head, Contains-cons, Contains-cons_cases, Contains-map, Contains-map_from, each_from, from_each}
use Rattle.grid_range.specs.Area.{by_rows}

-- the order of cells by rows
nat_less : (one other : ℕ) → one < other → nat_cmp one other ≡ Less
nat_less one other less = sym (nat_cmp_is one other Less less)

nat_same : (one : ℕ) → nat_cmp one one ≡ Equal
nat_same one = sym (nat_cmp_is one one Equal refl)

row_below : (r s c d : ℕ) → r < s → by_rows (r, c) (s, d) ≡ Less
row_below r s c d less = ap (λ o. ordering_then o (nat_cmp c d)) (nat_less r s less)

cell_beside : (r c d : ℕ) → c < d → by_rows (r, c) (r, d) ≡ Less
cell_beside r c d less = ap (λ o. ordering_then o (nat_cmp c d)) (nat_same r) ∙ nat_less c d less

pub never_below : (p : ℕ × ℕ) → by_rows p p ≡ Less → ⊥
never_below p is =
    let same : by_rows p p ≡ Equal = ap (λ o. ordering_then o (nat_cmp p.1 p.1)) (nat_same p.0) ∙ nat_same p.1 in
    false≢true (ap is_lt (sym same ∙ is))

pub below_on : (p q r : ℕ × ℕ) → by_rows p q ≡ Less → by_rows q r ≡ Less → by_rows p r ≡ Less
below_on =
    (then_total (on_total (λ (p : ℕ × ℕ). p.0) nat_cmp_total) (on_total (λ (p : ℕ × ℕ). p.1) nat_cmp_total)).trans

-- lines from one on
pub range_has : (first count line : ℕ) → first ≤ line → line < first + count
    → Contains (range_with_len first count) line
range_has first count line from to = (
  line - first,
  subst (λ l. line - first < l) (sym (length-range_with_len first count)) (omega (arith, from, to)),
  get_or-range_with_len first count (line - first) line (omega (arith, from, to)) ∙ omega (arith, from),
)

pub range_only : (first count line : ℕ) → Contains (range_with_len first count) line → (first ≤ line)
    × (line < first + count)
range_only first zero line has = absurd (nothing_in line has)
range_only first (suc count) line has =
    elim (Contains-cons_cases first line (range_with_len (first + 1) count) has) [
      | inl is ↦ (omega (arith, is), omega (arith, is))
      | inr later ↦
          let rest = range_only (first + 1) count line later in
          (omega (arith, rest.0), omega (arith, rest.1))
    ]

-- the cells of a row, and of rows
abbrev pub beside : ℕ → List ℕ → List (ℕ × ℕ)
beside row columns = map (λ column. (row, column)) columns

abbrev pub by_row : List ℕ → List ℕ → List (ℕ × ℕ)
by_row rows columns = flat_map (λ row. beside row columns) rows

pub cells_have : (rows columns : List ℕ) (row column : ℕ) → Contains rows row → Contains columns column
    → Contains (by_row rows columns) (row, column)
cells_have [] columns row column in_rows in_columns = absurd (nothing_in row in_rows)
cells_have (r ∷ rows) columns row column in_rows in_columns =
    elim (Contains-cons_cases r row rows in_rows) [
      | inl is ↦
          Contains-append_left (beside r columns) (by_row rows columns) (row, column)
          (subst (λ x. Contains (beside x columns) (row, column)) (sym is)
          (Contains-map (λ c. (row, c)) columns column in_columns))
      | inr later ↦
          Contains-append_right (beside r columns) (by_row rows columns) (row, column)
          (cells_have rows columns row column later in_columns)
    ]

beside_only : (row : ℕ) (columns : List ℕ) (cell : ℕ × ℕ) → Contains (beside row columns) cell
    → (row ≡ cell.0) × Contains columns cell.1
beside_only row columns cell has =
    let found = Contains-map_from (λ c. (row, c)) columns cell has in
    (ap (λ p. p.0) found.2, subst (Contains columns) (ap (λ p. p.1) found.2) found.1)

pub cells_only : (rows columns : List ℕ) (cell : ℕ × ℕ) → Contains (by_row rows columns) cell
    → Contains rows cell.0 × Contains columns cell.1
cells_only [] columns cell has = absurd (nothing_in cell has)
cells_only (r ∷ rows) columns cell has =
    elim (Contains-append_cases (beside r columns) (by_row rows columns) cell has) [
      | inl here ↦
          let own = beside_only r columns cell here in
          (subst (Contains (r ∷ rows)) own.0 (Contains-head r rows), own.1)
      | inr later ↦
          let own = cells_only rows columns cell later in
          (Contains-cons r cell.0 rows own.0, own.1)
    ]

-- in order by rows
sorted_append : {K : Type 0} (c : K → K → Ordering) (xs ys : List K) → IsStrictlySortedBy c xs → IsStrictlySortedBy c ys
    → ((x y : K) → Contains xs x → Contains ys y → c x y ≡ Less) → IsStrictlySortedBy c (xs ++ ys)
unfolding IsStrictlySortedBy
sorted_append c [] ys first second across = second
sorted_append c (x ∷ xs) ys first second across = (
  each_from (λ y. c x y ≡ Less) (xs ++ ys) (λ y has. elim (Contains-append_cases xs ys y has) [
    | inl here ↦ from_each (λ z. c x z ≡ Less) xs first.0 y here
    | inr later ↦ across x y (Contains-head x xs) later
  ]),
  sorted_append c xs ys first.1 second (λ z y in_xs in_ys. across z y (Contains-cons x z xs in_xs) in_ys),
)

row_sorted : (row first count : ℕ) → IsStrictlySortedBy by_rows (beside row (range_with_len first count))
unfolding IsStrictlySortedBy
row_sorted row first zero = tt
row_sorted row first (suc count) = (
  each_from (λ cell. by_rows (row, first) cell ≡ Less) (beside row (range_with_len (first + 1) count)) (λ cell has.
      let own = beside_only row (range_with_len (first + 1) count) cell has in
      let behind = range_only (first + 1) count cell.1 own.1 in
      subst (λ r. by_rows (row, first) (r, cell.1) ≡ Less) own.0
      (cell_beside row first cell.1 (omega (arith, behind.0)))),
  row_sorted row (first + 1) count,
)

pub cells_sorted : (row rows column columns : ℕ)
    → IsStrictlySortedBy by_rows (by_row (range_with_len row rows) (range_with_len column columns))
unfolding IsStrictlySortedBy
cells_sorted row zero column columns = tt
cells_sorted row (suc rows) column columns =
    let all = range_with_len column columns in
    sorted_append by_rows (beside row all) (by_row (range_with_len (row + 1) rows) all)
    (row_sorted row column columns) (cells_sorted (row + 1) rows column columns)
    (λ one other here later.
    let own = beside_only row all one here in
    let behind = range_only (row + 1) rows other.0 (cells_only (range_with_len (row + 1) rows) all other later).0 in
    row_below one.0 other.0 one.1 other.1 (omega (arith, own.0, behind.0)))

-- what is made of each that passes a test, where nothing is made of the others
pub kept : {X A : Type 0} (f g : X → List A) (test : X → Bool) → ((x : X) → cond (test x) (f x) [] ≡ g x)
    → (xs : List X)
    → flat_map f (filter test xs) ≡ flat_map g xs
kept f g test same [] = refl
kept f g test same (x ∷ xs) =
    let rest = filter test xs in
    (elim (test x) as (λ b. flat_map f (cond b (x ∷ rest) rest) ≡ cond b (f x) [] ++ flat_map f rest) [
      | true ↦
          refl
      | false ↦ refl
    ])
    ∙ ap (λ l. l ++ flat_map f rest) (same x) ∙ ap (λ l. g x ++ l) (kept f g test same xs)

-- row by row
pub made_by_row : {A : Type 0} (f : ℕ × ℕ → List A) (rows columns : List ℕ)
    → flat_map f (by_row rows columns) ≡ flat_map (λ row. flat_map (λ column. f (row, column)) columns) rows
made_by_row f [] columns = refl
made_by_row f (row ∷ rows) columns =
    flat_map-append f (beside row columns) (by_row rows columns)
    ∙ ap (λ l. l ++ flat_map f (by_row rows columns)) (flat_map-map f (λ column. (row, column)) columns)
    ∙ ap (λ l. flat_map (λ column. f (row, column)) columns ++ l) (made_by_row f rows columns)
