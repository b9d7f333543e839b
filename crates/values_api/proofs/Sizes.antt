-- Sums over the sheets of a spreadsheet one of which gets another size.
use Rattle.std.proofs.Common.{mul-le-mul_left, ◌≡◌, ◌≢◌, ℕ, suc, ◌+◌, ◌*◌, ◌<◌, ◌≤◌, List, [], ◌∷◌, get_or, refl, sym, subst, ap, ◌∙◌, cond, Bool, true, false, arith}
use Rattle.std.specs.Prelude.{Some, None, ◌==◌, nat_lt}
use Rattle.std.specs.List.{All, AllPairs, AllZip, sum_by}
use Rattle.std.proofs.lemmas.Bool.{false≢true, eqb-true, eq-eqb, ne_eqb, le-ltb, lt-ltb, ltb-false}
use Rattle.std.proofs.lemmas.List.Sums.{sum_by-cons, sum_by-le-sum_by}
use Rattle.grid_range.specs.declared.axis.Axis.{Axis}
use Rattle.grid_range.specs.declared.axis.Axis.TheVariants.{Rows, Columns}
use Rattle.grid_range.specs.declared.change.Change.TheVariants.{Insert}
use Rattle.cell_store.specs.Moved.{size_after}
use Rattle.world_model.specs.Laws.{size_of}
use Rattle.world_model.specs.Sheet.{PlaceSheet}
use Rattle.world_model.specs.Sound.{most_on, most_places, place_sheet_with}
use Rattle.dimension_ops.specs.Broken.{first_passed}
use Rattle.dimension_ops.specs.Lines.{passes_size, places_changed, size_changed}
use Rattle.dimension_ops.specs.declared.rule.Limit.TheVariants as limit
use Rattle.values_api.specs.declared.appending.Added.{Added}
use Rattle.values_api.specs.Appends.{places_added, size_added}
use Rattle.values_api.specs.Appending.{HasSizeAdded}

none_some : {A : Type 0} (x : A) → None ≡ Some x → ⊥
none_some x e = cc

one_some : {A : Type 0} (x y : A) → Some x ≡ Some y → x ≡ y
one_some x y e = cc

-- the sheet that is found has the id
pub found_id : (id : ℕ) (sheets : List PlaceSheet) (own : PlaceSheet) → place_sheet_with id sheets ≡ Some own
    → own.id ≡ id
found_id id [] own is = absurd (none_some own is)
found_id id (x ∷ xs) own is = by_test (x.id == id) refl (found_id id xs own) is
  where
    by_test : (b : Bool) → (x.id == id) ≡ b → (place_sheet_with id xs ≡ Some own → own.id ≡ id)
        → cond b (Some x) (place_sheet_with id xs) ≡ Some own → own.id ≡ id
    by_test true here later found = subst (λ (s : PlaceSheet). s.id ≡ id) (one_some x own found) (eqb-true x.id id here)
    by_test false not_here later found = later found

-- ---- one sheet is changed

changed_head : (sf sg fx gx rf rg : ℕ) → sf ≡ fx + rf → sg ≡ gx + rg → rf ≡ rg → sg + fx ≡ sf + gx
changed_head sf sg fx gx rf rg one other same = omega arith

changed_tail : (sf sg fx gx rf rg fo go : ℕ) → sf ≡ fx + rf → sg ≡ gx + rg → fx ≡ gx → rg + fo ≡ rf + go → sg
    + fo ≡ sf + go
changed_tail sf sg fx gx rf rg fo go one other same rest = omega arith

module _ (f g : PlaceSheet → ℕ) (id : ℕ)
    (apart : (sheet : PlaceSheet) → (sheet.id == id) ≡ false → f sheet ≡ g sheet) where
  same_sum : (sheets : List PlaceSheet) → All (λ sheet. (sheet.id == id) ≡ false) sheets → sum_by f sheets
      ≡ sum_by g sheets
  same_sum [] all = refl
  same_sum (x ∷ xs) all =
      sum_by-cons f x xs ∙ ap (λ n. n + sum_by f xs) (apart x (all 0 x (omega arith)))
      ∙ ap (λ n. g x + n) (same_sum xs (λ k d there. all (suc k) d (omega arith))) ∙ sym (sum_by-cons g x xs)

  pub one_changed : (sheets : List PlaceSheet) (own : PlaceSheet) → AllPairs (λ one other. one.id ≢ other.id) sheets
      → place_sheet_with id sheets ≡ Some own → sum_by g sheets + f own ≡ sum_by f sheets + g own
  one_changed [] own distinct is = absurd (none_some own is)
  one_changed (x ∷ xs) own distinct is =
      by_test (x.id == id) refl
      (one_changed xs own (λ i j d less there. distinct (suc i) (suc j) d (omega arith) (omega arith))) is
    where
      others : x.id ≡ id → All (λ sheet. (sheet.id == id) ≡ false) xs
      others here k d there =
          ne_eqb (get_or xs k d).id id (λ same. distinct 0 (suc k) d (omega arith) (omega arith) (here ∙ sym same))

      by_test : (b : Bool) → (x.id == id) ≡ b
          → (place_sheet_with id xs ≡ Some own → sum_by g xs + f own ≡ sum_by f xs + g own)
          → cond b (Some x) (place_sheet_with id xs) ≡ Some own
          → sum_by g (x ∷ xs) + f own ≡ sum_by f (x ∷ xs) + g own
      by_test true here later found =
          subst (λ o. sum_by g (x ∷ xs) + f o ≡ sum_by f (x ∷ xs) + g o) (one_some x own found)
          (changed_head (sum_by f (x ∷ xs)) (sum_by g (x ∷ xs)) (f x) (g x) (sum_by f xs) (sum_by g xs)
          (sum_by-cons f x xs) (sum_by-cons g x xs) (same_sum xs (others (eqb-true x.id id here))))
      by_test false not_here later found =
          changed_tail (sum_by f (x ∷ xs)) (sum_by g (x ∷ xs)) (f x) (g x) (sum_by f xs) (sum_by g xs) (f own) (g own)
          (sum_by-cons f x xs) (sum_by-cons g x xs) (apart x not_here)
          (later found)

abbrev pub places_in : PlaceSheet → ℕ
places_in sheet = sheet.table.rows * sheet.table.cols

abbrev pub places_with : ℕ → Added → PlaceSheet → ℕ
places_with id added sheet = let size = cond (sheet.id == id) (size_added added sheet) (size_of sheet) in
    size.0 * size.1

pub places_swapped : (id : ℕ) (added : Added) (sheets : List PlaceSheet) (own : PlaceSheet)
    → AllPairs (λ one other. one.id ≢ other.id) sheets → place_sheet_with id sheets ≡ Some own
    → places_added id added sheets + places_in own
    ≡ sum_by places_in sheets + (own.table.rows + added.rows) * (own.table.cols + added.cols)
places_swapped id added sheets own distinct is =
    one_changed places_in (places_with id added) id (λ sheet apart. sym (ap (λ b.
    let size : ℕ × ℕ = cond b (size_added added sheet) (size_of sheet) in size.0 * size.1) apart)) sheets
    own distinct is
    ∙ ap (λ b. sum_by places_in sheets
    + (let size : ℕ × ℕ = cond b (size_added added own) (size_of own) in size.0 * size.1))
    (eq-eqb own.id id (found_id id sheets own is))

-- ---- each sheet gets its size

module _ (id : ℕ) (axis : Axis) (at count : ℕ) where
  pub zip_found : (wanted : ℕ) (xs ys : List PlaceSheet) → AllZip (HasSizeAdded id axis at count) xs ys
      → (own : PlaceSheet) → place_sheet_with wanted xs ≡ Some own
      → (other : PlaceSheet) × (place_sheet_with wanted ys ≡ Some other) × HasSizeAdded id axis at count own other
  zip_found wanted [] ys all own is = absurd (none_some own is)
  zip_found wanted (x ∷ xs) [] all own is = absurd all
  zip_found wanted (x ∷ xs) (y ∷ ys) all own is =
      by_test (x.id == wanted) (y.id == wanted) (ap (λ n. n == wanted) all.0.0) (zip_found wanted xs ys all.1 own) is
    where
      by_test : (b b' : Bool) → b' ≡ b
          → (place_sheet_with wanted xs ≡ Some own → (other : PlaceSheet) × (place_sheet_with wanted ys ≡ Some other)
          × HasSizeAdded id axis at count own other)
          → cond b (Some x) (place_sheet_with wanted xs) ≡ Some own
          → (other : PlaceSheet) × (cond b' (Some y) (place_sheet_with wanted ys) ≡ Some other)
          × HasSizeAdded id axis at count own other
      by_test true true same later found =
          (y, refl, subst (λ o. HasSizeAdded id axis at count o y) (one_some x own found) all.0)
      by_test false false same later found = later found
      by_test true false same later found = absurd (false≢true same)
      by_test false true same later found = absurd (false≢true (sym same))

  pub zip_sum : (f g : PlaceSheet → ℕ)
      → ((x y : PlaceSheet) → HasSizeAdded id axis at count x y → f y ≡ g x) → (xs ys : List PlaceSheet)
      → AllZip (HasSizeAdded id axis at count) xs ys → sum_by f ys ≡ sum_by g xs
  zip_sum f g same [] [] all = refl
  zip_sum f g same [] (y ∷ ys) all = absurd all
  zip_sum f g same (x ∷ xs) [] all = absurd all
  zip_sum f g same (x ∷ xs) (y ∷ ys) all =
      sum_by-cons f y ys ∙ ap (λ n. n + sum_by f ys) (same x y all.0)
      ∙ ap (λ n. g x + n) (zip_sum f g same xs ys all.1) ∙ sym (sum_by-cons g x xs)

module _ (id : ℕ) (added : Added) where
  -- with the rows alone there are no more places than with both
  fewer : (b : Bool) (x : PlaceSheet)
      → (let size : ℕ × ℕ =
      cond b (size_after Rows (Insert added.row added.rows) x.table.rows x.table.cols) (size_of x) in
      size.0 * size.1)
      ≤ (let size : ℕ × ℕ = cond b (size_added added x) (size_of x) in size.0 * size.1)
  fewer true x = mul-le-mul_left (x.table.rows + added.rows) (omega arith)
  fewer false x = omega arith

  pub rows_fewer : (sheets : List PlaceSheet)
      → places_changed id Rows (Insert added.row added.rows) sheets ≤ places_added id added sheets
  rows_fewer sheets = sum_by-le-sum_by
      (λ sheet. let size = size_changed id Rows (Insert added.row added.rows) sheet in size.0 * size.1)
      (places_with id added) sheets (λ x. fewer (x.id == id) x)

  -- and then with the columns as many as with both
  both : (b b' : Bool) (x y : PlaceSheet) → b' ≡ b
      → size_of y ≡ cond b (size_after Rows (Insert added.row added.rows) x.table.rows x.table.cols) (size_of x)
      → (let size : ℕ × ℕ =
      cond b' (size_after Columns (Insert added.col added.cols) y.table.rows y.table.cols) (size_of y) in
      size.0 * size.1)
      ≡ (let size : ℕ × ℕ = cond b (size_added added x) (size_of x) in size.0 * size.1)
  both true true x y is same = ap (λ (s : ℕ × ℕ). s.0 * (s.1 + added.cols)) same
  both false false x y is same = ap (λ (s : ℕ × ℕ). s.0 * s.1) same
  both true false x y is same = absurd (false≢true is)
  both false true x y is same = absurd (false≢true (sym is))

  pub cols_both : (xs ys : List PlaceSheet) → AllZip (HasSizeAdded id Rows added.row added.rows) xs ys
      → places_changed id Columns (Insert added.col added.cols) ys ≡ places_added id added xs
  cols_both xs ys all = zip_sum id Rows added.row added.rows
      (λ sheet. let size = size_changed id Columns (Insert added.col added.cols) sheet in size.0 * size.1)
      (places_with id added)
      (λ x y has. both (x.id == id) (y.id == id) x y (ap (λ n. n == id) has.0) has.1) xs ys all

-- ---- limits

by_tests : (a b c : Bool) → a ≡ false → b ≡ false → c ≡ false
    → cond a (Some limit.Rows) (cond b (Some limit.Columns) (cond c (Some limit.Cells) None)) ≡ None
by_tests false false false one two three = refl
by_tests true b c one two three = absurd (false≢true (sym one))
by_tests false true c one two three = absurd (false≢true (sym two))
by_tests false false true one two three = absurd (false≢true (sym three))

tests_of : (a b c : Bool)
    → cond a (Some limit.Rows) (cond b (Some limit.Columns) (cond c (Some limit.Cells) None)) ≡ None
    → (a ≡ false) × (b ≡ false) × (c ≡ false)
tests_of false false false is = (refl, refl, refl)
tests_of true b c is = absurd (none_some limit.Rows (sym is))
tests_of false true c is = absurd (none_some limit.Columns (sym is))
tests_of false false true is = absurd (none_some limit.Cells (sym is))

-- within all three
pub record AreWithin (size : ℕ × ℕ) (places : ℕ) : Type 0 where
  pub rows : size.0 ≤ most_on Rows
  pub cols : size.1 ≤ most_on Columns
  pub cells : places ≤ most_places

pub none_passed : (size : ℕ × ℕ) (places : ℕ) → AreWithin size places → first_passed (passes_size size places) ≡ None
none_passed size places within =
    by_tests (nat_lt (most_on Rows) size.0) (nat_lt (most_on Columns) size.1) (nat_lt most_places places)
    (le-ltb (most_on Rows) size.0 within.rows) (le-ltb (most_on Columns) size.1 within.cols)
    (le-ltb most_places places within.cells)

pub all_within : (size : ℕ × ℕ) (places : ℕ) → first_passed (passes_size size places) ≡ None → AreWithin size places
all_within size places none =
    let tests =
    tests_of (nat_lt (most_on Rows) size.0) (nat_lt (most_on Columns) size.1) (nat_lt most_places places) none in
    record {
      rows = ltb-false (most_on Rows) size.0 tests.0;
      cols = ltb-false (most_on Columns) size.1 tests.1;
      cells = ltb-false most_places places tests.2;
    }

pub cols_told : (size : ℕ × ℕ) (places : ℕ) → size.0 ≤ most_on Rows → most_on Columns < size.1
    → Some limit.Columns ≡ first_passed (passes_size size places)
cols_told size places rows cols =
    told (nat_lt (most_on Rows) size.0) (nat_lt (most_on Columns) size.1) (nat_lt most_places places)
    (le-ltb (most_on Rows) size.0 rows) (lt-ltb (most_on Columns) size.1 cols)
  where
    told : (a b c : Bool) → a ≡ false → b ≡ true
        → Some limit.Columns ≡ cond a (Some limit.Rows) (cond b (Some limit.Columns) (cond c (Some limit.Cells) None))
    told false true c one two = refl
    told true b c one two = absurd (false≢true (sym one))
    told false false c one two = absurd (false≢true two)

pub cells_told : (size : ℕ × ℕ) (places : ℕ) → size.0 ≤ most_on Rows → size.1 ≤ most_on Columns → most_places < places
    → Some limit.Cells ≡ first_passed (passes_size size places)
cells_told size places rows cols cells =
    told (nat_lt (most_on Rows) size.0) (nat_lt (most_on Columns) size.1) (nat_lt most_places places)
    (le-ltb (most_on Rows) size.0 rows) (le-ltb (most_on Columns) size.1 cols) (lt-ltb most_places places cells)
  where
    told : (a b c : Bool) → a ≡ false → b ≡ false → c ≡ true
        → Some limit.Cells ≡ cond a (Some limit.Rows) (cond b (Some limit.Columns) (cond c (Some limit.Cells) None))
    told false false true one two three = refl
    told true b c one two three = absurd (false≢true (sym one))
    told false true c one two three = absurd (false≢true (sym two))
    told false false false one two three = absurd (false≢true three)
