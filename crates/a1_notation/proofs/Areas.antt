-- Areas from their corners.
use Rattle.std.proofs.Common.{◌≡◌, ℕ, ◌+◌, ◌<◌, ◌≤◌, min, max, Bool, true, false, List, ◌∷◌, ◌++◌, length, get_or, refl, sym, ap, ◌∙◌, arith, inl, inr, subst}
use Rattle.std.specs.Prelude.{◌⊎◌, ◌≢◌, ◌==◌, not, Option, Some, None, IfSome, IfNone}
use Rattle.std.specs.List.{list_all}
use Rattle.std.specs.Char.{is_ascii_alphanumeric}
use Rattle.std.proofs.lemmas.Bool.{and_parts, false≢true, cases_lt, ne_eqb}
use Rattle.std.proofs.lemmas.Bool.Decides.{nat_tests}
use Rattle.std.proofs.lemmas.List.Folds.{list_all-append}
use Rattle.std.proofs.lemmas.List.Recursion.{and_from_places}
use Rattle.grid_range.specs.declared.band.Band.{Band}
use Rattle.grid_range.specs.declared.band.Band.TheVariants.{Whole, From, Span}
use Rattle.a1_notation.specs.declared.column.TheConstants.{NAMED_COLUMNS}
use Rattle.a1_notation.specs.declared.corner.Corner.{Corner}
use Rattle.a1_notation.specs.declared.corner.Corner.TheVariants.{Cell, Column, Row}
use Rattle.a1_notation.specs.Column.{IsColumn}
use Rattle.a1_notation.specs.Area.{IsCorner, IsOneCell, IsBetween, IsTwoCorners, IsArea, IsRow, area_between, lines_between}
use Rattle.a1_notation.specs.Room.{HasNext, HasRoom}
use Rattle.a1_notation.specs.Capped.{IsCappedCorner, capped_corner, capped_band, IsCappedBetween, IsCappedArea, ArePastZZZ}
use Rattle.a1_notation.specs.OneRun.{one_front, passes_weaker}
use Rattle.a1_notation.proofs.ColumnLetters.{letters_value_bounds, column_is_small}
use Rattle.a1_notation.proofs.RowNumbers.{row_is_small}
use Rattle.a1_notation.proofs.Corners.{IsCorner_unique, corner_bytes}

-- two texts up to their first characters that fail a test
pub split_unique : (p : ℕ → Bool) (c : ℕ) (xs zs ys ws : List ℕ) → list_all p xs ≡ true → list_all p zs ≡ true
    → p c ≡ false → xs ++ (c ∷ ys) ≡ zs ++ (c ∷ ws) → (xs ≡ zs) × (ys ≡ ws)
split_unique p c xs zs ys ws left right fails e =
    let same = one_front p xs (c ∷ ys) zs (c ∷ ws) left right fails fails e in
    let tail : c ∷ ys ≡ c ∷ ws = same.1 in
    (same.0, cc)

-- a text whose characters pass a test has none that fails it
pub absent : (p : ℕ → Bool) (c : ℕ) (xs ys : List ℕ) → list_all p (xs ++ (c ∷ ys)) ≡ true → p c ≡ false → ⊥
absent p c xs ys all fails =
    let parts = and_parts (list_all p xs) (list_all p (c ∷ ys)) (sym (list_all-append p xs (c ∷ ys)) ∙ all) in
    false≢true (sym fails ∙ (and_parts (p c) (list_all p ys) parts.1).0)

-- not that character
abbrev pub other_than : ℕ → ℕ → Bool
other_than c b = not (b == c)

pub all_other_than : (c : ℕ) (xs : List ℕ) → ((i : ℕ) → i < length xs → get_or xs i 0 ≢ c)
    → list_all (other_than c) xs ≡ true
all_other_than c xs none =
    and_from_places (list_all (other_than c)) (other_than c) refl (λ _ _. refl) xs 0
    (λ i h. rw (ne_eqb (get_or xs i 0) c (none i h)) refl)

-- a corner has no :
alphanumeric_is_no_colon : (b : ℕ) → is_ascii_alphanumeric b ≡ true → other_than 58 b ≡ true
alphanumeric_is_no_colon b h = grind (arith, nat_tests)

corner_has_no_colon : (most : ℕ) (text : List ℕ) (corner : Corner) → IsCorner most text corner
    → list_all (other_than 58) text ≡ true
corner_has_no_colon most text corner is =
    passes_weaker is_ascii_alphanumeric (other_than 58) alphanumeric_is_no_colon text
    (corner_bytes most text corner is)

-- an area with a : is the one between the corners before and behind it, and one without it is one cell
pub area_with_colon : (most : ℕ) (text first second : List ℕ) (rows columns : Band) → text ≡ first ++ (58 ∷ second)
    → ((i : ℕ) → i < length first → get_or first i 0 ≢ 58) → IsArea most text rows columns
    → IsBetween most first second rows columns
area_with_colon most text first second rows columns e none (inl cell) =
    absurd
    (absent (other_than 58) 58 first second (rw e at (corner_has_no_colon most text
    (Cell cell.row cell.column) cell.cell)) refl)
area_with_colon most text first second rows columns e none (inr two) =
    let same = split_unique (other_than 58) 58 two.first first two.second second
    (corner_has_no_colon most two.first two.between.one two.between.one_is) (all_other_than 58 first none) refl
    (sym two.parts ∙ e) in
    rw (← same.0, ← same.1) two.between

pub area_without_colon : (most : ℕ) (text : List ℕ) (rows columns : Band)
    → ((i : ℕ) → i < length text → get_or text i 0 ≢ 58) → IsArea most text rows columns
    → IsOneCell most text rows columns
area_without_colon most text rows columns none (inl cell) = cell
area_without_colon most text rows columns none (inr two) =
    absurd (absent (other_than 58) 58 two.first two.second (rw two.parts at (all_other_than 58 text none)) refl)

-- more letters may be let in
column_weaker : (most more : ℕ) (text : List ℕ) (column : ℕ) → most ≤ more → IsColumn most text column
    → IsColumn more text column
column_weaker most more text column le is = record {
  letters = record { all = is.letters.all; some = is.letters.some; few = omega (arith, is.letters.few) };
  value = is.value;
}

corner_weaker : (most more : ℕ) (text : List ℕ) (corner : Corner) → most ≤ more → IsCorner most text corner
    → IsCorner more text corner
corner_weaker most more text (Cell row column) le is =
    (is.0, is.1, is.2, column_weaker most more is.0 column le is.3, is.4)
corner_weaker most more text (Column column) le is = column_weaker most more text column le is
corner_weaker most more text (Row row) le is = is

-- what is kept of the area between two corners
lines_capped : (a b : ℕ) → lines_between (min a NAMED_COLUMNS) (min b NAMED_COLUMNS) ≡ capped_band (lines_between a b)
lines_capped a b =
    let low : min (min a NAMED_COLUMNS) (min b NAMED_COLUMNS) ≡ min (min a b) NAMED_COLUMNS = omega arith in
    let high : max (min a NAMED_COLUMNS) (min b NAMED_COLUMNS) + 1 ≡ min (max a b + 1) (NAMED_COLUMNS + 1) =
    omega arith in
    rw (low, high) refl

abbrev pub capped_area : Option (Band × Band) → Option (Band × Band)
capped_area None = None
capped_area (Some area) = Some (area.0, capped_band area.1)

area_capped : (x y : Corner) → area_between (capped_corner x) (capped_corner y) ≡ capped_area (area_between x y)
area_capped (Cell r c) (Cell s d) = rw (lines_capped c d) refl
area_capped (Cell r c) (Column d) = rw (lines_capped c d) refl
area_capped (Cell r c) (Row s) = refl
area_capped (Column c) (Cell s d) = refl
area_capped (Column c) (Column d) = rw (lines_capped c d) refl
area_capped (Column c) (Row s) = refl
area_capped (Row r) (Cell s d) = refl
area_capped (Row r) (Column d) = refl
area_capped (Row r) (Row s) = refl

-- what is kept is of an area, and of none where none is
exact_area : (area : Option (Band × Band)) (rows columns : Band) → Some (rows, columns) ≡ capped_area area
    → (exact : Band) × (area ≡ Some (rows, exact)) × (columns ≡ capped_band exact)
exact_area None rows columns e = absurd cc
exact_area (Some area) rows columns e =
    let same : (rows, columns) ≡ (area.0, capped_band area.1) = cc in
    let row = ap (λ (p : Band × Band). p.0) same in
    (area.1, rw row refl, ap (λ (p : Band × Band). p.1) same)

pub capped_between : (first second : List ℕ) (x y : Corner) (rows columns : Band) → IsCappedCorner first x
    → IsCappedCorner second y → Some (rows, columns) ≡ area_between x y → IsCappedBetween first second rows columns
capped_between first second x y rows columns a b e =
    let exact = exact_area (area_between a.exact b.exact) rows columns
    (rw (a.capped, b.capped) at e ∙ area_capped a.exact b.exact) in
    record {
      most = length first + length second;
      exact = exact.0;
      is = record {
        one = a.exact;
        other = b.exact;
        one_is = corner_weaker (length first) (length first + length second) first a.exact (omega arith) a.is;
        other_is = corner_weaker (length second) (length first + length second) second b.exact (omega arith) b.is;
        area = exact.1;
      };
      capped = exact.2;
    }

pub no_between : (first second : List ℕ) (x y : Corner) → IsCappedCorner first x → IsCappedCorner second y
    → None ≡ area_between x y → (most : ℕ) (rows columns : Band) → ¬ (IsBetween most first second rows columns)
no_between first second x y a b e most rows columns is =
    let one = IsCorner_unique most (length first) first is.one a.exact is.one_is a.is in
    let other = IsCorner_unique most (length second) second is.other b.exact is.other_is b.is in
    let capped = rw (a.capped, b.capped) at e ∙ area_capped a.exact b.exact in
    let exact = rw (one, other) at is.area in
    let clash : ◌≡◌ {A = Option (Band × Band)} None (Some (rows, capped_band columns)) =
    capped ∙ ap capped_area exact in
    cc

-- a row has a next line, and so has what is kept of a corner
pub row_has_next : (text : List ℕ) (row : ℕ) → IsRow text row → HasNext row
row_has_next text row is = omega (arith, row_is_small text row is)

room_of : (most : ℕ) (text : List ℕ) (exact : Corner) → IsCorner most text exact → HasRoom (capped_corner exact)
room_of most text (Cell row column) is = (row_has_next is.1 row is.4, omega arith)
room_of most text (Column column) is = omega arith
room_of most text (Row row) is = row_has_next text row is

pub capped_room : (text : List ℕ) (corner : Corner) → IsCappedCorner text corner → HasRoom corner
capped_room text corner is = rw is.capped (room_of (length text) text is.exact is.is)

-- one cell
cell_from_exact : (most : ℕ) (text : List ℕ) (row column : ℕ) (rows columns : Band) (exact : Corner)
    → IsCorner most text exact → Cell row column ≡ capped_corner exact
    → Some (rows, columns) ≡ area_between (Cell row column) (Cell row column) → IsCappedArea text rows columns
cell_from_exact most text row column rows columns (Cell r c) is capped e =
    let found = exact_area (area_between (Cell r c) (Cell r c)) rows columns
    (e ∙ (ap (λ (x : Corner). area_between x x) capped ∙ area_capped (Cell r c) (Cell r c))) in
    record {
      most = most;
      exact = found.0;
      is = inl (record { row = r; column = c; cell = is; area = found.1 });
      capped = found.2;
    }
cell_from_exact most text row column rows columns (Column c) is capped e = absurd cc
cell_from_exact most text row column rows columns (Row r) is capped e = absurd cc

pub capped_cell : (text : List ℕ) (row column : ℕ) (rows columns : Band) → IsCappedCorner text (Cell row column)
    → Some (rows, columns) ≡ area_between (Cell row column) (Cell row column) → IsCappedArea text rows columns
capped_cell text row column rows columns is e =
    cell_from_exact (length text) text row column rows columns is.exact is.is is.capped e

pub no_corner_no_cell : (text : List ℕ) → ((most : ℕ) (corner : Corner) → ¬ (IsCorner most text corner))
    → (most : ℕ) (rows columns : Band) → ¬ (IsOneCell most text rows columns)
no_corner_no_cell text none most rows columns cell = none most (Cell cell.row cell.column) cell.cell

-- at most three letters are columns up to ZZZ
abbrev pub IsUpToZZZ : Band → Type 0
IsUpToZZZ columns = ¬ (ArePastZZZ columns)

column_short : (most : ℕ) (text : List ℕ) (column : ℕ) → IsColumn most text column → column < NAMED_COLUMNS
    → IsColumn 3 text column
column_short most text column is small =
    elim (letters_value_bounds text is.letters.all is.letters.some).1 [
      | inl few ↦
          record { letters = record { all = is.letters.all; some = is.letters.some; few = few.0 }; value = is.value }
      | inr many ↦ absurd (omega (arith, many.1, is.value))
    ]

-- the column of a corner that has one
abbrev pub column_of : Corner → Option ℕ
column_of (Cell row column) = Some column
column_of (Column column) = Some column
column_of (Row row) = None

abbrev pub IsSmall : Corner → Type 0
IsSmall corner = IfSome (column_of corner) (λ column. column < NAMED_COLUMNS)

corner_short : (most : ℕ) (text : List ℕ) (corner : Corner) → IsCorner most text corner → IsSmall corner
    → IsCorner 3 text corner
corner_short most text (Cell row column) is small = (is.0, is.1, is.2, column_short most is.0 column is.3 small, is.4)
corner_short most text (Column column) is small = column_short most text column is small
corner_short most text (Row row) is small = is

corner_small : (text : List ℕ) (corner : Corner) → IsCorner 3 text corner → IsSmall corner
corner_small text (Cell row column) is = column_is_small is.0 column is.3
corner_small text (Column column) is = column_is_small text column is
corner_small text (Row row) is = tt

-- the columns of an area are those between its corners' columns, or all
abbrev pub HasColumns : Corner → Corner → Band → Type 0
HasColumns x y columns =
    ((column_of x ≡ None) × (column_of y ≡ None) × (columns ≡ Whole))
    ⊎ ((a : ℕ) × (b : ℕ) × (column_of x ≡ Some a) × (column_of y ≡ Some b) × (columns ≡ lines_between a b))

second_of : (given wanted : Band × Band) → Some given ≡ Some wanted → wanted.1 ≡ given.1
second_of given wanted e =
    let same : given ≡ wanted = cc in
    sym (ap (λ (p : Band × Band). p.1) same)

columns_of : (x y : Corner) (rows columns : Band) → area_between x y ≡ Some (rows, columns) → HasColumns x y columns
columns_of (Cell r c) (Cell s d) rows columns e =
    inr (c, d, refl, refl, second_of ((lines_between r s), (lines_between c d)) (rows, columns) e)
columns_of (Cell r c) (Column d) rows columns e =
    inr (c, d, refl, refl, second_of ((From r), (lines_between c d)) (rows, columns) e)
columns_of (Cell r c) (Row s) rows columns e = absurd cc
columns_of (Column c) (Cell s d) rows columns e = absurd cc
columns_of (Column c) (Column d) rows columns e =
    inr (c, d, refl, refl, second_of (Whole, (lines_between c d)) (rows, columns) e)
columns_of (Column c) (Row s) rows columns e = absurd cc
columns_of (Row r) (Cell s d) rows columns e = absurd cc
columns_of (Row r) (Column d) rows columns e = absurd cc
columns_of (Row r) (Row s) rows columns e = inl (refl, refl, second_of ((lines_between r s), Whole) (rows, columns) e)

-- up to ZZZ the corners are, and nothing is lost of the columns
up_to_zzz : (x y : Corner) (columns : Band) → HasColumns x y columns → IsUpToZZZ (capped_band columns)
    → IsSmall x × IsSmall y × (capped_band columns ≡ columns)
up_to_zzz x y columns (inl none) up = (rw none.0 tt, rw none.1 tt, rw none.2 refl)
up_to_zzz x y columns (inr (a, b, one, other, e)) up =
    let low : min (max a b + 1) (NAMED_COLUMNS + 1) ≤ NAMED_COLUMNS =
    elim
    (cases_lt NAMED_COLUMNS (min (max a b + 1) (NAMED_COLUMNS + 1))) [
      | inl past ↦ absurd (subst (λ (band : Band). IsUpToZZZ
          (capped_band band)) e up past)
      | inr le ↦ le
    ] in
    let start : min (min a b) NAMED_COLUMNS ≡ min a b = omega arith in
    let end' : min (max a b + 1) (NAMED_COLUMNS + 1) ≡ max a b + 1 = omega arith in
    (rw one (omega arith), rw other (omega arith), rw e (rw (start, end') refl))

small_up_to_zzz : (x y : Corner) (columns : Band) → HasColumns x y columns → IsSmall x → IsSmall y → IsUpToZZZ columns
small_up_to_zzz x y columns (inl none) small small' past = subst ArePastZZZ none.2 past
small_up_to_zzz x y columns (inr (a, b, one, other, e)) small small' past =
    let one_small : a < NAMED_COLUMNS = rw one at small in
    let other_small : b < NAMED_COLUMNS = rw other at small' in
    let far : NAMED_COLUMNS < max a b + 1 = subst ArePastZZZ e past in
    absurd (omega arith)

-- an area whose columns end at ZZZ or before
pub area_short : (most : ℕ) (text : List ℕ) (rows columns : Band) → IsArea most text rows columns
    → IsUpToZZZ (capped_band columns) → IsArea 3 text rows columns × (capped_band columns ≡ columns)
area_short most text rows columns (inl cell) up =
    let x = Cell cell.row cell.column in
    let found = up_to_zzz x x columns (columns_of x x rows columns cell.area) up in (
      inl (record {
        row = cell.row;
        column = cell.column;
        cell = corner_short most text x cell.cell found.0;
        area = cell.area;
      }),
      found.2,
    )
area_short most text rows columns (inr two) up =
    let b = two.between in
    let found = up_to_zzz b.one b.other columns (columns_of b.one b.other rows columns b.area) up in (
      inr (record {
        first = two.first;
        second = two.second;
        parts = two.parts;
        between = record {
          one = b.one;
          other = b.other;
          one_is = corner_short most two.first b.one b.one_is found.0;
          other_is = corner_short most two.second b.other b.other_is found.1;
          area = b.area;
        };
      }),
      found.2,
    )

pub area_small : (text : List ℕ) (rows columns : Band) → IsArea 3 text rows columns → IsUpToZZZ columns
area_small text rows columns (inl cell) =
    let x = Cell cell.row cell.column in
    small_up_to_zzz x x columns (columns_of x x rows columns cell.area) (corner_small text x cell.cell)
    (corner_small text x cell.cell)
area_small text rows columns (inr two) =
    let b = two.between in
    small_up_to_zzz b.one b.other columns (columns_of b.one b.other rows columns b.area)
    (corner_small two.first b.one b.one_is) (corner_small two.second b.other b.other_is)

-- a text is one area
same_areas : (area : Option (Band × Band)) (rows columns rows' columns' : Band) → area ≡ Some (rows, columns)
    → area ≡ Some (rows', columns') → (rows ≡ rows') × (columns ≡ columns')
same_areas area rows columns rows' columns' e f =
    let same : (rows, columns) ≡ (rows', columns') = cc in
    (ap (λ (p : Band × Band). p.0) same, ap (λ (p : Band × Band). p.1) same)

between_unique : (m n : ℕ) (first second : List ℕ) (rows columns rows' columns' : Band)
    → IsBetween m first second rows columns → IsBetween n first second rows' columns'
    → (rows ≡ rows') × (columns ≡ columns')
between_unique m n first second rows columns rows' columns' a b =
    let one = IsCorner_unique m n first a.one b.one a.one_is b.one_is in
    let other = IsCorner_unique m n second a.other b.other a.other_is b.other_is in
    same_areas (area_between b.one b.other) rows columns rows' columns' (rw (one, other) at a.area) b.area

two_is_no_cell : (m n : ℕ) (text : List ℕ) (rows columns rows' columns' : Band) → IsOneCell m text rows columns
    → IsTwoCorners n text rows' columns' → ⊥
two_is_no_cell m n text rows columns rows' columns' cell two =
    absent (other_than 58) 58 two.first two.second
    (rw two.parts at (corner_has_no_colon m text (Cell cell.row cell.column) cell.cell)) refl

pub area_unique : (m n : ℕ) (text : List ℕ) (rows columns rows' columns' : Band) → IsArea m text rows columns
    → IsArea n text rows' columns' → (rows ≡ rows') × (columns ≡ columns')
area_unique m n text rows columns rows' columns' (inl a) (inl b) =
    let same = IsCorner_unique m n text (Cell a.row a.column) (Cell b.row b.column) a.cell b.cell in
    same_areas (area_between (Cell b.row b.column) (Cell b.row b.column)) rows columns rows' columns'
    (sym (ap (λ (x : Corner). area_between x x) same) ∙ a.area) b.area
area_unique m n text rows columns rows' columns' (inl a) (inr b) =
    absurd (two_is_no_cell m n text rows columns rows' columns' a b)
area_unique m n text rows columns rows' columns' (inr a) (inl b) =
    absurd (two_is_no_cell n m text rows' columns' rows columns b a)
area_unique m n text rows columns rows' columns' (inr a) (inr b) =
    let same = split_unique (other_than 58) 58 a.first b.first a.second b.second
    (corner_has_no_colon m a.first a.between.one a.between.one_is)
    (corner_has_no_colon n b.first b.between.one b.between.one_is) refl (sym a.parts ∙ b.parts) in
    between_unique m n b.first b.second rows columns rows' columns' (rw (same.0, same.1) at a.between) b.between

-- what `area_between` answers of two corners that were read
pub between_answer : (first second : List ℕ) (x y : Corner) (answer : Option (Band × Band)) → IsCappedCorner first x
    → IsCappedCorner second y → answer ≡ area_between x y
    → IfSome answer (λ area. IsCappedBetween first second area.0 area.1) × IfNone answer
    ((most : ℕ) (rows columns : Band) → ¬ (IsBetween most first second rows columns))
between_answer first second x y (Some area) a b e = (capped_between first second x y area.0 area.1 a b e, tt)
between_answer first second x y None a b e = (tt, no_between first second x y a b e)

pub cell_answer : (text : List ℕ) (row column : ℕ) (answer : Option (Band × Band))
    → IsCappedCorner text (Cell row column) → answer ≡ area_between (Cell row column) (Cell row column)
    → IfSome answer (λ area. IsCappedArea text area.0 area.1)
cell_answer text row column (Some area) is e = capped_cell text row column area.0 area.1 is e
cell_answer text row column None is e = tt

-- the areas of texts with a : and without one
pub with_colon_answer : (text first second : List ℕ) (answer : Option (Band × Band)) → text ≡ first ++ (58 ∷ second)
    → ((i : ℕ) → i < length first → get_or first i 0 ≢ 58)
    → IfSome answer (λ area. IsCappedBetween first second area.0 area.1)
    → IfNone answer ((most : ℕ) (rows columns : Band) → ¬ (IsBetween most first second rows columns))
    → IfSome answer (λ area. IsCappedArea text area.0 area.1) × IfNone answer
    ((most : ℕ) (rows columns : Band) → ¬ (IsArea most text rows columns))
with_colon_answer text first second (Some area) e none found refused = (
  record {
    most = found.most;
    exact = found.exact;
    is = inr
        (record { first = first; second = second; parts = e; between = found.is });
    capped = found.capped;
  },
  tt,
)
with_colon_answer text first second None e none found refused = (
  tt,
  λ most rows columns is. refused most rows columns
      (area_with_colon most text first second rows columns e none is),
)

pub without_colon_answer : (text : List ℕ) (answer : Option (Band × Band))
    → ((i : ℕ) → i < length text → get_or text i 0 ≢ 58)
    → IfNone answer ((most : ℕ) (rows columns : Band) → ¬ (IsOneCell most text rows columns))
    → IfNone answer ((most : ℕ) (rows columns : Band) → ¬ (IsArea most text rows columns))
without_colon_answer text (Some area) none refused = tt
without_colon_answer text None none refused =
    λ most rows columns is. refused most rows columns (area_without_colon most text rows columns none is)

-- what is kept of an area tells whether it reaches past ZZZ
past_from_capped : (columns : Band) → ArePastZZZ (capped_band columns) → ArePastZZZ columns
past_from_capped Whole past = past
past_from_capped (From start) past = past
past_from_capped (Span start end') past = omega arith

pub past_is_no_area : (text : List ℕ) (rows columns : Band) → IsCappedArea text rows columns → ArePastZZZ columns
    → (rows' columns' : Band) → ¬ (IsArea 3 text rows' columns')
past_is_no_area text rows columns is past rows' columns' area =
    let same = area_unique is.most 3 text rows is.exact rows' columns' is.is area in
    let far = past_from_capped is.exact (subst ArePastZZZ is.capped past) in
    area_small text rows' columns' area (subst ArePastZZZ same.1 far)

pub kept_is_area : (text : List ℕ) (rows columns : Band) → IsCappedArea text rows columns → IsUpToZZZ columns
    → IsArea 3 text rows columns
kept_is_area text rows columns is up =
    let found = area_short is.most text rows is.exact is.is (subst IsUpToZZZ is.capped up) in
    subst (λ (band : Band). IsArea 3 text rows band) (sym (is.capped ∙ found.1)) found.0
