-- Laws of a sheet that is to be added: where no rule is broken there is room for it.
use Rattle.std.proofs.Common.{◌≡◌, ℕ, zero, suc, ◌+◌, ◌*◌, ◌<◌, ◌≤◌, refl, sym, ap, subst, ◌∙◌, List, [], ◌∷◌, length, Bool, false, not, arith, codes, ◌&&◌, length-append}
use Rattle.std.specs.Prelude.{None, Option, Some, is_some, nat_lt, nat_le, ◌==◌}
use Rattle.std.specs.Char.{is_control}
use Rattle.std.specs.Fmt.{decimal}
use Rattle.std.specs.List.{All, find, list_any}
use Rattle.std.specs.Str.{chars, str_eq_ignore_ascii_case}
use Rattle.std.proofs.lemmas.Bool.{and_parts, eqb-false, false≢true, ltb-false, not-false, or_parts}
use Rattle.std.proofs.lemmas.Bool.Decides.{Decides-ltb}
use Rattle.cell_value.specs.Ids.{IsNewId, is_taken}
use Rattle.cell_value.specs.declared.cell.SheetProperties.{SheetProperties}
use Rattle.world_model.specs.declared.limits.TheConstants.{MOST_COLUMNS, MOST_ROWS}
use Rattle.world_model.specs.Book.{PlaceBook}
use Rattle.world_model.specs.BookChange.{NewSheet}
use Rattle.world_model.specs.Counts.{grid_places}
use Rattle.world_model.specs.Sheet.{PlaceSheet}
use Rattle.world_model.specs.SheetLaws.{IsRoomFor, IsTitleFree}
use Rattle.world_model.specs.Sound.{most_places, most_sheets, place_sheet_with}
use Rattle.dimension_ops.specs.Broken.{first_broken}
use Rattle.dimension_ops.specs.JudgingLaws.{breaks_none, not_first, passes_none}
use Rattle.dimension_ops.specs.SheetRequests.{IsFirstTitle, IsLeastId, IsNewSheet, has_id, has_title, is_bad_title, longest_title, may_be_title, new_cols, new_rows, numbered_title, passes_with, sheet_added_broken}
use Rattle.dimension_ops.specs.Titles.{sheet_titled}

-- what isn't there is none
pub is_none_of : {A : Type 0} (held : Option A) → is_some held ≡ false → held ≡ None
is_none_of None is = refl
is_none_of (Some one) is = absurd (false≢true (sym is))

-- where none is found all fail the test
pub find_none : {X : Type 0} (test : X → Bool) (xs : List X) → find test xs ≡ None → All (λ x. test x ≡ false) xs
find_none test [] none k d there = absurd (omega arith)
find_none test (x ∷ xs) none zero d there = (not_first (test x) x (find test xs) none).0
find_none test (x ∷ xs) none (suc k) d there =
    find_none test xs (not_first (test x) x (find test xs) none).1 k d (omega arith)

title_free : (title : List ℕ) (sheets : List PlaceSheet) → has_title sheets title ≡ false → IsTitleFree title sheets
title_free title sheets is =
    find_none (λ (sheet : PlaceSheet). str_eq_ignore_ascii_case sheet.title title) sheets
    (is_none_of (sheet_titled title sheets) is)

-- what may be a title isn't empty
pub has_bytes : (title : List ℕ) → not (may_be_title title) ≡ false → 0 < length title
has_bytes title is =
    let all = not-false (may_be_title title) is in
    let first = and_parts (nat_lt 0 (length title) && nat_le (length title) longest_title)
    (not (list_any is_control (chars title))) all in
    (Decides-ltb 0 (length title)).0
    (and_parts (nat_lt 0 (length title)) (nat_le (length title) longest_title) first.0).0

numbered_has_bytes : (number : ℕ) → 0 < length (numbered_title number)
numbered_has_bytes number =
    let long = length-append (codes "Sheet") (decimal number) in
    let some : 0 < length (codes "Sheet") = omega arith in
    omega (arith, long, some)

-- no sheet has the new id
pub new_id : (sheets : List PlaceSheet) (given : Option ℕ) (id : ℕ) → is_taken (has_id sheets) given ≡ false
    → IsNewId (IsLeastId sheets) given id → place_sheet_with id sheets ≡ None
new_id sheets None id free is = is_none_of (place_sheet_with id sheets) is.unused
new_id sheets (Some one) id free is =
    is_none_of (place_sheet_with id sheets) (ap (has_id sheets) is ∙ free)

-- and none the new title, which isn't empty
pub new_title : (sheets : List PlaceSheet) (given : Option (List ℕ)) (title : List ℕ) → is_bad_title given ≡ false
    → is_taken (has_title sheets) given ≡ false → IsNewId (IsFirstTitle sheets) given title
    → (0 < length title) × IsTitleFree title sheets
new_title sheets None title good free (number, is, first) = (
  subst (λ text. 0 < length text) (sym is) (numbered_has_bytes number),
  subst (λ text. IsTitleFree text sheets) (sym is) (title_free (numbered_title number) sheets first.unused),
)
new_title sheets (Some one) title good free is = (
  subst (λ text. 0 < length text) (sym is) (has_bytes one good),
  subst (λ text. IsTitleFree text sheets) (sym is) (title_free one sheets free),
)

-- a count that isn't zero
pub above_zero : (n : ℕ) → (n == 0) ≡ false → 0 < n
above_zero n is = let apart = eqb-false n 0 is in more n apart
  where
    more : (n : ℕ) → (n ≡ 0 → ⊥) → 0 < n
    more zero apart = absurd (apart refl)
    more (suc n) apart = omega arith

-- there is room for the sheet
pub room_for : (properties : SheetProperties) (book : PlaceBook) (new : NewSheet)
    → first_broken (sheet_added_broken properties book.sheets) ≡ None → IsNewSheet properties book.sheets new
    → IsRoomFor new book
room_for properties book new none is =
    let broken = sheet_added_broken properties book.sheets in
    let rows = new_rows properties in
    let cols = new_cols properties in
    let good = breaks_none broken none in
    let within = passes_none (passes_with (length book.sheets + 1) rows cols (grid_places book.sheets + rows * cols))
    good.past_limit in
    let lines = or_parts (rows == 0) (cols == 0) good.last_line in
    let title = new_title book.sheets properties.title new.title good.bad_name good.name_taken is.title in
    let few = ltb-false most_sheets (length book.sheets + 1) within.sheets in
    record {
      id = new_id book.sheets properties.id new.id good.id_taken is.id;
      titled = title.0;
      title = title.1;
      rows = subst (λ n. (0 < n) × (n ≤ MOST_ROWS)) (sym is.rows)
          (above_zero rows lines.0, ltb-false MOST_ROWS rows within.rows);
      cols = subst (λ n. (0 < n) × (n ≤ MOST_COLUMNS)) (sym is.cols)
          (above_zero cols lines.1, ltb-false MOST_COLUMNS cols within.cols);
      few_sheets = omega (arith, few);
      few_places = subst (λ n. grid_places book.sheets + n * new.cols ≤ most_places) (sym is.rows)
          (subst (λ n. grid_places book.sheets + rows * n ≤ most_places) (sym is.cols)
          (ltb-false most_places (grid_places book.sheets + rows * cols) within.cells));
    }

-- and its lines are few
pub few_lines : (properties : SheetProperties) (sheets : List PlaceSheet)
    → first_broken (sheet_added_broken properties sheets) ≡ None → new_rows properties + new_cols properties
    ≤ 2000000000
few_lines properties sheets none =
    let good = breaks_none (sheet_added_broken properties sheets) none in
    let rows = new_rows properties in
    let cols = new_cols properties in
    let within = passes_none (passes_with (length sheets + 1) rows cols (grid_places sheets + rows * cols))
    good.past_limit in
    let few = ltb-false MOST_ROWS rows within.rows in
    let short = ltb-false MOST_COLUMNS cols within.cols in
    omega (arith, few, short)
