-- Sheets of which a title, a mark and a size are set.
use Rattle.std.proofs.Common.{◌≡◌, ◌≢◌, ℕ, ◌+◌, ◌-◌, ◌*◌, ◌<◌, ◌≤◌, refl, sym, ap, subst, ◌∙◌, List, [], ◌∷◌, cond, Bool, true, false, not, arith, inl, inr, ◌&&◌, ◌||◌}
use Rattle.std.specs.Prelude.{Option, None, Some, Result, Ok, Err, OnOk, IfSome, IsSomeAnd, is_some, map, unwrap_or, nat_lt, ◌==◌}
use Rattle.std.specs.List.{AllPairs, list_all, list_any}
use Rattle.std.specs.Option.{IsSome, option_map, option_map_or}
use Rattle.std.specs.Str.{str_eq_ignore_ascii_case}
use Rattle.std.proofs.lemmas.Bool.{cases_Bool, ltb-false, or_parts}
use Rattle.std.proofs.lemmas.Bool.Decides.{Decides-ltb}
use Rattle.std.proofs.lemmas.Nat.{mul-le}
use Rattle.std.proofs.lemmas.Option.{none-some, same_Some}
use Rattle.cell_store.specs.Moved.{lines_on, size_after}
use Rattle.cell_value.specs.Ids.{is_taken}
use Rattle.cell_value.specs.declared.cell.SheetProperties.{SheetProperties}
use Rattle.grid_range.specs.Change.{count_after}
use Rattle.grid_range.specs.declared.axis.Axis.{Axis}
use Rattle.grid_range.specs.declared.axis.Axis.TheVariants.{Rows, Columns}
use Rattle.grid_range.specs.declared.change.Change.{Change}
use Rattle.grid_range.specs.declared.change.Change.TheVariants.{Insert, Delete}
use Rattle.world_model.specs.declared.limits.TheConstants.{MOST_COLUMNS, MOST_ROWS}
use Rattle.world_model.specs.Book.{PlaceBook}
use Rattle.world_model.specs.Laws.{size_of}
use Rattle.world_model.specs.PlaceChange.{BookChanged}
use Rattle.world_model.specs.Sheet.{PlaceSheet}
use Rattle.world_model.specs.SheetChange.{other_sheets}
use Rattle.world_model.specs.Sound.{IsLineCount, IsSheetSound, IsSound, most_on, most_places, place_sheet_with}
use Rattle.dimension_ops.specs.Broken.{first_broken, first_passed, unbroken}
use Rattle.dimension_ops.specs.JudgingLaws.{passes_none}
use Rattle.dimension_ops.specs.Lines.{lines_of_sheet, passes_size, places_changed}
use Rattle.dimension_ops.specs.NewSheetLaws.{above_zero}
use Rattle.dimension_ops.specs.SetProperties.{CanBeSet, GetsSize, IsSized, all_set, places_with, size_added, size_cut, size_given, size_set_broken}
use Rattle.dimension_ops.specs.SheetRequests.{has_title, is_bad_title}
use Rattle.dimension_ops.specs.SizeLaws.{places_given, places_replaced, places_then, then_sized}
use Rattle.dimension_ops.specs.Titles.{sheet_titled}
use Rattle.dimension_ops.specs.declared.rule.Limit.{Limit}
use Rattle.dimension_ops.proofs.PastLines.{found_holds}

pub on_ok : {A E : Type 0} (result : Result A E) (P Q : Type 0) → (P → Q) → OnOk result P → OnOk result Q
on_ok (Ok one) P Q makes holds = makes holds
on_ok (Err fault) P Q makes holds = tt

-- ---- the sheet that is found

pub lines_there : (axis : Axis) (size : ℕ × ℕ) (found : Option PlaceSheet) → option_map size_of found ≡ Some size
    → IsSomeAnd found (λ sheet. lines_of_sheet axis sheet ≡ lines_on axis size.0 size.1)
lines_there axis size None is = absurd (none-some size is)
lines_there axis size (Some sheet) is =
    ap (λ (size : ℕ × ℕ). lines_on axis size.0 size.1) (same_Some (size_of sheet) size is)

pub same_size : (rows cols : ℕ) (sheet : PlaceSheet) → rows ≡ sheet.table.rows → cols ≡ sheet.table.cols
    → ◌≡◌ {A = ℕ × ℕ} (rows, cols) (size_of sheet)
same_size rows cols sheet is is' = ap (λ n. (n, cols)) is ∙ ap (λ n. (sheet.table.rows, n)) is'

-- ---- titles

pub others_have_title : {X : Type 0} (value : X → PlaceSheet) (id : ℕ) (title : List ℕ) (xs : List X)
    → list_any (λ x. not ((value x).id == id) && str_eq_ignore_ascii_case (value x).title title) xs
    ≡ has_title (other_sheets id (map value xs)) title
others_have_title value id title [] = refl
others_have_title value id title (x ∷ xs) =
    ap (λ b. (not ((value x).id == id) && str_eq_ignore_ascii_case (value x).title title) || b)
    (others_have_title value id title xs)
    ∙ either ((value x).id == id)
  where
    rest : List PlaceSheet
    rest = other_sheets id (map value xs)

    first : (b : Bool) → (b || has_title rest title) ≡ is_some (cond b (Some (value x)) (sheet_titled title rest))
    first true = refl
    first false = refl

    either : (b : Bool)
        → ((not b && str_eq_ignore_ascii_case (value x).title title) || has_title rest title)
        ≡ has_title (cond (not b) (value x ∷ rest) rest) title
    either true = refl
    either false = first (str_eq_ignore_ascii_case (value x).title title)

-- ---- what is judged

none_broken : (bad taken line last : Bool) (past : Option Limit) → bad ≡ false → taken ≡ false → line ≡ false
    → last ≡ false → past ≡ None
    → first_broken
    (record unbroken { bad_name = bad; name_taken = taken; last_line = line; last_sheet = last; past_limit = past })
    ≡ None
none_broken bad taken line last past is_bad is_taken is_line is_last is_past =
    ap (λ b. first_broken
    (record unbroken {
      bad_name = b;
      name_taken = taken;
      last_line = line;
      last_sheet = last;
      past_limit =
          past;
    })) is_bad
    ∙ ap (λ b. first_broken
    (record unbroken { name_taken = b; last_line = line; last_sheet = last; past_limit = past })) is_taken
    ∙ ap (λ b. first_broken (record unbroken { last_line = b; last_sheet = last; past_limit = past })) is_line
    ∙ ap (λ b. first_broken (record unbroken { last_sheet = b; past_limit = past })) is_last
    ∙ ap (λ p. first_broken (record unbroken { past_limit = p })) is_past

neither : (one other : Bool) → one ≡ false → other ≡ false → (one || other) ≡ false
neither one other is is' = ap (λ b. b || other) is ∙ is'

pub can_be_set : (id : ℕ) (properties : SheetProperties) (sheets : List PlaceSheet) (found : PlaceSheet)
    → place_sheet_with id sheets ≡ Some found → AllPairs (λ one other. one.id ≢ other.id) sheets
    → is_bad_title properties.title ≡ false → is_taken (has_title (other_sheets id sheets)) properties.title ≡ false
    → ((size_given properties (size_of found)).0 == 0) ≡ false
    → ((size_given properties (size_of found)).1 == 0) ≡ false
    → (unwrap_or properties.hidden false && list_all (λ other. other.hidden) (other_sheets id sheets)) ≡ false
    → first_passed (passes_size (size_given properties (size_of found))
    (places_with id (size_given properties (size_of found)) sheets)) ≡ None
    → CanBeSet id properties sheets (size_of found)
can_be_set id properties sheets found at distinct good free rows cols visible within =
    let given = size_given properties (size_of found) in
    let passed = passes_none (passes_size given (places_with id given sheets)) within in
    let all = places_given id given sheets found distinct at in
    let none = places_given id (0, 0) sheets found distinct at in
    let few = ltb-false most_places (places_with id given sheets) passed.cells in
    let there : IsSome (place_sheet_with id sheets) = ap is_some at in
    record {
      unbroken = ap (λ (one : Option PlaceSheet). first_broken (option_map_or (λ sheet.
          record (size_set_broken id (size_given properties (size_of sheet)) sheets) {
            bad_name = is_bad_title properties.title;
            name_taken = is_taken (has_title (other_sheets id sheets)) properties.title;
            last_sheet = unwrap_or properties.hidden false && list_all (λ other. other.hidden) (other_sheets id sheets);
          }) one (record unbroken { no_sheet = true }))) at
          ∙ none_broken (is_bad_title properties.title) (is_taken (has_title (other_sheets id sheets)) properties.title)
          (given.0 == 0 || given.1 == 0)
          (unwrap_or properties.hidden false && list_all (λ other. other.hidden) (other_sheets id sheets))
          (first_passed (passes_size given (places_with id given sheets))) good free
          (neither (given.0 == 0) (given.1 == 0) rows cols) visible within;
      changes =
          ap (λ (one : Option PlaceSheet). option_map_or (λ sheet. all_set id properties (size_of sheet)) one []) at;
      for_title = record { there = there; good = good; free = free };
      for_mark = record { there = there; visible = visible };
      for_size = record {
        others = places_with id (0, 0) sheets;
        sized = record { held = ap (option_map size_of) at; places = omega (arith, none) };
        rows = (above_zero given.0 rows, ltb-false MOST_ROWS given.0 passed.rows);
        cols = (above_zero given.1 cols, ltb-false MOST_COLUMNS given.1 passed.cols);
        room = omega (arith, all, none, few);
      };
    }

pub judged_set : (id : ℕ) (properties : SheetProperties) (sheets : List PlaceSheet) (found : PlaceSheet)
    (size given : ℕ × ℕ) (places : ℕ) → place_sheet_with id sheets ≡ Some found
    → AllPairs (λ one other. one.id ≢ other.id) sheets → size ≡ size_of found → given ≡ size_given properties size
    → places ≡ places_with id given sheets → is_bad_title properties.title ≡ false
    → is_taken (has_title (other_sheets id sheets)) properties.title ≡ false → (given.0 == 0 || given.1 == 0) ≡ false
    → (unwrap_or properties.hidden false && list_all (λ other. other.hidden) (other_sheets id sheets)) ≡ false
    → first_passed (passes_size given places) ≡ None → CanBeSet id properties sheets size
judged_set id properties sheets found size given places at distinct size_is is places_is good free lines
    visible within =
    let given_is : given ≡ size_given properties (size_of found) = is ∙ ap (size_given properties) size_is in
    let both = or_parts (given.0 == 0) (given.1 == 0) lines in
    subst (CanBeSet id properties sheets) (sym size_is)
    (can_be_set id properties sheets found at distinct good free
    (ap (λ (given : ℕ × ℕ). given.0 == 0) (sym given_is) ∙ both.0)
    (ap (λ (given : ℕ × ℕ). given.1 == 0) (sym given_is) ∙ both.1) visible
    (ap (λ given. first_passed (passes_size given (places_with id given sheets))) (sym given_is)
    ∙ ap (λ n. first_passed (passes_size given n)) (sym places_is) ∙ within))

-- ---- a change of lines

pub gets_size : (id : ℕ) (axis : Axis) (change : Change) (count : ℕ) (before after : PlaceBook)
    → AllPairs (λ one other. one.id ≢ other.id) before.sheets → BookChanged id axis count change before after
    → GetsSize id (λ size. size_after axis change size.0 size.1) before.sheets after.sheets
gets_size id axis change count before after distinct changed size others sized =
    then_sized id axis change count before after size others (place_sheet_with id before.sheets) refl distinct changed
    sized

pub few_where_found : (id : ℕ) (axis : Axis) (change : Change) (size : ℕ × ℕ) (others : ℕ) (sheets : List PlaceSheet)
    → AllPairs (λ one other. one.id ≢ other.id) sheets → IsSized id size others sheets
    → let then = size_after axis change size.0 size.1 in others + then.0 * then.1 ≤ most_places
    → places_changed id axis change sheets ≤ most_places
few_where_found id axis change size others sheets distinct sized few =
    at_found (place_sheet_with id sheets) refl
  where
    at_found : (found : Option PlaceSheet) → place_sheet_with id sheets ≡ found
        → places_changed id axis change sheets ≤ most_places
    at_found None at = absurd (none-some size (sym (ap (option_map size_of) at) ∙ sized.held))
    at_found (Some found) at =
        subst (λ n. n ≤ most_places) (sym (places_then id axis change size others sheets found distinct at sized)) few

-- ---- lines are deleted from the end

lines_within : (axis : Axis) (sheets : List PlaceSheet) (sheet : PlaceSheet) → IsSheetSound sheets sheet
    → lines_of_sheet axis sheet ≤ most_on axis
lines_within Rows sheets sheet sound = sound.rows.1
lines_within Columns sheets sheet sound = sound.cols.1

fewer_places : (axis : Axis) (given lines : ℕ) (sheet : PlaceSheet)
    → let then = size_after axis (Delete given lines) sheet.table.rows sheet.table.cols in
    then.0 * then.1 ≤ sheet.table.rows * sheet.table.cols
fewer_places Rows given lines sheet =
    mul-le (sheet.table.rows - (lines - given)) sheet.table.cols sheet.table.rows sheet.table.cols (omega arith)
    (omega arith)
fewer_places Columns given lines sheet =
    mul-le sheet.table.rows (sheet.table.cols - (lines - given)) sheet.table.rows sheet.table.cols (omega arith)
    (omega arith)

is_count : (axis : Axis) (lines : ℕ) → 0 < lines → lines ≤ most_on axis → IsLineCount axis lines
is_count axis lines some few = (some, few)

module _ (id : ℕ) (axis : Axis) (lines given : ℕ) (book : PlaceBook) (sound : IsSound book)
    (long : IsSomeAnd (place_sheet_with id book.sheets) (λ sheet. lines_of_sheet axis sheet ≡ lines)) where
  -- the sheet that is there
  pub the_sheet : (found : PlaceSheet) × (place_sheet_with id book.sheets ≡ Some found)
      × (lines_of_sheet axis found ≡ lines) × IsSheetSound book.sheets found
  the_sheet = at_found (place_sheet_with id book.sheets) refl long
      (found_holds (IsSheetSound book.sheets) id book.sheets sound.sheets)
    where
      at_found : (found : Option PlaceSheet) → place_sheet_with id book.sheets ≡ found
          → IsSomeAnd found (λ sheet. lines_of_sheet axis sheet ≡ lines) → IfSome found (IsSheetSound book.sheets)
          → (found : PlaceSheet) × (place_sheet_with id book.sheets ≡ Some found)
          × (lines_of_sheet axis found ≡ lines) × IsSheetSound book.sheets found
      at_found None at long sound = absurd long
      at_found (Some found) at long sound = (found, at, long, sound)

  pub cut_count : 0 < given → given < lines → IsLineCount axis (count_after (Delete given lines) lines)
  cut_count some fewer =
      let most = lines_within axis book.sheets the_sheet.0 the_sheet.3 in
      let long = the_sheet.2 in
      subst (IsLineCount axis) (omega (arith, fewer)) (is_count axis given some (omega (arith, fewer, most, long)))

  pub cut_places : places_changed id axis (Delete given lines) book.sheets ≤ most_places
  cut_places =
      let all = places_replaced id axis (Delete given lines) book.sheets the_sheet.0 sound.distinct the_sheet.1 in
      let fewer = fewer_places axis given lines the_sheet.0 in
      let within = sound.few_places in
      omega (arith, all, fewer, within)

-- ---- one size after another

abbrev pub low : ℕ → ℕ → ℕ
low lines given = cond (nat_lt given lines) given lines

low_below : (lines given : ℕ) → lines < given → low lines given ≡ lines
low_below lines given less = elim (cases_Bool (nat_lt given lines)) [
  | inl is ↦ let more = (Decides-ltb given lines).0 is in absurd (omega (arith, less, more))
  | inr is ↦ ap (λ b. cond b given lines) is
]

low_above : (lines given : ℕ) → given ≤ lines → low lines given ≡ given
low_above lines given less = elim (cases_Bool (nat_lt given lines)) [
  | inl is ↦ ap (λ b. cond b given lines) is
  | inr is ↦ let most = ltb-false given lines is in
      let same : lines ≡ given = omega (arith, less, most) in ap (λ b. cond b given lines) is ∙ same
]

low_within : (lines given : ℕ) → low lines given ≤ given
low_within lines given = elim (cases_Bool (nat_lt given lines)) [
  | inl is ↦ let same : low lines given ≡ given = ap (λ b. cond b given lines) is in omega (arith, same)
  | inr is ↦ let same : low lines given ≡ lines = ap (λ b. cond b given lines) is in
      let most = ltb-false given lines is in omega (arith, same, most)
]

cut_to : (lines given : ℕ) → given < lines → lines - (lines - given) ≡ given
cut_to lines given less = omega (arith, less)

cut_rows : (rows cols given : ℕ) → size_cut Rows rows given (rows, cols) ≡ (low rows given, cols)
cut_rows rows cols given = either (nat_lt given rows) refl
  where
    either : (b : Bool) → nat_lt given rows ≡ b
        → cond b (size_after Rows (Delete given rows) rows cols) (rows, cols) ≡ (cond b given rows, cols)
    either true is = ap (λ n. (n, cols)) (cut_to rows given ((Decides-ltb given rows).0 is))
    either false is = refl

cut_cols : (rows cols given : ℕ) → size_cut Columns cols given (rows, cols) ≡ (rows, low cols given)
cut_cols rows cols given = either (nat_lt given cols) refl
  where
    either : (b : Bool) → nat_lt given cols ≡ b
        → cond b (size_after Columns (Delete given cols) rows cols) (rows, cols) ≡ (rows, cond b given cols)
    either true is = ap (λ n. (rows, n)) (cut_to cols given ((Decides-ltb given cols).0 is))
    either false is = refl

added_rows : (rows cols given : ℕ) → size_added Rows rows given (low rows given, cols) ≡ (given, cols)
added_rows rows cols given = either (nat_lt rows given) refl
  where
    either : (b : Bool) → nat_lt rows given ≡ b
        → cond b (size_after Rows (Insert rows (given - rows)) (low rows given) cols) (low rows given, cols)
        ≡ (given, cols)
    either true is =
        let less = (Decides-ltb rows given).0 is in
        let same = low_below rows given less in
        let then : low rows given + (given - rows) ≡ given = omega (arith, less, same) in ap (λ n. (n, cols)) then
    either false is = ap (λ n. (n, cols)) (low_above rows given (ltb-false rows given is))

module _ (id : ℕ) (size given : ℕ × ℕ) (others : ℕ) (start rows_cut cols_cut rows_added : List PlaceSheet)
    (sized : IsSized id size others start) where
  pub after_rows_cut : GetsSize id (size_cut Rows size.0 given.0) start rows_cut
      → IsSized id (low size.0 given.0, size.1) others rows_cut
  after_rows_cut gets =
      subst (λ size. IsSized id size others rows_cut) (cut_rows size.0 size.1 given.0) (gets size others sized)

  pub after_cols_cut : GetsSize id (size_cut Rows size.0 given.0) start rows_cut
      → GetsSize id (size_cut Columns size.1 given.1) rows_cut cols_cut
      → IsSized id (low size.0 given.0, low size.1 given.1) others cols_cut
  after_cols_cut gets gets' =
      subst (λ size. IsSized id size others cols_cut) (cut_cols (low size.0 given.0) size.1 given.1)
      (gets' (low size.0 given.0, size.1) others (after_rows_cut gets))

  pub after_rows_added : GetsSize id (size_cut Rows size.0 given.0) start rows_cut
      → GetsSize id (size_cut Columns size.1 given.1) rows_cut cols_cut
      → GetsSize id (size_added Rows size.0 given.0) cols_cut rows_added
      → IsSized id (given.0, low size.1 given.1) others rows_added
  after_rows_added gets gets' gets'' =
      subst (λ size. IsSized id size others rows_added) (added_rows size.0 (low size.1 given.1) given.0)
      (gets'' (low size.0 given.0, low size.1 given.1) others (after_cols_cut gets gets'))

module _ (id : ℕ) (size given : ℕ × ℕ) (others : ℕ) (sheets : List PlaceSheet)
    (distinct : AllPairs (λ one other. one.id ≢ other.id) sheets)
    (room : others + given.0 * given.1 ≤ most_places) where
  pub rows_there : IsSized id (low size.0 given.0, low size.1 given.1) others sheets → size.0 < given.0
      → IsSomeAnd (place_sheet_with id sheets) (λ found. lines_of_sheet Rows found ≡ size.0)
  rows_there sized less =
      subst (λ n. IsSomeAnd (place_sheet_with id sheets) (λ found. lines_of_sheet Rows found ≡ n))
      (low_below size.0 given.0 less)
      (lines_there Rows (low size.0 given.0, low size.1 given.1) (place_sheet_with id sheets) sized.held)

  pub rows_few : IsSized id (low size.0 given.0, low size.1 given.1) others sheets → size.0 < given.0
      → places_changed id Rows (Insert size.0 (given.0 - size.0)) sheets ≤ most_places
  rows_few sized less =
      let same = low_below size.0 given.0 less in
      let few = mul-le (low size.0 given.0 + (given.0 - size.0)) (low size.1 given.1) given.0 given.1
      (omega (arith, less, same)) (low_within size.1 given.1) in
      few_where_found id Rows (Insert size.0 (given.0 - size.0)) (low size.0 given.0, low size.1 given.1) others sheets
      distinct sized (omega (arith, few, room))

  pub cols_there : IsSized id (given.0, low size.1 given.1) others sheets → size.1 < given.1
      → IsSomeAnd (place_sheet_with id sheets) (λ found. lines_of_sheet Columns found ≡ size.1)
  cols_there sized less =
      subst (λ n. IsSomeAnd (place_sheet_with id sheets) (λ found. lines_of_sheet Columns found ≡ n))
      (low_below size.1 given.1 less)
      (lines_there Columns (given.0, low size.1 given.1) (place_sheet_with id sheets) sized.held)

  pub cols_few : IsSized id (given.0, low size.1 given.1) others sheets → size.1 < given.1
      → places_changed id Columns (Insert size.1 (given.1 - size.1)) sheets ≤ most_places
  cols_few sized less =
      let same = low_below size.1 given.1 less in
      let few = mul-le given.0 (low size.1 given.1 + (given.1 - size.1)) given.0 given.1 (omega arith)
      (omega (arith, less, same)) in
      few_where_found id Columns (Insert size.1 (given.1 - size.1)) (given.0, low size.1 given.1) others sheets
      distinct sized (omega (arith, few, room))
