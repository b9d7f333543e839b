-- A change of the lines of a sheet can be made where it breaks no rule; so can what is told of a request for one.
use Rattle.std.proofs.Common.{◌≡◌, ℕ, ◌-◌, ◌<◌, ◌≤◌, List, [], ◌∷◌, refl, sym, subst, Bool, true, false, ◌&&◌, ◌||◌, arith}
use Rattle.std.specs.Prelude.{Option, Some, None, ◌==◌, nat_le, nat_lt, IsSomeAnd, Result, Ok, Err, if◌then◌else◌}
use Rattle.std.specs.Option.{is_none, option_map_or}
use Rattle.std.proofs.lemmas.Bool.{false≢true, leb-false, ltb-false, or_parts}
use Rattle.grid_range.specs.declared.axis.Axis.{Axis}
use Rattle.grid_range.specs.declared.change.Change.{Change}
use Rattle.grid_range.specs.declared.change.Change.TheVariants.{Insert, Delete, Move}
use Rattle.world_model.specs.Book.{PlaceBook}
use Rattle.world_model.specs.BookChange.{AreChanges, BookChange}
use Rattle.world_model.specs.ChangingLaws.{LineChangesAreChanges}
use Rattle.world_model.specs.Laws.{IdsFind}
use Rattle.world_model.specs.PlaceChange.{BookChanged}
use Rattle.world_model.specs.Sheet.{PlaceSheet}
use Rattle.world_model.specs.Sound.{IsSound, most_places, place_sheet_with}
use Rattle.dimension_ops.specs.Broken.{first_broken}
use Rattle.dimension_ops.specs.Lines.{lines_broken, lines_of_sheet}
use Rattle.dimension_ops.specs.SizeLaws.{has_places}
use Rattle.dimension_ops.specs.declared.rule.Rule.{Rule}
use Rattle.json_requests.specs.declared.request.DimensionRange.{DimensionRange}
use Rattle.sheets_json.specs.declared.spreadsheet.Reply.{Reply}
use Rattle.sheets_json.specs.declared.spreadsheet.Reply.TheVariants as reply
use Rattle.request_kinds.specs.Dimensions.{broken_before, dimension_appended, dimension_deleted, dimension_inserted, dimension_moved, end_of, insertion, lines_there, lines_told}
use Rattle.answered_calls.proofs.LinesFollowed.{LineLaws, book_after, book_changed}
use Rattle.batch_engine.specs.MadeLaws.{CanBeMade}
use Rattle.answered_calls.proofs.NamesKept.{CanBeMadeNamed, KeepsNames, can_be_made, names_follow}
use Rattle.answered_calls.proofs.Unbroken.{HasItsLines, Keeps, above, fits, keeps, none_before}

-- the laws by which a change of lines is made
pub record LinesChange : Type 0 where
  pub lines : LineLaws
  pub ids : IdsFind
  pub changes : LineChangesAreChanges

module _ (laws : LinesChange) (book : PlaceBook) (sound : IsSound book) (id : ℕ) (axis : Axis) (change : Change)
    (found : PlaceSheet) (is : place_sheet_with id book.sheets ≡ Some found)
    (has : HasItsLines change (lines_of_sheet axis found)) (kept : Keeps id axis change book.sheets found) where
  -- a change of lines by places
  abbrev pub changed_book : PlaceBook
  changed_book = book_after id axis (lines_of_sheet axis found) change book

  pub lines_changed : BookChanged id axis (lines_of_sheet axis found) change book changed_book
  lines_changed = book_changed id axis (lines_of_sheet axis found) change laws.lines laws.ids
      (fits axis change (lines_of_sheet axis found) has kept.room) book sound found is refl kept.untorn

  pub lines_made : AreChanges (BookChange.LinesChanged id axis change ∷ []) book changed_book
  lines_made =
      let count = lines_of_sheet axis found in
      laws.changes.changes book changed_book id axis count change (fits axis change count has kept.room) kept.room
      (subst (λ one. IsSomeAnd one (λ (sheet : PlaceSheet). lines_of_sheet axis sheet ≡ count)) (sym is) refl)
      lines_changed
      (subst (λ n. n ≤ most_places) (sym (has_places id axis count change book.sheets changed_book.sheets
      lines_changed.sheets)) kept.few)

-- ---- what is told

module _ (laws : LinesChange) (book : PlaceBook) (sound : IsSound book) (id : ℕ) (axis : Axis) (change : Change) where
  abbrev Made : Type 0
  Made = (after : PlaceBook) × AreChanges (BookChange.LinesChanged id axis change ∷ []) book after
      × KeepsNames book after

  by_rules : (first second : Option Rule) → (first ≡ None → second ≡ None → Made)
      → CanBeMadeNamed book (option_map_or Err first (option_map_or Err second
      (Ok (reply.Empty, BookChange.LinesChanged id axis change ∷ []))))
  by_rules (Some broken) second made = tt
  by_rules None (Some broken) made = tt
  by_rules None None made = made refl refl

  at_sheet : (found : Option PlaceSheet) → place_sheet_with id book.sheets ≡ found → is_none found ≡ false
      → HasItsLines change (option_map_or (lines_of_sheet axis) found 0)
      → first_broken (lines_broken id axis change book.sheets) ≡ None → Made
  at_sheet None is there has none = absurd (false≢true (sym there))
  at_sheet (Some found) is there has none = (
    book_after id axis (lines_of_sheet axis found) change book,
    lines_made laws book sound id axis change found is has (keeps id axis change book.sheets found is none),
    names_follow id axis (lines_of_sheet axis found) change book.ranges,
  )

  -- lines that are there, where none of the rules before is broken
  pub can_lines : (reversed outside at_zero : Bool)
      → (reversed ≡ false → outside ≡ false → HasItsLines change (lines_there id axis book.sheets))
      → CanBeMadeNamed book
      (lines_told (broken_before id reversed outside at_zero book.sheets) id axis change book.sheets)
  can_lines reversed outside at_zero has =
      by_rules (first_broken (broken_before id reversed outside at_zero book.sheets))
      (first_broken (lines_broken id axis change book.sheets)) (λ before none.
      let (there, right, inside) =
      none_before (is_none (place_sheet_with id book.sheets)) reversed outside at_zero before in
      at_sheet (place_sheet_with id book.sheets) refl there (has right inside) none)

-- ---- the kinds of requests

module _ (laws : LinesChange) (book : PlaceBook) (sound : IsSound book) where
  outside_not : (inherits : Bool) (lines start : ℕ)
      → (if inherits then nat_lt lines start else nat_le lines start) ≡ false → start ≤ lines
  outside_not true lines start is = ltb-false lines start is
  outside_not false lines start is = let below = leb-false lines start is in omega (arith, below)

  some_between : (end start : ℕ) → nat_le end start ≡ false → 0 < end - start
  some_between end start is = let below = leb-false end start is in omega (arith, below)

  pub insert_named : (range : DimensionRange) (inherits : Bool) (told : Result (Reply × List BookChange) Rule)
      → told ≡ dimension_inserted range inherits book.sheets → CanBeMadeNamed book told
  insert_named range inherits told is =
      let lines = lines_there range.sheet_id range.dimension book.sheets in
      let end = end_of range book.sheets in
      subst (CanBeMadeNamed book) (sym is)
      (can_lines laws book sound range.sheet_id range.dimension (insertion range book.sheets)
      (nat_le end range.start_index)
      (if inherits then nat_lt lines range.start_index else nat_le lines range.start_index)
      (inherits && range.start_index == 0) (λ right inside.
      (outside_not inherits lines range.start_index inside, some_between end range.start_index right)))

  pub delete_named : (range : DimensionRange) (told : Result (Reply × List BookChange) Rule)
      → told ≡ dimension_deleted range book.sheets → CanBeMadeNamed book told
  delete_named range told is =
      let lines = lines_there range.sheet_id range.dimension book.sheets in
      let end = end_of range book.sheets in
      subst (CanBeMadeNamed book) (sym is)
      (can_lines laws book sound range.sheet_id range.dimension (Delete range.start_index end)
      (nat_le end range.start_index) (nat_lt lines end) false
      (λ right inside. (leb-false end range.start_index right, ltb-false lines end inside)))

  pub move_named : (range : DimensionRange) (to : ℕ) (told : Result (Reply × List BookChange) Rule)
      → told ≡ dimension_moved range to book.sheets → CanBeMadeNamed book told
  move_named range to told is =
      let lines = lines_there range.sheet_id range.dimension book.sheets in
      let end = end_of range book.sheets in
      subst (CanBeMadeNamed book) (sym is)
      (can_lines laws book sound range.sheet_id range.dimension (Move range.start_index end to)
      (nat_le end range.start_index) (nat_lt lines end || nat_lt lines to) false (λ right inside.
      let parts = or_parts (nat_lt lines end) (nat_lt lines to) inside in
      (leb-false end range.start_index right, ltb-false lines end parts.0, ltb-false lines to parts.1)))

  pub append_named : (sheet : ℕ) (axis : Axis) (length : ℕ) (told : Result (Reply × List BookChange) Rule)
      → told ≡ dimension_appended sheet axis length book.sheets → CanBeMadeNamed book told
  append_named sheet axis length told is =
      subst (CanBeMadeNamed book) (sym is)
      (can_lines laws book sound sheet axis (Insert (lines_there sheet axis book.sheets) length)
      (length == 0) false false (λ right inside. (omega arith, above length right)))

  pub can_insert : (range : DimensionRange) (inherits : Bool) (told : Result (Reply × List BookChange) Rule)
      → told ≡ dimension_inserted range inherits book.sheets → CanBeMade book told
  can_insert range inherits told is = can_be_made book told (insert_named range inherits told is)

  pub can_delete : (range : DimensionRange) (told : Result (Reply × List BookChange) Rule)
      → told ≡ dimension_deleted range book.sheets → CanBeMade book told
  can_delete range told is = can_be_made book told (delete_named range told is)

  pub can_move : (range : DimensionRange) (to : ℕ) (told : Result (Reply × List BookChange) Rule)
      → told ≡ dimension_moved range to book.sheets → CanBeMade book told
  can_move range to told is = can_be_made book told (move_named range to told is)

  pub can_append : (sheet : ℕ) (axis : Axis) (length : ℕ) (told : Result (Reply × List BookChange) Rule)
      → told ≡ dimension_appended sheet axis length book.sheets → CanBeMade book told
  can_append sheet axis length told is = can_be_made book told (append_named sheet axis length told is)
