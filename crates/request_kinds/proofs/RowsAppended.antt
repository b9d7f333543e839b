-- Rows that are appended: what is told of them, and that one thing is.
use Rattle.std.proofs.Common.{◌≡◌, ℕ, ◌+◌, ◌<◌, ◌≤◌, refl, sym, ap, subst, ◌∙◌, List, [], ◌∷◌, cond, Bool, true, false, arith}
use Rattle.std.specs.Prelude.{◌==◌, Option, Some, None, IsSomeAnd, MatchOption, Result, Ok, Err, option_map}
use Rattle.std.specs.List.{list_any}
use Rattle.std.specs.Option.{IsSome, option_map_or}
use Rattle.std.proofs.lemmas.Bool.{eq-eqb, false≢true, lt-ltb, ne_eqb}
use Rattle.cell_value.specs.declared.cell.Block.{Block}
use Rattle.grid_range.specs.Area.{AreaWithin}
use Rattle.grid_range.specs.declared.axis.Axis.TheVariants.{Rows}
use Rattle.grid_range.specs.declared.change.Change.TheVariants.{Insert}
use Rattle.merge_ranges.specs.Tests.{tears_merge}
use Rattle.world_model.specs.declared.limits.TheConstants.{MOST_ROWS}
use Rattle.world_model.specs.Book.{PlaceBook}
use Rattle.world_model.specs.BookChange.{AreChanges, BookChange}
use Rattle.world_model.specs.ChangingLaws.{ChangesApart, ChangesInTurn, UpdatesAreChanges}
use Rattle.world_model.specs.Laws.{size_of}
use Rattle.world_model.specs.Sheet.{PlaceSheet}
use Rattle.world_model.specs.Sound.{IsSound, place_sheet_with}
use Rattle.dimension_ops.specs.Broken.{first_broken, first_of, first_passed, unbroken}
use Rattle.dimension_ops.specs.Lines.{IsLinesAnswer, lines_broken, lines_of_sheet, passes_size, places_changed, size_changed}
use Rattle.dimension_ops.specs.Rules.{IsUnlessNoMemory}
use Rattle.dimension_ops.specs.declared.rule.Limit.{Limit}
use Rattle.dimension_ops.specs.declared.rule.Limit.TheVariants as limit
use Rattle.dimension_ops.specs.declared.rule.Rule.{Rule}
use Rattle.dimension_ops.specs.declared.rule.Rule.TheVariants as rule
use Rattle.dimension_ops.specs.declared.rule.RuleOr.{RuleOr}
use Rattle.dimension_ops.specs.declared.rule.RuleOr.TheVariants as refusal
use Rattle.values_api.specs.Appends.{added_on}
use Rattle.values_api.specs.Blocks.{IsWrite, rows_needed}
use Rattle.values_api.specs.Denials.{IsDenial, WriteCells}
use Rattle.values_api.specs.Laws.{WritesOnce}
use Rattle.values_api.specs.Ranges.{IsThere}
use Rattle.values_api.specs.Rows.{IsRowBehind}
use Rattle.values_api.specs.declared.writing.WrittenCells.{WrittenCells as WrittenValues}
use Rattle.sheets_json.specs.declared.spreadsheet.Reply.{Reply}
use Rattle.sheets_json.specs.declared.spreadsheet.Reply.TheVariants as reply
use Rattle.request_kinds.specs.AppendCells.{AreRowsAdded, AreRowsAppended, AreRowsWrittenBy, AreThere, AreWrittenFrom, IsAppendCells, UnlessNone, broken_by_rows, from_row, rows_missing}
use Rattle.request_kinds.specs.Telling.{IsDoneTo, Tells, UnlessBroken}
use Rattle.values_api.specs.FoundLaws.{sheet_has_id, some_and, sound_sheet}
use Rattle.request_kinds.proofs.RowsOnce.{rows_by_once}
use Rattle.request_kinds.proofs.WritingRows.{rows_denied, rows_refused_by, rows_written_by}

-- ---- one thing is told

abbrev IsOne : Tells → Type 0
IsOne Is = (told told' : Result (Reply × List BookChange) Rule) → Is told → Is told' → told ≡ told'

row_once : (sheet : PlaceSheet) (one other : ℕ) → IsRowBehind sheet.table one → IsRowBehind sheet.table other
    → one ≡ other
row_once sheet one other is is' =
    let below = is.least other is'.behind in
    let above = is'.least one is.behind in
    omega (arith, below, above)

unless_broken_once : (broken : Option Rule) (IsDone : Tells) → IsOne IsDone → IsOne (UnlessBroken broken IsDone)
unless_broken_once None IsDone once told told' is is' = once told told' is is'
unless_broken_once (Some first) IsDone once told told' is is' = is ∙ sym is'

unless_none_once : (none : Bool) (IsDone : Tells) → IsOne IsDone → IsOne (UnlessNone none IsDone)
unless_none_once true IsDone once told told' is is' = is ∙ sym is'
unless_none_once false IsDone once told told' is is' = once told told' is is'

module _ (writes : WritesOnce) (apart : ChangesApart) (turns : ChangesInTurn) (user : List ℕ) (sheet : ℕ) (rows : Block)
    (book : PlaceBook) (sound : IsSound book) where
  written_once : (row : ℕ) (found : PlaceSheet) → IsOne (AreWrittenFrom user sheet row rows book found)
  written_once row found =
      let added = added_on sheet Rows found.table.rows (rows_missing row rows found) in
      unless_broken_once (broken_by_rows sheet (rows_missing row rows found) found book.sheets)
      (AreRowsWrittenBy user added rows book (from_row sheet row))
      (rows_by_once writes apart turns user added rows (from_row sheet row) book sound)

  appended_once : (found : PlaceSheet) → IsOne (AreRowsAppended user sheet rows book found)
  appended_once found told told' is is' =
      written_once is'.row found told told'
      (subst (λ row. AreWrittenFrom user sheet row rows book found told)
      (row_once found is.row is'.row is.behind is'.behind) is.written) is'.written

  on_found_once : (found : Option PlaceSheet) → IsOne (λ told. MatchOption found (told ≡ Err rule.NoSheet)
      (λ found. UnlessNone (rows_needed rows == 0) (AreRowsAppended user sheet rows book found) told))
  on_found_once None told told' is is' = is ∙ sym is'
  on_found_once (Some found) told told' is is' =
      unless_none_once (rows_needed rows == 0) (AreRowsAppended user sheet rows book found) (appended_once found) told
      told' is is'

  pub append_cells_once : IsOne (IsAppendCells user sheet rows book)
  append_cells_once = on_found_once (place_sheet_with sheet book.sheets)

-- ---- no rows are appended

pub none_appended : (user : List ℕ) (sheet : ℕ) (rows : Block) (book : PlaceBook) (found : PlaceSheet)
    → Some found ≡ place_sheet_with sheet book.sheets → rows_needed rows ≡ 0
    → IsAppendCells user sheet rows book (Ok (reply.Empty, []))
none_appended user sheet rows book found is none =
    let told : Result (Reply × List BookChange) Rule = Ok (reply.Empty, []) in
    subst (λ (one : Option PlaceSheet). MatchOption one (told ≡ Err rule.NoSheet)
    (λ found. UnlessNone (rows_needed rows == 0) (AreRowsAppended user sheet rows book found) told)) is
    (subst (λ n. UnlessNone (n == 0) (AreRowsAppended user sheet rows book found) told) (sym none) refl)

-- ---- rows that are added

abbrev wrong : Rule → Result (Unit {0}) Rule
wrong broken = Err broken

right_not_wrong : (broken : Rule) → ◌≡◌ {A = Result (Unit {0}) Rule} (Ok tt) (Err broken) → ⊥
right_not_wrong broken e = cc

wrong_same : (one other : Rule) → wrong one ≡ wrong other → one ≡ other
wrong_same one other e = cc

unbroken_by : (found : Option Rule) → ◌≡◌ {A = Result (Unit {0}) Rule} (Ok tt) (option_map_or Err found (Ok tt))
    → found ≡ None
unbroken_by None is = refl
unbroken_by (Some broken) is = absurd (right_not_wrong broken is)

broken_by : (found : Option Rule) (broken : Rule)
    → ◌≡◌ {A = Result (Unit {0}) Rule} (Err broken) (option_map_or Err found (Ok tt)) → found ≡ Some broken
broken_by None broken is = absurd (right_not_wrong broken (sym is))
broken_by (Some first) broken is = ap (λ one. Some one) (sym (wrong_same broken first is))

module _ (sheet count : ℕ) (before : PlaceBook) (found : PlaceSheet)
    (there : place_sheet_with sheet before.sheets ≡ Some found) where
  pub none_added : ChangesInTurn → count ≡ 0 → AreRowsAdded sheet count found before before (Ok tt)
  none_added turns none = (
    ap (λ b. cond b None (first_broken (lines_broken sheet Rows (Insert found.table.rows count) before.sheets)))
        (eq-eqb count 0 none),
    record {
      changes = subst (λ (list : List BookChange). AreChanges list before before)
          (ap (λ b. cond b [] (BookChange.LinesChanged sheet Rows (Insert found.table.rows count) ∷ []))
          (sym (eq-eqb count 0 none))) (turns.none before);
      own = found;
      there = there;
      size = ap (λ rows. (rows, found.table.cols)) (omega (arith, none));
    },
  )

  some_broken : 0 < count → broken_by_rows sheet count found before.sheets
      ≡ first_broken (lines_broken sheet Rows (Insert found.table.rows count) before.sheets)
  some_broken some =
      ap (λ b. cond b None (first_broken (lines_broken sheet Rows (Insert found.table.rows count) before.sheets)))
      (ne_eqb count 0 (λ none. omega (arith, some, none)))

  -- the first limit behind that on rows which is passed
  abbrev behind_rows : ℕ → Option Limit
  behind_rows places =
      first_of
      (limit.Columns ∷ limit.Cells ∷ limit.Filled ∷ limit.Formulas ∷ limit.Tokens ∷ limit.References ∷ limit.Depth
      ∷ limit.Merges ∷ limit.Names ∷ limit.Protections ∷ limit.Metadata ∷ [])
      (passes_size (found.table.rows + count, found.table.cols) places)

  -- whether the rows tear a merge of a sheet
  abbrev is_cut : PlaceSheet → Bool
  is_cut own = list_any (tears_merge Rows (lines_of_sheet Rows own) (Insert found.table.rows count)) own.merges

  pub many_refused : MOST_ROWS < count → AreRowsAdded sheet count found before before (Err (rule.PastLimit limit.Rows))
  many_refused many =
      let rows = found.table.rows in
      let places = places_changed sheet Rows (Insert rows count) before.sheets in
      some_broken (omega (arith, many))
      ∙ ap (λ one. first_broken (option_map_or (λ (own : PlaceSheet). record unbroken {
        last_line = (own.table.rows + count) == 0;
        past_limit = first_passed (passes_size (own.table.rows + count, own.table.cols) places);
        merge_cut = is_cut own;
      }) one unbroken)) there
      ∙ ap (λ last. first_broken (record unbroken {
        last_line = last;
        past_limit = first_passed (passes_size (rows + count, found.table.cols) places);
        merge_cut = is_cut found;
      })) (ne_eqb (rows + count) 0 (λ none. omega (arith, many, none)))
      ∙ ap (λ past. first_broken (record unbroken {
        past_limit = cond past (Some limit.Rows) (behind_rows places);
        merge_cut = is_cut found;
      })) (lt-ltb MOST_ROWS (rows + count) (omega (arith, many)))

  size_added : (after : Option PlaceSheet) → option_map size_of after
      ≡ option_map (size_changed sheet Rows (Insert found.table.rows count)) (Some found)
      → IsSomeAnd after (λ own. size_of own ≡ (found.table.rows + count, found.table.cols))
  size_added None is = absurd (none_some _ is)
    where
      none_some : (size : ℕ × ℕ) → None ≡ Some size → ⊥
      none_some size e = cc
  size_added (Some own) is =
      same (size_of own) (size_changed sheet Rows (Insert found.table.rows count) found) is
      ∙ ap (λ b. cond b (found.table.rows + count, found.table.cols) (size_of found))
      (eq-eqb found.id sheet (sheet_has_id sheet before.sheets found there))
    where
      same : (one other : ℕ × ℕ) → Some one ≡ Some other → one ≡ other
      same one other e = cc

  pub some_added : (after : PlaceBook) → 0 < count
      → IsLinesAnswer sheet Rows (Insert found.table.rows count) before after (Ok tt)
      → AreRowsAdded sheet count found before after (Ok tt)
  some_added after some is =
      let (own, own_there, size) =
      some_and (λ (own : PlaceSheet). size_of own ≡ (found.table.rows + count, found.table.cols))
      (place_sheet_with sheet after.sheets)
      (size_added (place_sheet_with sheet after.sheets)
      (is.sizes sheet ∙ ap (option_map (size_changed sheet Rows (Insert found.table.rows count))) there)) in (
        some_broken some
            ∙ unbroken_by
            (first_broken (lines_broken sheet Rows (Insert found.table.rows count) before.sheets)) is.judged,
        record {
          changes = subst (λ (list : List BookChange). AreChanges list before after)
              (ap (λ b. cond b [] (BookChange.LinesChanged sheet Rows (Insert found.table.rows count) ∷ []))
              (sym (ne_eqb count 0 (λ none. omega (arith, some, none))))) is.changed;
          own = own;
          there = own_there;
          size = size;
        },
      )

  pub some_refused : (after : PlaceBook) (fault : RuleOr) → 0 < count
      → IsUnlessNoMemory (IsLinesAnswer sheet Rows (Insert found.table.rows count) before after) (Err fault)
      → IsUnlessNoMemory (AreRowsAdded sheet count found before after) (Err fault)
  some_refused after (refusal.Rule broken) some is =
      some_broken some
      ∙ broken_by (first_broken (lines_broken sheet Rows (Insert found.table.rows count) before.sheets))
      broken is.judged
  some_refused after refusal.NoMemory some is = tt

-- ---- rows that are written behind them

module _ (user : List ℕ) (sheet row : ℕ) (rows : Block) (before : PlaceBook) (found : PlaceSheet) where
  abbrev count : ℕ
  count = rows_missing row rows found

  abbrev WrittenCells : Tells
  WrittenCells = AreRowsWrittenBy user (added_on sheet Rows found.table.rows count) rows before (from_row sheet row)

  -- with them the first cell is there
  pub cell_there : (between : PlaceBook) → 0 < found.table.cols → 0 < rows_needed rows
      → AreThere sheet count found before between → IsThere between.sheets (from_row sheet row)
  cell_there between cols some is =
      let last : is.own.table.rows ≡ found.table.rows + count = ap (λ (size : ℕ × ℕ). size.0) is.size in
      let wide : is.own.table.cols ≡ found.table.cols = ap (λ (size : ℕ × ℕ). size.1) is.size in
      subst (λ one. IsSomeAnd one (λ (own : PlaceSheet). AreaWithin (from_row sheet row) own.table.rows own.table.cols))
      (sym is.there) (omega (arith, last, some), omega (arith, wide, cols))

  pub written_told : (after : PlaceBook) (answer : Reply) → broken_by_rows sheet count found before.sheets ≡ None
      → IsDoneTo WrittenCells before after (Ok answer)
      → IsDoneTo (AreWrittenFrom user sheet row rows before found) before after (Ok answer)
  written_told after answer none (changes, is, made) = (
    changes,
    subst (λ broken. UnlessBroken broken WrittenCells (Ok (answer, changes))) (sym none) is,
    made,
  )

  pub written_refused : (after : PlaceBook) (fault : RuleOr) → broken_by_rows sheet count found before.sheets ≡ None
      → IsUnlessNoMemory (IsDoneTo WrittenCells before after) (Err fault)
      → IsUnlessNoMemory (IsDoneTo (AreWrittenFrom user sheet row rows before found) before after) (Err fault)
  written_refused after (refusal.Rule broken) none is =
      subst (λ first. UnlessBroken first WrittenCells (Err broken)) (sym none) is
  written_refused after refusal.NoMemory none is = tt

  pub adding_refused : (between after : PlaceBook) (fault : RuleOr)
      → IsUnlessNoMemory (AreRowsAdded sheet count found before between) (Err fault)
      → IsUnlessNoMemory (IsDoneTo (AreWrittenFrom user sheet row rows before found) before after) (Err fault)
  adding_refused between after (refusal.Rule broken) is =
      subst (λ first. UnlessBroken first WrittenCells (Err broken)) (sym is) refl
  adding_refused between after refusal.NoMemory is = tt

-- ---- from the sheet that is found

module _ (sheet count : ℕ) (before : PlaceBook) where
  abbrev Adds : PlaceBook → Result (Unit {0}) RuleOr → PlaceSheet → Type 0
  Adds after answer found = IsUnlessNoMemory (AreRowsAdded sheet count found before after) answer

  pub found_none_added : ChangesInTurn → IsSome (place_sheet_with sheet before.sheets) → count ≡ 0
      → IsSomeAnd (place_sheet_with sheet before.sheets) (Adds before (Ok tt))
  found_none_added turns there none = on (place_sheet_with sheet before.sheets) refl there
    where
      on : (found : Option PlaceSheet) → place_sheet_with sheet before.sheets ≡ found → IsSome found
          → IsSomeAnd found (Adds before (Ok tt))
      on None is there = absurd (false≢true there)
      on (Some found) is there = none_added sheet count before found is turns none

  pub found_some_added : (after : PlaceBook) → 0 < count
      → IsSomeAnd (place_sheet_with sheet before.sheets) (λ found.
      IsUnlessNoMemory (IsLinesAnswer sheet Rows (Insert found.table.rows count) before after) (Ok tt))
      → IsSomeAnd (place_sheet_with sheet before.sheets) (Adds after (Ok tt))
  found_some_added after some answers =
      let (found, is, answer) = some_and (λ (found : PlaceSheet).
      IsLinesAnswer sheet Rows (Insert found.table.rows count) before after (Ok tt))
      (place_sheet_with sheet before.sheets) answers in
      subst (λ one. IsSomeAnd one (Adds after (Ok tt))) (sym is)
      (some_added sheet count before found is after some answer)

module _ (user : List ℕ) (sheet row : ℕ) (rows : Block) (before : PlaceBook) (missing_rows : ℕ)
    (there : IsSomeAnd (place_sheet_with sheet before.sheets) (λ found. row ≤ found.table.rows))
    (missing_is : IsSomeAnd (place_sheet_with sheet before.sheets)
    (λ found. missing_rows ≡ rows_missing row rows found)) where
  -- the sheet, and what is known of it
  found_sheet : (found : PlaceSheet) × (place_sheet_with sheet before.sheets ≡ Some found)
      × (missing_rows ≡ rows_missing row rows found)
  found_sheet =
      some_and (λ found. missing_rows ≡ rows_missing row rows found) (place_sheet_with sheet before.sheets) missing_is

  abbrev FromFound : PlaceBook → Result Reply RuleOr → PlaceSheet → Type 0
  FromFound after answer found =
      IsUnlessNoMemory (IsDoneTo (AreWrittenFrom user sheet row rows before found) before after) answer

  module _ (between : PlaceBook)
      (added : IsSomeAnd (place_sheet_with sheet before.sheets)
      (λ found. IsUnlessNoMemory (AreRowsAdded sheet missing_rows found before between) (Ok tt))) where
    added_to : (found : PlaceSheet) → place_sheet_with sheet before.sheets ≡ Some found
        → missing_rows ≡ rows_missing row rows found
        → AreRowsAdded sheet (rows_missing row rows found) found before between (Ok tt)
    added_to found is same =
        subst (λ count. AreRowsAdded sheet count found before between (Ok tt)) same
        (subst (λ one. IsSomeAnd one (λ found. AreRowsAdded sheet missing_rows found before between (Ok tt))) is added)

    pub found_there : IsSound before → 0 < rows_needed rows → IsThere between.sheets (from_row sheet row)
    found_there sound some =
        let (found, is, same) = found_sheet in
        cell_there user sheet row rows before found between (sound_sheet before sound sheet found is).cols.0 some
        (added_to found is same).1

    module _ (denied : Option ℕ)
        (is_denied : IsDenial user between (WriteCells between.sheets true (from_row sheet row) rows) denied) where
      pub found_refused : (after : PlaceBook) (fault : RuleOr)
          → IsSomeAnd (place_sheet_with sheet between.sheets)
          (λ own. IsUnlessNoMemory (IsWrite true (from_row sheet row) rows own between after) (Err fault))
          → IsSomeAnd (place_sheet_with sheet before.sheets) (FromFound after (Err fault))
      found_refused after fault written =
          let (found, is, same) = found_sheet in
          let (none, lines) = added_to found is same in
          subst (λ one. IsSomeAnd one (FromFound after (Err fault))) (sym is)
          (written_refused user sheet row rows before found after fault none
          (rows_refused_by user (added_on sheet Rows found.table.rows (rows_missing row rows found)) rows before between
          after (from_row sheet row) lines.changes denied is_denied fault written))

      module _ (turns : ChangesInTurn) (are : UpdatesAreChanges) (after : PlaceBook) (wrote : WrittenValues)
          (written : IsSomeAnd (place_sheet_with sheet between.sheets)
          (λ own. IsUnlessNoMemory (IsWrite true (from_row sheet row) rows own between after) (Ok wrote))) where
        pub found_told : denied ≡ None
            → IsSomeAnd (place_sheet_with sheet before.sheets) (FromFound after (Ok reply.Empty))
        found_told allowed =
            let (found, is, same) = found_sheet in
            let (none, lines) = added_to found is same in
            subst (λ one. IsSomeAnd one (FromFound after (Ok reply.Empty))) (sym is)
            (written_told user sheet row rows before found after reply.Empty none
            (rows_written_by user (added_on sheet Rows found.table.rows (rows_missing row rows found)) rows
            before between
            after (from_row sheet row) lines.changes denied is_denied turns are wrote written allowed))

        pub found_denied : (id : ℕ) → denied ≡ Some id
            → IsSomeAnd (place_sheet_with sheet before.sheets)
            (FromFound after (Err (refusal.Rule (rule.Protected id))))
        found_denied id some =
            let (found, is, same) = found_sheet in
            let (none, lines) = added_to found is same in
            subst (λ one. IsSomeAnd one (FromFound after (Err (refusal.Rule (rule.Protected id))))) (sym is)
            (written_refused user sheet row rows before found after (refusal.Rule (rule.Protected id)) none
            (rows_denied user (added_on sheet Rows found.table.rows (rows_missing row rows found)) rows before between
            after (from_row sheet row) lines.changes denied is_denied turns are wrote written id some))

-- a row behind the last one is one of the sheet's, or the one behind them
pub behind_there : (book : PlaceBook) → IsSound book → (sheet row : ℕ) (found : PlaceSheet)
    → Some found ≡ place_sheet_with sheet book.sheets → IsRowBehind found.table row
    → IsSomeAnd (place_sheet_with sheet book.sheets) (λ found. row ≤ found.table.rows)
behind_there book sound sheet row found is behind =
    subst (λ one. IsSomeAnd one (λ (found : PlaceSheet). row ≤ found.table.rows)) is
    (behind.least found.table.rows (λ r c stored. ((sound_sheet book sound sheet found (sym is)).inside r c stored).0))
