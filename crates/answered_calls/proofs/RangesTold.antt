-- How many named ranges what is told adds: at most one, where it is told of lines, of sizes or of cells.
use Rattle.std.proofs.Common.{◌≡◌, ℕ, ◌-◌, ◌≤◌, refl, sym, subst, List, [], ◌∷◌, ◌++◌, Bool, true, false, arith}
use Rattle.std.specs.Prelude.{◌==◌, IfOk, MatchOption, MatchResult, None, Option, Some, Result, Ok, Err, if◌then◌else◌, nat_lt}
use Rattle.std.specs.Option.{option_map_or}
use Rattle.cell_value.specs.declared.cell.Block.{Block}
use Rattle.cell_value.specs.declared.cell.SheetProperties.{SheetProperties}
use Rattle.grid_range.specs.declared.area.Area.{Area}
use Rattle.grid_range.specs.declared.axis.Axis.{Axis}
use Rattle.grid_range.specs.declared.axis.Axis.TheVariants.{Rows, Columns}
use Rattle.grid_range.specs.declared.change.Change.{Change}
use Rattle.grid_range.specs.declared.change.Change.TheVariants.{Insert, Delete}
use Rattle.world_model.specs.Book.{PlaceBook}
use Rattle.world_model.specs.BookChange.{BookChange}
use Rattle.world_model.specs.Laws.{size_of}
use Rattle.world_model.specs.Sheet.{PlaceSheet}
use Rattle.dimension_ops.specs.Broken.{Broken, first_broken, judged_by}
use Rattle.dimension_ops.specs.Lines.{lines_broken}
use Rattle.dimension_ops.specs.SetProperties.{all_set, lines_added, lines_cut, mark_set, size_given, size_set, title_set}
use Rattle.dimension_ops.specs.declared.rule.Rule.{Rule}
use Rattle.dimension_ops.specs.declared.rule.Rule.TheVariants as rule
use Rattle.values_api.specs.Appends.{added_on}
use Rattle.values_api.specs.Blocks.{contents_of}
use Rattle.values_api.specs.Denials.{unless_denied}
use Rattle.sheets_json.specs.declared.spreadsheet.Reply.{Reply}
use Rattle.sheets_json.specs.declared.spreadsheet.Reply.TheVariants as reply
use Rattle.request_kinds.specs.AppendCells.{AreRowsAppended, AreRowsWrittenBy, UnlessNone, broken_by_rows, from_row, rows_missing}
use Rattle.request_kinds.specs.Dimensions.{lines_told}
use Rattle.request_kinds.specs.Rows.{AreRowsPut, OnArea}
use Rattle.request_kinds.specs.Telling.{Tells, UnlessBroken, cells_updated}
use Rattle.answered_calls.proofs.RangesCounted.{all_set_by}

-- so many named ranges are added or changed at most
abbrev pub SetsFew : {A : Type 0} → ℕ → Result (A × List BookChange) Rule → Type 0
SetsFew most told = IfOk told (λ done. all_set_by done.1 ≤ most)

-- none is
abbrev pub SetsNone : List BookChange → Type 0
SetsNone changes = all_set_by changes ≡ 0

pub both_none : (first later : List BookChange) → SetsNone first → SetsNone later → SetsNone (first ++ later)
both_none [] later none none' = none'
both_none (change ∷ first) later none none' =
    let rest = both_none first later (omega (arith, none)) none' in omega (arith, none, rest)

module _ {A : Type 0} (most : ℕ) where
  pub as_told : (told other : Result (A × List BookChange) Rule) → told ≡ other → SetsFew most other → SetsFew most told
  as_told told other is few = subst (SetsFew most) (sym is) few

  unless_first : (first : Option Rule) (told : Result (A × List BookChange) Rule) → SetsFew most told
      → SetsFew most (option_map_or Err first told)
  unless_first None told few = few
  unless_first (Some broken) told few = tt

  pub judged : (broken : Broken) (done : A × List BookChange) → all_set_by done.1 ≤ most
      → (told : Result (A × List BookChange) Rule) → told ≡ judged_by broken done → SetsFew most told
  judged broken done few told is =
      as_told told (judged_by broken done) is (unless_first (first_broken broken) (Ok done) few)

  pub on_area : (area : Result Area Rule) (IsDone : Area → Result (A × List BookChange) Rule → Type 0)
      → ((cut : Area) (told : Result (A × List BookChange) Rule) → IsDone cut told → SetsFew most told)
      → (told : Result (A × List BookChange) Rule) → OnArea area IsDone told → SetsFew most told
  on_area (Ok cut) IsDone each told is = each cut told is
  on_area (Err broken) IsDone each told is = as_told told (Err broken) is tt

  pub unless_denied_few : (denied : Option ℕ) (done : Result (A × List BookChange) Rule) → SetsFew most done
      → SetsFew most (unless_denied denied done)
  unless_denied_few None (Ok done) few = few
  unless_denied_few (Some id) (Ok done) few = tt
  unless_denied_few None (Err broken) few = tt
  unless_denied_few (Some id) (Err broken) few = tt

  pub matched : {W : Type 0} (wrote : Result W Rule) (made : W → Result (A × List BookChange) Rule)
      → ((one : W) → SetsFew most (made one)) → (told : Result (A × List BookChange) Rule)
      → MatchResult wrote (λ one. told ≡ made one) (λ broken. told ≡ Err broken) → SetsFew most told
  matched (Ok one) made few told is = as_told told (made one) is (few one)
  matched (Err broken) made few told is = as_told told (Err broken) is tt

abbrev pub as_reply : Reply × List BookChange → Result (Reply × List BookChange) Rule
as_reply done = Ok done

pub unless_broken : (most : ℕ) (first : Option Rule) (IsDone : Tells)
    → ((told : Result (Reply × List BookChange) Rule) → IsDone told → SetsFew most told)
    → (told : Result (Reply × List BookChange) Rule) → UnlessBroken first IsDone told → SetsFew most told
unless_broken most None IsDone each told is = each told is
unless_broken most (Some broken) IsDone each told is = as_told most told (Err broken) is tt

-- ---- lines and sizes

pub lines_few : (most : ℕ) (broken : Broken) (sheet : ℕ) (axis : Axis) (change : Change) (sheets : List PlaceSheet)
    (told : Result (Reply × List BookChange) Rule) → told ≡ lines_told broken sheet axis change sheets
    → SetsFew most told
lines_few most broken sheet axis change sheets told is =
    let done : Reply × List BookChange = (reply.Empty, BookChange.LinesChanged sheet axis change ∷ []) in
    let some : all_set_by done.1 ≤ most = omega arith in
    as_told most told (lines_told broken sheet axis change sheets) is (unless_first most (first_broken broken)
    (judged_by (lines_broken sheet axis change sheets) done)
    (judged most (lines_broken sheet axis change sheets) done some
    (judged_by (lines_broken sheet axis change sheets) done) refl))

if_changed : (b : Bool) (sheet : ℕ) (axis : Axis) (change : Change)
    → SetsNone (if b then BookChange.LinesChanged sheet axis change ∷ [] else [])
if_changed true sheet axis change = refl
if_changed false sheet axis change = refl

pub added_none : (sheet : ℕ) (axis : Axis) (at count : ℕ) → SetsNone (added_on sheet axis at count)
added_none sheet axis at count = either (count == 0)
  where
    either : (b : Bool) → SetsNone (if b then [] else BookChange.LinesChanged sheet axis (Insert at count) ∷ [])
    either true = refl
    either false = refl

title_none : (id : ℕ) (title : Option (List ℕ)) → SetsNone (title_set id title)
title_none id None = refl
title_none id (Some title) = refl

mark_none : (id : ℕ) (hidden : Option Bool) → SetsNone (mark_set id hidden)
mark_none id None = refl
mark_none id (Some hidden) = refl

size_none : (id : ℕ) (size given : ℕ × ℕ) → SetsNone (size_set id size given)
size_none id size given =
    let rows_gone = lines_cut id Rows size.0 given.0 in
    let cols_gone = lines_cut id Columns size.1 given.1 in
    let rows_new = lines_added id Rows size.0 given.0 in
    let cols_new = lines_added id Columns size.1 given.1 in
    both_none (rows_gone ++ cols_gone ++ rows_new) cols_new
    (both_none (rows_gone ++ cols_gone) rows_new
    (both_none rows_gone cols_gone (if_changed (nat_lt given.0 size.0) id Rows (Delete given.0 size.0))
    (if_changed (nat_lt given.1 size.1) id Columns (Delete given.1 size.1)))
    (if_changed (nat_lt size.0 given.0) id Rows (Insert size.0 (given.0 - size.0))))
    (if_changed (nat_lt size.1 given.1) id Columns (Insert size.1 (given.1 - size.1)))

pub all_none : (id : ℕ) (properties : SheetProperties) (found : Option PlaceSheet)
    → SetsNone (option_map_or (λ sheet. all_set id properties (size_of sheet)) found [])
all_none id properties None = refl
all_none id properties (Some sheet) =
    let size = size_of sheet in
    both_none (title_set id properties.title ++ mark_set id properties.hidden)
    (size_set id size (size_given properties size))
    (both_none (title_set id properties.title) (mark_set id properties.hidden) (title_none id properties.title)
    (mark_none id properties.hidden)) (size_none id size (size_given properties size))

-- ---- cells

pub rows_few : (most : ℕ) (first : List BookChange) (rows : Block) (one_cell : Bool) (between : PlaceBook) (area : Area)
    → SetsNone first → (told : Result (Reply × List BookChange) Rule)
    → AreRowsPut first rows one_cell between area told → SetsFew most told
rows_few most first rows one_cell between area none told put =
    let later = cells_updated area.sheet (contents_of put.writes.entries) in
    let whole = both_none first later none refl in
    matched most put.wrote (λ counts. as_reply (reply.Empty, first ++ later)) (λ counts. omega (arith, whole))
    told put.tells

pub appended_few : (most : ℕ) (user : List ℕ) (sheet : ℕ) (rows : Block) (book : PlaceBook) (found : Option PlaceSheet)
    (none : Bool)
    (told : Result (Reply × List BookChange) Rule)
    → MatchOption found (told ≡ Err rule.NoSheet)
    (λ one. UnlessNone none (AreRowsAppended user sheet rows book one) told) → SetsFew most told
appended_few most user sheet rows book None none told is = as_told most told (Err rule.NoSheet) is tt
appended_few most user sheet rows book (Some found) true told is =
    as_told most told (Ok (reply.Empty, [])) is (omega arith)
appended_few most user sheet rows book (Some found) false told is =
    let missing = rows_missing is.row rows found in
    let first = added_on sheet Rows found.table.rows missing in
    unless_broken most (broken_by_rows sheet missing found book.sheets)
    (AreRowsWrittenBy user first rows book (from_row sheet is.row)) (λ told by.
    as_told most told (unless_denied by.put.denied by.put.done) by.put.told_is
    (unless_denied_few most by.put.denied by.put.done (rows_few most first rows true by.between (from_row sheet is.row)
    (added_none sheet Rows found.table.rows missing) by.put.done by.put.is))) told is.written
