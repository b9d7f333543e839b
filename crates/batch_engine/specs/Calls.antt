-- What a call is answered, and what it makes of the spreadsheets (Google Sheets API v4 reference, spreadsheets.create,
-- spreadsheets.get, spreadsheets.batchUpdate, spreadsheets.values.get, batchGet, batchGetByDataFilter, update,
-- batchUpdate, append, clear and batchClear, and spreadsheets.developerMetadata.get and search).
use Rattle.std.specs.Prelude.{◌≡◌, ℕ, Bool, false, ◌==◌, ◌&&◌, List, map, flat_map, Option, Some, None, unwrap_or, Result, Ok, Err}
use Rattle.std.specs.Prelude.{IsSomeAnd, ⊤}
use Rattle.std.specs.List.{sum_by}
use Rattle.std.specs.Option.{IsSome}
use Rattle.std.specs.Set.{distinct_count}
use Rattle.grid_range.specs.declared.axis.Axis.{Axis}
use Rattle.grid_range.specs.declared.axis.Axis.TheVariants.{Rows, Columns}
use Rattle.cell_value.specs.declared.cell.Render.{Render}
use Rattle.world_model.specs.Book.{PlaceBook}
use Rattle.world_model.specs.BookChange.{AreChanges, BookChange}
use Rattle.dimension_ops.specs.ByName.{ReplacesByName}
use Rattle.dimension_ops.specs.World.{book_with}
use Rattle.dimension_ops.specs.declared.rule.Rule.{Rule}
use Rattle.dimension_ops.specs.declared.rule.RuleOr.{RuleOr}
use Rattle.dimension_ops.specs.declared.rule.RuleOr.TheVariants as refusal
use Rattle.values_api.specs.declared.writing.WrittenCells.{WrittenCells}
use Rattle.sheets_json.specs.declared.answer.Answer.{Answer}
use Rattle.sheets_json.specs.declared.answer.Answer.TheVariants as answer
use Rattle.sheets_json.specs.declared.answer.MatchedRange.{MatchedRange}
use Rattle.sheets_json.specs.declared.answer.ShownRange.{ShownRange}
use Rattle.sheets_json.specs.declared.call.Call.{Call}
use Rattle.sheets_json.specs.declared.call.Call.TheVariants as call
use Rattle.sheets_json.specs.declared.call.InsertData.{InsertData}
use Rattle.sheets_json.specs.declared.call.RangeBlock.{RangeBlock}
use Rattle.sheets_json.specs.declared.call.ValueRange.{ValueRange}
use Rattle.sheets_json.specs.declared.spreadsheet.Reply.{Reply}
use Rattle.sheets_json.specs.declared.spreadsheet.Spreadsheet.{Spreadsheet}
use Rattle.sheets_json.specs.declared.place.Place.{Place}
use Rattle.sheets_json.specs.declared.place.Place.TheVariants as place
use Rattle.json_requests.specs.declared.request.DataFilter.{DataFilter}
use Rattle.json_requests.specs.declared.request.MetadataLookup.{MetadataLookup}
use Rattle.json_requests.specs.declared.request.Step.{Step}
use Rattle.json_requests.specs.declared.request.Step.TheVariants as step
use Rattle.json_shapes.specs.Reading.{Reading}
use Rattle.request_kinds.specs.Requests.{IsDoneAsAsked}
use Rattle.batch_engine.specs.Create.{IsCreateOf}
use Rattle.batch_engine.specs.Effects.{Effect, IsNext}
use Rattle.batch_engine.specs.Effects.Effect.{Nothing, Changes}
use Rattle.batch_engine.specs.Filtered.{AreShownBy, Showing}
use Rattle.batch_engine.specs.Looks.{IsSpreadsheetShown}
use Rattle.batch_engine.specs.Members.{InOrder, InTurn, ToldOfAll}
use Rattle.batch_engine.specs.Searches.{AreSearched, item_told, search_answer}
use Rattle.batch_engine.specs.Values.{IsAppended, IsCleared, IsShown, IsUpdated, IsWritten, Wrote, inserts, rule_of}
use Rattle.batch_engine.specs.declared.calls.Caller.{Caller}
use Rattle.batch_engine.specs.declared.calls.Outcome.{Outcome}
use Rattle.batch_engine.specs.declared.calls.Outcome.TheVariants as outcome

-- ---- refusals

-- where in a call a rule is broken, and which
abbrev pub Refusal : Type 0
Refusal = Place × Rule

-- a rule that a call breaks which has no members
abbrev pub alone : {A : Type 0} → Result A Rule → Result A Refusal
alone (Ok told) = Ok told
alone (Err broken) = Err (place.Alone, broken)

pub record IsAlone (Answered : Result Answer Rule → Effect → Type 0) (told : Result Answer Refusal) (effect : Effect)
    : Type 0 where
  pub judged : Result Answer Rule
  pub answered : Answered judged effect
  pub told_is : told ≡ alone judged

-- ---- calls on one range

-- what is told of it is answered so
abbrev pub answered_by : {A : Type 0} → (A → Answer) → Result A Rule → Result Answer Rule
answered_by answer_of (Ok one) = Ok (answer_of one)
answered_by answer_of (Err broken) = Err broken

-- what is told of it, without its changes
abbrev pub told_of : {A : Type 0} → Result (A × List BookChange) Rule → Result A Rule
told_of (Ok (one, changes)) = Ok one
told_of (Err broken) = Err broken

abbrev pub effect_on : {A : Type 0} → PlaceBook → Result (A × List BookChange) Rule → Effect
effect_on book (Ok (one, changes)) = Changes book.id changes
effect_on book (Err broken) = Nothing

-- something is shown
pub record IsSeen {A : Type 0} (Is : Result A Rule → Type 0) (answer_of : A → Answer) (told : Result Answer Rule)
    (effect : Effect) : Type 0 where
  pub one : Result A Rule
  pub is : Is one
  pub told_is : told ≡ answered_by answer_of one
  pub nothing : effect ≡ Nothing

-- something is done, and changes the spreadsheet
pub record IsMade {A : Type 0} (Is : Result (A × List BookChange) Rule → Type 0) (answer_of : A → Answer)
    (book : PlaceBook) (told : Result Answer Rule) (effect : Effect) : Type 0 where
  pub one : Result (A × List BookChange) Rule
  pub is : Is one
  pub told_is : told ≡ answered_by answer_of (told_of one)
  pub effect_is : effect ≡ effect_on book one

abbrev pub IsReadOf : List ℕ → Option Axis → Option Render → PlaceBook → Result Answer Rule → Effect → Type 0
IsReadOf range dimension render book = IsSeen (IsShown dimension render book range) answer.Read

abbrev pub IsWriteOf : List ℕ → List ℕ → Reading ValueRange → PlaceBook → Result Answer Rule → Effect → Type 0
IsWriteOf user range values book = IsMade (IsWritten user range book values) (λ wrote. answer.Write wrote.0) book

abbrev pub IsAppendOf : List ℕ → List ℕ → Option InsertData → Reading ValueRange → PlaceBook
    → Result Answer Rule → Effect
    → Type 0
IsAppendOf user range option values book =
    IsMade (IsAppended user range (inserts option) book values) (λ made. answer.Append book.id made.0 made.1) book

abbrev pub IsClearOf : List ℕ → List ℕ → PlaceBook → Result Answer Rule → Effect → Type 0
IsClearOf user range book = IsMade (IsCleared user book (Ok range)) (λ text. answer.Clear text book.id) book

-- ---- calls on several ranges

-- what is told of members is answered so; a rule is told with the place of the member that breaks it
abbrev pub answered_at : {A : Type 0} → (ℕ → Place) → (List A → Answer) → ToldOfAll A → Result Answer Refusal
answered_at at answer_of (Ok all) = Ok (answer_of all)
answered_at at answer_of (Err (number, broken)) = Err (at number, broken)

abbrev pub effect_of : {A : Type 0} → PlaceBook → ToldOfAll A → List BookChange → Effect
effect_of book (Ok all) changes = Changes book.id changes
effect_of book (Err refused_at) changes = Nothing

-- ranges are read one after another
pub record IsReadManyOf (ranges : List (List ℕ)) (dimension : Option Axis) (render : Option Render) (book : PlaceBook)
    (told : Result Answer Refusal) (effect : Effect) : Type 0 where
  pub shown : ToldOfAll ShownRange
  pub each : InOrder (IsShown dimension render book) 0 ranges shown
  pub told_is : told ≡ answered_at place.Ranges (λ all. answer.ReadMany book.id all) shown
  pub nothing : effect ≡ Nothing

-- members are done one after another, or none is
pub record AreMade {M A : Type 0} (Is : PlaceBook → M → Result (A × List BookChange) Rule → Type 0) (members : List M)
    (at : ℕ → Place) (answer_of : List A → Answer) (book : PlaceBook) (told : Result Answer Refusal) (effect : Effect)
    : Type 0 where
  pub all : ToldOfAll A
  pub changes : List BookChange
  pub each : InTurn Is 0 members book all changes
  pub told_is : told ≡ answered_at at answer_of all
  pub effect_is : effect ≡ effect_of book all changes

abbrev pub IsClearManyOf : List ℕ → List (Reading (List ℕ)) → PlaceBook → Result Answer Refusal → Effect → Type 0
IsClearManyOf user ranges book =
    AreMade (IsCleared user) ranges place.Ranges (λ texts. answer.ClearMany texts book.id) book

abbrev pub lines_on : Axis → WrittenCells → List ℕ
lines_on Rows written = written.rows
lines_on Columns written = written.cols

-- the lines with a cell that was written or emptied, each with its sheet
abbrev pub lines_written : (WrittenCells → List ℕ) → List Wrote → List (ℕ × ℕ)
lines_written lines = flat_map (λ wrote. map (λ line. (wrote.1.area.sheet, line)) (lines wrote.1))

-- lines are told apart by their sheets and their numbers
abbrev pub same_line : ℕ × ℕ → ℕ × ℕ → Bool
same_line (sheet, line) (other, number) = sheet == other && line == number

abbrev pub written_answer : PlaceBook → List Wrote → Answer
written_answer book writes =
    let rows = lines_written (lines_on Rows) writes in
    let cols = lines_written (lines_on Columns) writes in
    answer.WriteMany (map (λ wrote. wrote.0) writes) book.id (sum_by (λ wrote. wrote.1.cells) writes)
    (distinct_count same_line cols) (distinct_count same_line rows) (distinct_count ◌==◌ (map (λ line. line.0) rows))

abbrev pub IsWriteManyOf : List ℕ → List (Reading RangeBlock) → PlaceBook → Result Answer Refusal → Effect → Type 0
IsWriteManyOf user blocks book = AreMade (IsUpdated user) blocks place.Data (written_answer book) book

-- ---- batches

-- what a request of a user, and of the project under which he sees metadata, is replied and changes; one whose shape is
-- broken is refused in its turn
abbrev pub IsRequested : List ℕ → List ℕ → PlaceBook → Step → Result (Reply × List BookChange) Rule → Type 0
IsRequested user project book (step.Read asked) told = IsDoneAsAsked user project book asked told
IsRequested user project book (step.Shape shape) told = told ≡ Err (rule_of shape)

-- requests are done one after another, or none is
abbrev pub IsBatchOf : List ℕ → List ℕ → List Step → PlaceBook → Result Answer Refusal → Effect → Type 0
IsBatchOf user project requests book =
    AreMade (IsRequested user project) requests place.Requests (λ replies. answer.Batch replies book.id) book

-- ---- looks at metadata

abbrev pub IsItemOf : List ℕ → ℕ → PlaceBook → Result Answer Refusal → Effect → Type 0
IsItemOf project id book told effect = (told ≡ alone (item_told project id book)) × (effect ≡ Nothing)

pub record IsSearchOf (project : List ℕ) (filters : List (Reading MetadataLookup)) (book : PlaceBook)
    (told : Result Answer Refusal) (effect : Effect) : Type 0 where
  pub asked : ToldOfAll MetadataLookup
  pub ids : List ℕ
  pub searched : AreSearched project filters book asked ids
  pub told_is : told ≡ answered_at place.Filters (search_answer project ids book) asked
  pub nothing : effect ≡ Nothing

-- what each filter shows, filter by filter
pub record IsReadFilteredOf (project : List ℕ) (filters : List (Reading DataFilter)) (how : Showing) (book : PlaceBook)
    (told : Result Answer Refusal) (effect : Effect) : Type 0 where
  pub shown : ToldOfAll (List MatchedRange)
  pub each : InOrder (AreShownBy project how book) 0 filters shown
  pub told_is : told
      ≡ answered_at place.Filters (λ all. answer.ReadFiltered book.id (flat_map (λ part. part) all)) shown
  pub nothing : effect ≡ Nothing

-- ---- calls

-- what holds of the spreadsheet with the id, which is there
abbrev pub OnBook : List ℕ → List PlaceBook → (PlaceBook → Type 0) → Type 0
OnBook id books Holds = IsSomeAnd (book_with id books) Holds

-- a user's look at the spreadsheet shows it, the rows of its sheets where that is asked for, and changes nothing
pub record IsLookOf (user : List ℕ) (grids : Option Bool) (book : PlaceBook) (told : Result Answer Refusal)
    (effect : Effect) : Type 0 where
  pub shown : Spreadsheet
  pub is : IsSpreadsheetShown user (unwrap_or grids false) book shown
  pub told_is : told ≡ Ok (answer.Get shown)
  pub nothing : effect ≡ Nothing

-- the call of its caller is answered so, or breaks that rule there, and makes that of the spreadsheets
abbrev pub IsAnswered : Caller → Call → List PlaceBook → Result Answer Refusal → Effect → Type 0
IsAnswered caller (call.Create spreadsheet) books told effect =
    IsAlone (IsCreateOf caller.user spreadsheet books) told effect
IsAnswered caller (call.Get id grids) books told effect =
    OnBook id books (λ book. IsLookOf caller.user grids book told effect)
IsAnswered caller (call.Batch id requests) books told effect =
    OnBook id books (λ book. IsBatchOf caller.user caller.project requests book told effect)
IsAnswered caller (call.Read id range dimension render) books told effect =
    OnBook id books (λ book. IsAlone (IsReadOf range dimension render book) told effect)
IsAnswered caller (call.Write id range mode values) books told effect =
    OnBook id books (λ book. IsAlone (IsWriteOf caller.user range values book) told effect)
IsAnswered caller (call.Append id range mode option values) books told effect =
    OnBook id books (λ book. IsAlone (IsAppendOf caller.user range option values book) told effect)
IsAnswered caller (call.Clear id range) books told effect =
    OnBook id books (λ book. IsAlone (IsClearOf caller.user range book) told effect)
IsAnswered caller (call.ReadMany id ranges dimension render) books told effect =
    OnBook id books (λ book. IsReadManyOf ranges dimension render book told effect)
IsAnswered caller (call.WriteMany id mode blocks) books told effect =
    OnBook id books (λ book. IsWriteManyOf caller.user blocks book told effect)
IsAnswered caller (call.ClearMany id ranges) books told effect =
    OnBook id books (λ book. IsClearManyOf caller.user ranges book told effect)
IsAnswered caller (call.ReadFiltered id filters dimension render) books told effect =
    let how : Showing = record { dimension = dimension; render = render } in
    OnBook id books (λ book. IsReadFilteredOf caller.project filters how book told effect)
IsAnswered caller (call.Item id item) books told effect =
    OnBook id books (λ book. IsItemOf caller.project item book told effect)
IsAnswered caller (call.Search id filters) books told effect =
    OnBook id books (λ book. IsSearchOf caller.project filters book told effect)

-- the spreadsheet that a call is on is there; one that makes a spreadsheet is on none
abbrev pub HasItsBook : Call → List PlaceBook → Type 0
HasItsBook (call.Create spreadsheet) books = ⊤
HasItsBook (call.Get id grids) books = IsSome (book_with id books)
HasItsBook (call.Batch id requests) books = IsSome (book_with id books)
HasItsBook (call.Read id range dimension render) books = IsSome (book_with id books)
HasItsBook (call.Write id range mode values) books = IsSome (book_with id books)
HasItsBook (call.Append id range mode option values) books = IsSome (book_with id books)
HasItsBook (call.Clear id range) books = IsSome (book_with id books)
HasItsBook (call.ReadMany id ranges dimension render) books = IsSome (book_with id books)
HasItsBook (call.WriteMany id mode blocks) books = IsSome (book_with id books)
HasItsBook (call.ClearMany id ranges) books = IsSome (book_with id books)
HasItsBook (call.ReadFiltered id filters dimension render) books = IsSome (book_with id books)
HasItsBook (call.Item id item) books = IsSome (book_with id books)
HasItsBook (call.Search id filters) books = IsSome (book_with id books)

abbrev pub told_as : Result Answer Refusal → Outcome
told_as (Ok told) = outcome.Answered told
told_as (Err (at, broken)) = outcome.Refused at broken

-- the call is answered, and these are the spreadsheets after it, if it makes something of them
pub record IsApplied (caller : Caller) (called : Call) (books : List PlaceBook) (told : Outcome)
    (next : Option (List PlaceBook)) : Type 0 where
  pub judged : Result Answer Refusal
  pub effect : Effect
  pub answered : IsAnswered caller called books judged effect
  pub told_is : told ≡ told_as judged
  pub next_is : IsNext books effect next

-- ---- what the private functions hand to one another

-- a spreadsheet that a call changes: what is answered, and the spreadsheet after it
abbrev pub IsChange : {Broken : Type 0} → (Result Answer Broken → Effect → Type 0) → PlaceBook
    → Result (Answer × PlaceBook) Broken → Type 0
IsChange Answered before (Ok (told, after)) =
    (changes : List BookChange) × Answered (Ok told) (Changes before.id changes) × AreChanges changes before after
IsChange Answered before (Err broken) = Answered (Err broken) Nothing

-- spreadsheets that a call makes: what is answered, and those after it
abbrev pub IsMaking : (Result Answer Rule → Effect → Type 0) → List PlaceBook → Result (Answer × List PlaceBook) Rule
    → Type 0
IsMaking Answered before (Ok (told, after)) =
    (effect : Effect) × Answered (Ok told) effect × IsNext before effect (Some after)
IsMaking Answered before (Err broken) = Answered (Err broken) Nothing

-- they are there after it; where a rule is broken none are
abbrev pub AreNext : Result (Answer × List PlaceBook) Refusal → Outcome → Option (List PlaceBook) → Type 0
AreNext (Ok (answered, after)) told next = (told ≡ outcome.Answered answered) × (next ≡ Some after)
AreNext (Err (at, broken)) told next = (told ≡ outcome.Refused at broken) × (next ≡ None)

-- a changed spreadsheet takes the place of the one that has its id; where a rule is broken nothing does
abbrev pub IsInstalled : List PlaceBook → Result (Answer × PlaceBook) Refusal → Outcome
    → Option (List PlaceBook) → Type 0
IsInstalled before (Ok (answered, book)) told next =
    (told ≡ outcome.Answered answered) × IsSomeAnd next (ReplacesByName book before)
IsInstalled before (Err (at, broken)) told next = (told ≡ outcome.Refused at broken) × (next ≡ None)

-- the same as of a call for which memory didn't run out
abbrev pub as_told : {A : Type 0} → Result A Rule → Result A RuleOr
as_told (Ok told) = Ok told
as_told (Err broken) = Err (refusal.Rule broken)
