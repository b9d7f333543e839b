-- A call leaves each cell that is protected from its caller.
use Rattle.std.proofs.Common.{◌≡◌, ℕ, ◌+◌, refl, sym, ap, subst, ◌∙◌, List, [], ◌∷◌, Bool}
use Rattle.std.specs.Prelude.{None, Option, Some, IsSomeAnd, MatchResult, Result, Ok, Err}
use Rattle.std.specs.Str.{bytes_eq}
use Rattle.std.proofs.lemmas.Slice.Eq.{bytes_eq-Decides}
use Rattle.cell_value.specs.declared.cell.Block.{Block}
use Rattle.grid_range.specs.declared.area.Area.{Area}
use Rattle.world_model.specs.Book.{NameBook, PlaceBook}
use Rattle.world_model.specs.BookChange.{BookChange}
use Rattle.world_model.specs.Sheet.{PlaceSheet}
use Rattle.world_model.specs.Sound.{place_sheet_with}
use Rattle.dimension_ops.specs.World.{book_with}
use Rattle.dimension_ops.specs.declared.rule.Limit.{Limit}
use Rattle.dimension_ops.specs.declared.rule.Rule.{Rule}
use Rattle.dimension_ops.specs.declared.rule.Rule.TheVariants as rule
use Rattle.values_api.specs.Appends.{IsAppendUnless, IsAppended as IsValuesAppended, limit_passed, lines_added, start_of}
use Rattle.values_api.specs.Blocks.{contents_of}
use Rattle.values_api.specs.Denials.{AreaCells, IsDenial, IsWriteBy}
use Rattle.values_api.specs.Ranges.{FoundArea, Resolves}
use Rattle.values_api.specs.declared.appending.Added.{Added}
use Rattle.values_api.specs.declared.table.Rectangle.{Rectangle}
use Rattle.values_api.specs.declared.writing.WrittenCells.{WrittenCells}
use Rattle.json_requests.specs.declared.request.Step.{Step}
use Rattle.json_requests.specs.declared.request.Step.TheVariants as step
use Rattle.json_shapes.specs.Reading.{Reading}
use Rattle.sheets_json.specs.declared.answer.Answer.{Answer}
use Rattle.sheets_json.specs.declared.answer.Answer.TheVariants as answer
use Rattle.sheets_json.specs.declared.call.Call.{Call}
use Rattle.sheets_json.specs.declared.call.Call.TheVariants as call
use Rattle.sheets_json.specs.declared.call.NewSpreadsheet.{NewSpreadsheet}
use Rattle.sheets_json.specs.declared.call.RangeBlock.{RangeBlock}
use Rattle.sheets_json.specs.declared.call.ValueRange.{ValueRange}
use Rattle.sheets_json.specs.declared.place.Place.{Place}
use Rattle.sheets_json.specs.declared.place.Place.TheVariants as place
use Rattle.sheets_json.specs.declared.spreadsheet.Reply.{Reply}
use Rattle.values_api.specs.FoundLaws.{found_passes}
use Rattle.request_kinds.specs.Telling.{cells_updated}
use Rattle.request_kinds.specs.TellingLaws.{as_told, done_of, match_told, none_denied, told_apart, told_changes}
use Rattle.kept_cells.specs.Protected.{ProtectedCellsKeep}
use Rattle.kept_cells.specs.Staying.{LeavesProtectedInParts}
use Rattle.batch_engine.specs.Calls.{AreMade, IsAlone, IsAnswered, IsMade, OnBook, Refusal, effect_of, effect_on, written_answer, IsRequested}
use Rattle.batch_engine.specs.Create.{IsCreateOf, unless_broken}
use Rattle.batch_engine.specs.Effects.Effect.{Changes, Makes, Nothing}
use Rattle.batch_engine.specs.Members.{InTurn, ThenOn, ToldOfAll}
use Rattle.batch_engine.specs.Values.{Appended, IsAppendOn, IsAppended, IsClear, IsCleared, IsUpdate, IsUpdated, IsWritten, OnRange, Wrote, appended_of, clear, done, inserts, refused, rule_of, update_of}
use Rattle.batch_engine.specs.declared.calls.Caller.{Caller}

-- ---- members, one after another

module _ (law : ProtectedCellsKeep) (user : List ℕ) {M A : Type 0}
    (Is : PlaceBook → M → Result (A × List BookChange) Rule → Type 0)
    (each : (book : PlaceBook) (member : M) (one : A) (changes : List BookChange) → Is book member (Ok (one, changes))
    → LeavesProtectedInParts user book changes) where
  then_parts : (IsRest : PlaceBook → ToldOfAll A → List BookChange → Type 0)
      → ((book : PlaceBook) (told : ToldOfAll A) (changes : List BookChange) → IsRest book told changes
      → LeavesProtectedInParts user book changes)
      → (at : ℕ) (member : M) (one : Result (A × List BookChange) Rule) (before : PlaceBook) (told : ToldOfAll A)
      (changes : List BookChange) → Is before member one → ThenOn at one IsRest before told changes
      → LeavesProtectedInParts user before changes
  then_parts IsRest rest_parts at member (Ok (first, made)) before told changes is
      (between, rest, others, are, rest_is, told_is, changes_are) =
      subst (LeavesProtectedInParts user before) (sym changes_are)
      (law.both user before between made others are (each before member first made is)
      (rest_parts between rest others rest_is))
  then_parts IsRest rest_parts at member (Err broken) before told changes is (told_is, changes_are) =
      subst (LeavesProtectedInParts user before) (sym changes_are) (law.nothing user before)

  pub turn_parts : (at : ℕ) (members : List M) (before : PlaceBook) (told : ToldOfAll A) (changes : List BookChange)
      → InTurn Is at members before told changes → LeavesProtectedInParts user before changes
  turn_parts at [] before told changes (told_is, changes_are) =
      subst (LeavesProtectedInParts user before) (sym changes_are) (law.nothing user before)
  turn_parts at (member ∷ members) before told changes (one, is, then) =
      then_parts (InTurn Is (at + 1) members) (turn_parts (at + 1) members) at member one before told changes is then

-- ---- each member

module _ (law : ProtectedCellsKeep) (user : List ℕ) where
  abbrev InParts : PlaceBook → List BookChange → Type 0
  InParts = LeavesProtectedInParts user

  -- ---- ranges

  on_range_parts : {A : Type 0} (Found : Result FoundArea Rule → Type 0) (book : PlaceBook)
      (IsDone : FoundArea → PlaceSheet → Result (A × List BookChange) Rule → Type 0) (told : A × List BookChange)
      → ((found : FoundArea) (sheet : PlaceSheet) → place_sheet_with found.0.sheet book.sheets ≡ Some sheet
      → IsDone found sheet (as_told told) → InParts book told.1)
      → OnRange Found book.sheets IsDone (as_told told) → InParts book told.1
  on_range_parts Found book IsDone told each (done found sheet is at holds) = each found sheet at holds
  on_range_parts Found book IsDone told each (refused broken is tells) = absurd (told_apart told broken tells)

  clear_parts : (book : PlaceBook) (told : List ℕ × List BookChange) (found : FoundArea) (sheet : PlaceSheet)
      → place_sheet_with found.0.sheet book.sheets ≡ Some sheet → IsClear user book found sheet (as_told told)
      → InParts book told.1
  clear_parts book told found sheet at is =
      let same : as_told told ≡ as_told (clear found sheet) = sym (done_of is.denied is.done told is.told_is) ∙ is.is in
      subst (InParts book) (told_changes told (clear found sheet) same)
      (law.clear user book found.0
      (subst (IsDenial user book (AreaCells book.sheets found.0)) (none_denied is.denied is.done told is.told_is)
      is.is_denied))

  cleared_parts : (book : PlaceBook) (range : Reading (List ℕ)) (one : List ℕ) (changes : List BookChange)
      → IsCleared user book range (Ok (one, changes)) → InParts book changes
  cleared_parts book (Ok range) one changes is =
      on_range_parts (Resolves range book) book (IsClear user book) (one, changes) (clear_parts book (one, changes)) is
  cleared_parts book (Err shape) one changes is =
      absurd (told_apart {A = List ℕ × List BookChange} (one, changes) (rule_of shape) is)

  update_parts : (book : PlaceBook) (block : Block) (told : Wrote × List BookChange) (found : FoundArea)
      (sheet : PlaceSheet)
      → place_sheet_with found.0.sheet book.sheets ≡ Some sheet → IsUpdate user book block found sheet (as_told told)
      → InParts book told.1
  update_parts book block told found sheet at is = go is.wrote is.writes is.tells
    where
      go : (done : Result WrittenCells Rule) (writes : IsWriteBy user found.1 found.0 block sheet book is.after done)
          → MatchResult done
          (λ counts. as_told told
          ≡ Ok ((update_of book sheet counts, counts), cells_updated found.0.sheet (contents_of writes.is.entries)))
          (λ broken. as_told told ≡ Err broken)
          → InParts book told.1
      go (Ok counts) writes tells =
          subst (InParts book)
          (told_changes told (_, cells_updated found.0.sheet (contents_of writes.is.entries)) tells)
          (law.write user found.1 found.0 block sheet book is.after counts at writes)
      go (Err broken) writes tells = absurd (told_apart told broken tells)

  written_parts : (range : List ℕ) (book : PlaceBook) (values : Reading ValueRange) (one : Wrote)
      (changes : List BookChange)
      → IsWritten user range book values (Ok (one, changes)) → InParts book changes
  written_parts range book (Ok values) one changes is =
      on_range_parts _ book (IsUpdate user book values.block) (one, changes)
      (update_parts book values.block (one, changes)) is
  written_parts range book (Err shape) one changes is =
      absurd (told_apart {A = Wrote × List BookChange} (one, changes) (rule_of shape) is)

  updated_parts : (book : PlaceBook) (values : Reading RangeBlock) (one : Wrote) (changes : List BookChange)
      → IsUpdated user book values (Ok (one, changes)) → InParts book changes
  updated_parts book (Ok values) one changes is =
      on_range_parts _ book (IsUpdate user book values.block) (one, changes)
      (update_parts book values.block (one, changes)) is
  updated_parts book (Err shape) one changes is =
      absurd (told_apart {A = Wrote × List BookChange} (one, changes) (rule_of shape) is)

  -- ---- appends

  abbrev as_answer : Option Area × WrittenCells → Result (Option Area × WrittenCells) Rule
  as_answer made = Ok made

  unless_passed_parts : (sheet : ℕ) (added : Added) (start : ℕ × ℕ) (block : Block) (table : Option Rectangle)
      (changes : List BookChange)
      (before after : PlaceBook) (made : Option Area × WrittenCells) (limit : Option Limit)
      → IsAppendUnless limit (IsValuesAppended user sheet added start block table changes before after (as_answer made))
      changes (as_answer made) → InParts before changes
  unless_passed_parts sheet added start block table changes before after made None is =
      law.append user sheet added start block table changes before after made is
  unless_passed_parts sheet added start block table changes before after made (Some limit) is =
      absurd (told_apart made (rule.PastLimit limit) is.1)

  append_on_parts : (book : PlaceBook) (insert : Bool) (block : Block) (area : Area) (sheet : PlaceSheet)
      (told : Appended × List BookChange) → IsAppendOn user book insert block area sheet (as_told told)
      → InParts book told.1
  append_on_parts book insert block area sheet told is =
      let (made, same, says) = match_told is.appended _ told is.tells in
      let (own, there, tells) = says in
      let added = lines_added insert (start_of is.appends.table area) block sheet in
      subst (InParts book) (told_changes told (appended_of is.after own made, is.appends.changes) tells)
      (unless_passed_parts area.sheet added (start_of is.appends.table area) block is.appends.table
      is.appends.changes book
      is.after made (limit_passed added sheet book.sheets)
      (subst (λ answer. IsAppendUnless (limit_passed added sheet book.sheets)
      (IsValuesAppended user area.sheet added (start_of is.appends.table area) block is.appends.table
      is.appends.changes book
      is.after answer) is.appends.changes answer) (sym same) is.appends.appended))

  appended_values_parts : (range : List ℕ) (insert : Bool) (book : PlaceBook) (values : Reading ValueRange)
      (one : Appended)
      (changes : List BookChange) → IsAppended user range insert book values (Ok (one, changes)) → InParts book changes
  appended_values_parts range insert book (Ok values) one changes is =
      on_range_parts _ book (λ found. IsAppendOn user book insert values.block found.0) (one, changes)
      (λ found sheet at holds. append_on_parts book insert values.block found.0 sheet (one, changes) holds) is
  appended_values_parts range insert book (Err shape) one changes is =
      absurd (told_apart {A = Appended × List BookChange} (one, changes) (rule_of shape) is)

  -- ---- requests

  requested_parts : (project : List ℕ) (book : PlaceBook) (asked : Step) (reply : Reply) (changes : List BookChange)
      → IsRequested user project book asked (Ok (reply, changes)) → InParts book changes
  requested_parts project book (step.Read asked) reply changes is = law.request user project book asked reply changes is
  requested_parts project book (step.Shape shape) reply changes is =
      absurd (told_apart {A = Reply × List BookChange} (reply, changes) (rule_of shape) is)

  -- ---- calls

  -- that is made of the spreadsheet
  abbrev MakesParts : List ℕ → List BookChange → PlaceBook → Type 0
  MakesParts id changes book = (book.id ≡ id) × InParts book changes

  same_effect : (id id' : List ℕ) (changes changes' : List BookChange) → Changes id changes ≡ Changes id' changes'
      → (id' ≡ id) × (changes' ≡ changes)
  same_effect id id' changes changes' e = (cc, cc)

  no_effect : (id : List ℕ) (changes : List BookChange) → Changes id changes ≡ Nothing → ⊥
  no_effect id changes e = cc

  module _ (id : List ℕ) (changes : List BookChange) where
    made_so : {A : Type 0} (book : PlaceBook) (one : Result (A × List BookChange) Rule)
        → ((made : A) (changes : List BookChange) → as_told {A = A × List BookChange} (made, changes) ≡ one
        → InParts book changes)
        → Changes id changes ≡ effect_on book one → MakesParts id changes book
    made_so book (Ok (made, own)) each is =
        let same = same_effect id book.id changes own is in
        (same.0, subst (InParts book) same.1 (each made own refl))
    made_so book (Err broken) each is = absurd (no_effect id changes is)

    made_parts : {A : Type 0} (Is : Result (A × List BookChange) Rule → Type 0) (answer_of : A → Answer)
        (book : PlaceBook)
        (told : Result Answer Refusal)
        → ((made : A) (changes : List BookChange) → Is (Ok (made, changes)) → InParts book changes)
        → IsAlone (IsMade Is answer_of book) told (Changes id changes) → MakesParts id changes book
    made_parts Is answer_of book told each alone =
        let is = alone.answered in
        made_so book is.one (λ made own same. each made own (subst Is (sym same) is.is)) is.effect_is

    all_so : {A : Type 0} (book : PlaceBook) (all : ToldOfAll A) (made : List BookChange) → InParts book made
        → Changes id changes ≡ effect_of book all made → MakesParts id changes book
    all_so book (Ok all) made parts is =
        let same = same_effect id book.id changes made is in
        (same.0, subst (InParts book) same.1 parts)
    all_so book (Err broken) made parts is = absurd (no_effect id changes is)

    are_made_parts : {M A : Type 0} (Is : PlaceBook → M → Result (A × List BookChange) Rule → Type 0) (members : List M)
        (at : ℕ → Place) (answer_of : List A → Answer) (book : PlaceBook) (told : Result Answer Refusal)
        → ((book : PlaceBook) (member : M) (one : A) (changes : List BookChange) → Is book member (Ok (one, changes))
        → InParts book changes)
        → AreMade Is members at answer_of book told (Changes id changes) → MakesParts id changes book
    are_made_parts Is members at answer_of book told each is =
        all_so book is.all is.changes (turn_parts law user Is each 0 members book is.all is.changes is.each)
        is.effect_is

    on_book : (books : List PlaceBook) (called : List ℕ) (Answered : PlaceBook → Type 0)
        → ((book : PlaceBook) → Answered book → MakesParts id changes book) → OnBook called books Answered
        → OnBook id books (λ book. InParts book changes)
    on_book books called Answered each is = go (book_with called books) refl is
      where
        go : (found : Option PlaceBook) → book_with called books ≡ found → IsSomeAnd found Answered
            → OnBook id books (λ book. InParts book changes)
        go None found holds = absurd holds
        go (Some book) found holds =
            let (same, parts) = each book holds in
            let own : book.id ≡ called =
            (bytes_eq-Decides book.id called).0
            (found_passes (λ (one : PlaceBook). bytes_eq one.id called) books book found) in
            subst (λ one. IsSomeAnd one (λ book. InParts book changes))
            (sym (ap (λ n. book_with n books) (sym same ∙ own) ∙ found)) parts

    unanswered : (books : List PlaceBook) → Changes id changes ≡ Nothing
        → OnBook id books (λ book. InParts book changes)
    unanswered books is = absurd (no_effect id changes is)

    not_made : (bare : NameBook) (made : List BookChange) → Changes id changes ≡ Makes bare made → ⊥
    not_made bare made e = cc

    created : {A : Type 0} (told : Result Answer Rule) (bare : NameBook) (made : List BookChange)
        → Changes id changes ≡ unless_broken told (Makes bare made) → A
    created (Ok told) bare made is = absurd (not_made bare made is)
    created (Err broken) bare made is = absurd (no_effect id changes is)

    create_parts : (books : List PlaceBook) (asked : Reading NewSpreadsheet) (told : Result Answer Rule)
        → IsCreateOf user asked books told (Changes id changes) → OnBook id books (λ book. InParts book changes)
    create_parts books (Ok asked) told is = created told _ _ is.effect_is
    create_parts books (Err shape) told is = unanswered books is.1

-- the law
pub protected_cells_stay : ProtectedCellsKeep → (caller : Caller) (called : Call)
    (books : List PlaceBook) (told : Result Answer Refusal) (id : List ℕ) (changes : List BookChange)
    → IsAnswered caller called books told (Changes id changes)
    → OnBook id books (λ book. LeavesProtectedInParts caller.user book changes)
protected_cells_stay law caller (call.Create spreadsheet) books told id changes is =
    create_parts law caller.user id changes books spreadsheet is.judged is.answered
protected_cells_stay law caller (call.Get of grids) books told id changes is =
    on_book law caller.user id changes books of _
    (λ book is. absurd (no_effect law caller.user id changes is.nothing)) is
protected_cells_stay law caller (call.Batch of requests) books told id changes is =
    on_book law caller.user id changes books of _
    (λ book. are_made_parts law caller.user id changes (IsRequested caller.user caller.project) requests place.Requests
    (λ replies. answer.Batch replies book.id) book told (requested_parts law caller.user caller.project)) is
protected_cells_stay law caller (call.Read of range dimension render) books told id changes is =
    on_book law caller.user id changes books of _
    (λ book is. absurd (no_effect law caller.user id changes is.answered.nothing)) is
protected_cells_stay law caller (call.Write of range mode values) books told id changes is =
    on_book law caller.user id changes books of _
    (λ book. made_parts law caller.user id changes (IsWritten caller.user range book values)
    (λ wrote. answer.Write wrote.0) book told (written_parts law caller.user range book values)) is
protected_cells_stay law caller (call.Append of range mode option values) books told id changes is =
    on_book law caller.user id changes books of _
    (λ book. made_parts law caller.user id changes
    (IsAppended caller.user range (inserts option) book values) (λ made. answer.Append book.id made.0 made.1) book told
    (appended_values_parts law caller.user range (inserts option) book values)) is
protected_cells_stay law caller (call.Clear of range) books told id changes is =
    on_book law caller.user id changes books of _
    (λ book. made_parts law caller.user id changes (IsCleared caller.user book (Ok range))
    (λ text. answer.Clear text book.id) book told (cleared_parts law caller.user book (Ok range))) is
protected_cells_stay law caller (call.ReadMany of ranges dimension render) books told id changes is =
    on_book law caller.user id changes books of _
    (λ book is. absurd (no_effect law caller.user id changes is.nothing)) is
protected_cells_stay law caller (call.WriteMany of mode blocks) books told id changes is =
    on_book law caller.user id changes books of _
    (λ book. are_made_parts law caller.user id changes (IsUpdated caller.user) blocks place.Data
    (written_answer book) book told (updated_parts law caller.user)) is
protected_cells_stay law caller (call.ClearMany of ranges) books told id changes is =
    on_book law caller.user id changes books of _
    (λ book. are_made_parts law caller.user id changes (IsCleared caller.user) ranges place.Ranges
    (λ texts. answer.ClearMany texts book.id) book told (cleared_parts law caller.user)) is
protected_cells_stay law caller (call.ReadFiltered of filters dimension render) books told id changes is =
    on_book law caller.user id changes books of _
    (λ book is. absurd (no_effect law caller.user id changes is.nothing)) is
protected_cells_stay law caller (call.Item of item) books told id changes is =
    on_book law caller.user id changes books of _
    (λ book is. absurd (no_effect law caller.user id changes is.1)) is
protected_cells_stay law caller (call.Search of filters) books told id changes is =
    on_book law caller.user id changes books of _
    (λ book is. absurd (no_effect law caller.user id changes is.nothing)) is
