-- A call on given spreadsheets has one answer and one effect.
use Rattle.std.proofs.Common.{◌≡◌, ℕ, Bool, sym, ap, subst, ◌∙◌, List, suc, [], ◌∷◌, cond, true, false, arith, refl}
use Rattle.std.specs.Prelude.{◌+◌, Option, Some, None, IsSomeAnd, IfSome, OnOk, unwrap_or, Result, Ok, Err, MatchResult, IfOk, flat_map}
use Rattle.std.specs.List.{All}
use Rattle.std.specs.Str.{bytes_eq}
use Rattle.cell_value.specs.declared.cell.Block.{Block}
use Rattle.cell_value.specs.declared.cell.Render.{Render}
use Rattle.grid_range.specs.declared.area.Area.{Area}
use Rattle.grid_range.specs.declared.axis.Axis.{Axis}
use Rattle.a1_notation.specs.Laws.{HasOneReading}
use Rattle.dev_metadata.specs.Listed.{AreIdsInOrder, found_by_some}
use Rattle.world_model.specs.Book.{PlaceBook}
use Rattle.world_model.specs.BookChange.{AreChanges, BookChange}
use Rattle.world_model.specs.ChangingLaws.{ChangesApart, ChangesInTurn}
use Rattle.world_model.specs.Sheet.{PlaceSheet}
use Rattle.world_model.specs.Sound.{IsSound, place_sheet_with}
use Rattle.world_model.specs.Updating.{Updates}
use Rattle.dimension_ops.specs.SheetRequests.{NewSheetsOnce}
use Rattle.dimension_ops.specs.World.{book_with}
use Rattle.dimension_ops.specs.declared.rule.Rule.{Rule}
use Rattle.values_api.specs.Blocks.{contents_of}
use Rattle.values_api.specs.Denials.{AreaCells, WriteCells}
use Rattle.values_api.specs.Laws.{AppendsOnce, ReadsOnce, WritesOnce}
use Rattle.values_api.specs.Ranges.{FoundArea, Resolves}
use Rattle.values_api.specs.Values.{CellsHaveOneValue}
use Rattle.values_api.specs.declared.writing.WrittenCells.{WrittenCells}
use Rattle.json_requests.specs.declared.request.DataFilter.{DataFilter}
use Rattle.json_requests.specs.declared.request.MetadataLookup.{MetadataLookup}
use Rattle.json_requests.specs.declared.request.Step.{Step}
use Rattle.json_requests.specs.declared.request.Step.TheVariants as step
use Rattle.json_shapes.specs.Reading.{Reading}
use Rattle.sheets_json.specs.declared.answer.Answer.{Answer}
use Rattle.sheets_json.specs.declared.answer.Answer.TheVariants as answer
use Rattle.sheets_json.specs.declared.call.Call.{Call}
use Rattle.sheets_json.specs.declared.call.Call.TheVariants as call
use Rattle.sheets_json.specs.declared.call.RangeBlock.{RangeBlock}
use Rattle.sheets_json.specs.declared.call.ValueRange.{ValueRange}
use Rattle.sheets_json.specs.declared.spreadsheet.Reply.{Reply}
use Rattle.sheets_json.specs.declared.answer.ShownRange.{ShownRange}
use Rattle.sheets_json.specs.declared.place.Place.{Place}
use Rattle.sheets_json.specs.declared.place.Place.TheVariants as place
use Rattle.request_kinds.specs.Telling.{cells_updated}
use Rattle.request_kinds.specs.Laws.{RequestsDoneOnce}
use Rattle.request_kinds.specs.Metadata.{lookups_of}
use Rattle.request_kinds.specs.TellingLaws.{unless_once, unless_told_once}
use Rattle.request_kinds.specs.ItemLaws.{ids_once}
use Rattle.batch_engine.specs.declared.calls.Caller.{Caller}
use Rattle.batch_engine.specs.Create.{IsCreateOf}
use Rattle.batch_engine.specs.Effects.{Effect}
use Rattle.batch_engine.specs.Effects.Effect.{Nothing}
use Rattle.batch_engine.specs.Ranges.{IsTarget, agreed}
use Rattle.batch_engine.specs.Values.{OnRange, done, refused, IsRead, IsClear, IsUpdate, IsShown, IsCleared, IsWritten}
use Rattle.batch_engine.specs.Values.{Appended, IsAppendOn, IsAppended, IsUpdated, Wrote, appended_of, clear, inserts, update_of}
use Rattle.batch_engine.specs.Values.{axis_or_rows, is_columns, render_or_formatted, shown_range}
use Rattle.batch_engine.specs.Calls.{AreMade, IsAppendOf, IsBatchOf, IsLookOf, IsAlone, IsAnswered, IsClearManyOf, IsClearOf, IsMade, IsReadManyOf}
use Rattle.batch_engine.specs.Calls.{IsReadFilteredOf, IsReadOf, IsSearchOf, IsItemOf, IsSeen, IsWriteManyOf, IsWriteOf, OnBook, Refusal, alone, answered_at}
use Rattle.batch_engine.specs.Calls.{answered_by, effect_of, effect_on, told_of, written_answer, IsRequested}
use Rattle.batch_engine.specs.Filtered.{AreShownBy, Showing}
use Rattle.batch_engine.specs.Members.{InOrder, Then, ToldOfAll, with_first}
use Rattle.batch_engine.specs.Searches.{asked_or_broken, item_told, search_answer}
use Rattle.batch_engine.specs.Laws.{IsOnce}
use Rattle.batch_engine.proofs.Created.{create_once}
use Rattle.batch_engine.proofs.FilteredOnce.{resolves_once, shown_by_once}
use Rattle.batch_engine.proofs.InTurns.{in_turn_once}
use Rattle.batch_engine.proofs.Looking.{look_once}

some_same : {A : Type 0} (one other : A) → Some one ≡ Some other → one ≡ other
some_same one other e = cc

none_some : {A : Type 0} (x : A) → None ≡ Some x → ⊥
none_some x e = cc

-- ---- ranges

module _ (one_reading : HasOneReading) where
  target_once : (range : List ℕ) (body : Option (List ℕ)) (book : PlaceBook) (one other : Result FoundArea Rule)
      → IsTarget range body book one → IsTarget range body book other → one ≡ other
  target_once range None book one other is is' = resolves_once one_reading range book one other is is'
  target_once range (Some body) book one other is is' =
      is.found_is
      ∙ ap (λ found. agreed found is.said)
      (resolves_once one_reading range book is.named is'.named is.resolves is'.resolves)
      ∙ ap (λ said. agreed is'.named said) (resolves_once one_reading body book is.said is'.said is.says is'.says)
      ∙ sym is'.found_is

abbrev as_found : FoundArea → Result FoundArea Rule
as_found found = Ok found

abbrev as_broken : Rule → Result FoundArea Rule
as_broken broken = Err broken

found_same : (one other : FoundArea) → as_found one ≡ as_found other → one ≡ other
found_same one other e = cc

broken_same : (one other : Rule) → as_broken one ≡ as_broken other → one ≡ other
broken_same one other e = cc

found_not_broken : (found : FoundArea) (broken : Rule) → as_found found ≡ as_broken broken → ⊥
found_not_broken found broken e = cc

module _ {A : Type 0} (Found : Result FoundArea Rule → Type 0) (sheets : List PlaceSheet)
    (IsDone : FoundArea → PlaceSheet → Result A Rule → Type 0)
    (found_once : (one other : Result FoundArea Rule) → Found one → Found other → one ≡ other)
    (done_once : (found : FoundArea) (sheet : PlaceSheet) (told told' : Result A Rule) → IsDone found sheet told
    → IsDone found sheet told' → told ≡ told') where
  on_range_once : (told told' : Result A Rule) → OnRange Found sheets IsDone told → OnRange Found sheets IsDone told'
      → told ≡ told'
  on_range_once told told' (done found sheet is at holds) (done found' sheet' is' at' holds') =
      let same : found ≡ found' = found_same found found' (found_once (Ok found) (Ok found') is is') in
      let same_sheet : sheet ≡ sheet' =
      some_same sheet sheet' (sym at ∙ ap (λ (one : FoundArea). place_sheet_with one.0.sheet sheets) same ∙ at') in
      done_once found' sheet' told told'
      (subst (λ one. IsDone one sheet' told) same (subst (λ one. IsDone found one told) same_sheet holds)) holds'
  on_range_once told told' (done found sheet is at holds) (refused broken is' tells) =
      absurd (found_not_broken found broken (found_once (Ok found) (Err broken) is is'))
  on_range_once told told' (refused broken is tells) (done found sheet is' at holds) =
      absurd (found_not_broken found broken (found_once (Ok found) (Err broken) is' is))
  on_range_once told told' (refused broken is tells) (refused broken' is' tells') =
      tells ∙ ap (λ broken. Err broken) (broken_same broken broken' (found_once (Err broken) (Err broken') is is'))
      ∙ sym tells'

-- what is answered and made so has one answer and one effect
said_once : {Broken : Type 0} (says : Result Answer Broken) (makes : Effect)
    → IsOnce (λ told effect. (told ≡ says) × (effect ≡ makes))
said_once says makes told told' effect effect' is is' = (is.0 ∙ sym is'.0, is.1 ∙ sym is'.1)

-- ---- looks

looks_once : CellsHaveOneValue → (user : List ℕ) (grids : Option Bool) (book : PlaceBook) → IsSound book
    → IsOnce (IsLookOf user grids book)
looks_once values user grids book sound told told' effect effect' is is' = (
  is.told_is
      ∙ ap (λ shown. Ok (answer.Get shown))
      (look_once values user book sound (unwrap_or grids false) is.shown is'.shown is.is is'.is)
      ∙ sym is'.told_is,
  is.nothing ∙ sym is'.nothing,
)

-- ---- reads

read_once : ReadsOnce → (dimension : Option Axis) (render : Option Render) (book : PlaceBook) → IsSound book
    → (found : FoundArea) (sheet : PlaceSheet) (told told' : Result ShownRange Rule)
    → IsRead book dimension render found sheet told → IsRead book dimension render found sheet told' → told ≡ told'
read_once reads dimension render book sound found sheet told told' one other =
    one.told_is
    ∙ ap (λ lines. Ok (shown_range (axis_or_rows dimension) found.0 sheet lines))
    (reads.once book found.0 (is_columns (axis_or_rows dimension)) (render_or_formatted render) sheet
    one.lines other.lines
    sound one.shown other.shown)
    ∙ sym other.told_is

-- ---- writes

module _ (writes : WritesOnce) (user : List ℕ) (book : PlaceBook) (sound : IsSound book) where
  -- what a write's result is told as
  abbrev Tells : Area → PlaceSheet → Updates → Result WrittenCells Rule → Result (Wrote × List BookChange) Rule → Type 0
  Tells area sheet updates wrote told =
      MatchResult wrote
      (λ counts. told ≡ Ok ((update_of book sheet counts, counts), cells_updated area.sheet updates))
      (λ broken. told ≡ Err broken)

  tells_once : (area : Area) (sheet : PlaceSheet) (updates : Updates) (wrote : Result WrittenCells Rule)
      (told told' : Result (Wrote × List BookChange) Rule) → Tells area sheet updates wrote told
      → Tells area sheet updates wrote told' → told ≡ told'
  tells_once area sheet updates (Ok counts) told told' is is' = is ∙ sym is'
  tells_once area sheet updates (Err broken) told told' is is' = is ∙ sym is'

  update_once : (block : Block) (found : FoundArea) (sheet : PlaceSheet)
      (told told' : Result (Wrote × List BookChange) Rule)
      → IsUpdate user book block found sheet told → IsUpdate user book block found sheet told' → told ≡ told'
  update_once block found sheet told told' one other =
      let area = found.0 in
      let (same, same_done) = writes.once found.1 area block sheet book one.after other.after one.writes.done
      other.writes.done sound one.writes.is other.writes.is in
      let same_wrote = unless_told_once user book (WriteCells book.sheets found.1 area block) one.writes.denied
      other.writes.denied one.writes.is_denied other.writes.is_denied one.writes.done other.writes.done
      same_done one.wrote
      other.wrote one.writes.told_is other.writes.told_is in
      tells_once area sheet (contents_of other.writes.is.entries) other.wrote told told'
      (subst (λ wrote. Tells area sheet (contents_of other.writes.is.entries) wrote told) same_wrote
      (subst (λ updates. Tells area sheet updates one.wrote told) same one.tells)) other.tells

-- ---- appends

module _ (appends : AppendsOnce) (apart : ChangesApart) (user : List ℕ) (book : PlaceBook) (sound : IsSound book) where
  -- what an append that changes the spreadsheet so is told as
  abbrev Says : Area → Result (Appended × List BookChange) Rule → PlaceBook → List BookChange
      → Result (Option Area × WrittenCells) Rule → Type 0
  Says area told after changes appended =
      OnOk appended (AreChanges changes book after)
      × MatchResult appended
      (λ made. (own : PlaceSheet) × (place_sheet_with area.sheet after.sheets ≡ Some own)
      × (told ≡ Ok (appended_of after own made, changes)))
      (λ broken. told ≡ Err broken)

  abbrev as_appended : PlaceBook → PlaceSheet → Option Area × WrittenCells → List BookChange
      → Result (Appended × List BookChange) Rule
  as_appended after own made changes = Ok (appended_of after own made, changes)

  says_once : (area : Area) (told told' : Result (Appended × List BookChange) Rule) (after after' : PlaceBook)
      (changes : List BookChange) (appended : Result (Option Area × WrittenCells) Rule)
      → Says area told after changes appended → Says area told' after' changes appended → told ≡ told'
  says_once area told told' after after' changes (Ok made) (becomes, said) (becomes', said') =
      let (own, there, is) = said in
      let (own', there', is') = said' in
      let same = apart.same changes book after after' sound becomes becomes' in
      let same_own = some_same own own'
      (sym there ∙ ap (λ (one : PlaceBook). place_sheet_with area.sheet one.sheets) same ∙ there') in
      is ∙ ap (λ one. as_appended one own made changes) same ∙ ap (λ one. as_appended after' one made changes) same_own
      ∙ sym is'
  says_once area told told' after after' changes (Err broken) (stays, is) (stays', is') = is ∙ sym is'

  append_once : (insert : Bool) (block : Block) (area : Area) (sheet : PlaceSheet)
      (told told' : Result (Appended × List BookChange) Rule) → IsAppendOn user book insert block area sheet told
      → IsAppendOn user book insert block area sheet told' → told ≡ told'
  append_once insert block area sheet told told' one other =
      let (same, same_appended) = appends.once user insert area block sheet book one.after other.after one.appended
      other.appended sound one.appends other.appends in
      says_once area told told' one.after other.after other.appends.changes other.appended
      (subst (Says area told one.after other.appends.changes) same_appended
      (subst (λ changes. Says area told one.after changes one.appended) same (one.appends.made, one.tells)))
      (other.appends.made, other.tells)

-- ---- members

module _ {M A : Type 0} (Is : M → Result A Rule → Type 0)
    (once : (member : M) (one other : Result A Rule) → Is member one → Is member other → one ≡ other) where
  then_once : (IsRest : ToldOfAll A → Type 0)
      (rest_once : (one other : ToldOfAll A) → IsRest one → IsRest other → one ≡ other)
      → (at : ℕ) (first : Result A Rule) (told told' : ToldOfAll A) → Then at first IsRest told
      → Then at first IsRest told'
      → told ≡ told'
  then_once IsRest rest_once at (Ok first) told told' (rest, is, told_is) (rest', is', told_is') =
      told_is ∙ ap (with_first first) (rest_once rest rest' is is') ∙ sym told_is'
  then_once IsRest rest_once at (Err broken) told told' is is' = is ∙ sym is'

  pub in_order_once : (at : ℕ) (members : List M) (told told' : ToldOfAll A) → InOrder Is at members told
      → InOrder Is at members told' → told ≡ told'
  in_order_once at [] told told' is is' = is ∙ sym is'
  in_order_once at (member ∷ members) told told' (one, holds, then) (other, holds', then') =
      then_once (InOrder Is (at + 1) members) (in_order_once (at + 1) members) at other told told'
      (subst (λ first. Then at first (InOrder Is (at + 1) members) told)
      (once member one other holds holds') then) then'

-- ---- calls

module _ (Answered : PlaceBook → Result Answer Refusal → Effect → Type 0)
    (each : (book : PlaceBook) → IsSound book → IsOnce (Answered book)) where
  option_once : (found : Option PlaceBook) → IfSome found IsSound
      → IsOnce (λ told effect. IsSomeAnd found (λ book. Answered book told effect))
  option_once None sound told told' effect effect' is is' = absurd is
  option_once (Some book) sound told told' effect effect' is is' = each book sound told told' effect effect' is is'

alone_once : (Answered : Result Answer Rule → Effect → Type 0) → IsOnce Answered → IsOnce (IsAlone Answered)
alone_once Answered once told told' effect effect' is is' =
    let same = once is.judged is'.judged effect effect' is.answered is'.answered in
    (is.told_is ∙ ap alone same.0 ∙ sym is'.told_is, same.1)

module _ {A : Type 0} where
  seen_once : (Is : Result A Rule → Type 0) (answer_of : A → Answer)
      → ((one other : Result A Rule) → Is one → Is other → one ≡ other) → IsOnce (IsSeen Is answer_of)
  seen_once Is answer_of once told told' effect effect' is is' = (
    is.told_is ∙ ap (answered_by answer_of) (once is.one is'.one is.is is'.is) ∙ sym is'.told_is,
    is.nothing ∙ sym is'.nothing,
  )

  made_once : (Is : Result (A × List BookChange) Rule → Type 0) (answer_of : A → Answer) (book : PlaceBook)
      → ((one other : Result (A × List BookChange) Rule) → Is one → Is other → one ≡ other)
      → IsOnce (IsMade Is answer_of book)
  made_once Is answer_of book once told told' effect effect' is is' =
      let same = once is.one is'.one is.is is'.is in (
        is.told_is ∙ ap (λ one. answered_by answer_of (told_of one)) same ∙ sym is'.told_is,
        is.effect_is ∙ ap (effect_on book) same ∙ sym is'.effect_is,
      )

-- ---- searches

module _ (project : List ℕ) (filters : List (Reading MetadataLookup)) (book : PlaceBook) where
  -- the ids are those that are found
  abbrev AreFound : List ℕ → ToldOfAll MetadataLookup → Type 0
  AreFound ids asked = IfOk asked (λ all. AreIdsInOrder (found_by_some (lookups_of all) project book.metadata) ids)

  abbrev found_told : List ℕ → ToldOfAll MetadataLookup → Result Answer Refusal
  found_told ids asked = answered_at place.Filters (search_answer project ids book) asked

  told_once : (asked : ToldOfAll MetadataLookup) (ids ids' : List ℕ) → AreFound ids asked → AreFound ids' asked
      → found_told ids asked ≡ found_told ids' asked
  told_once (Ok all) ids ids' is is' =
      ap (λ ids. found_told ids (Ok all))
      (ids_once (found_by_some (lookups_of all) project book.metadata) ids ids' is is')
  told_once (Err broken) ids ids' is is' = refl

  search_once : IsOnce (IsSearchOf project filters book)
  search_once told told' effect effect' is is' =
      let same = in_order_once (λ given one. one ≡ asked_or_broken book.sheets given)
      (λ given one other is is'. is ∙ sym is') 0 filters is.asked is'.asked is.searched.each is'.searched.each in (
        is.told_is ∙ ap (found_told is.ids) same
            ∙ told_once is'.asked is.ids is'.ids (subst (AreFound is.ids) same is.searched.in_order)
            is'.searched.in_order
            ∙ sym is'.told_is,
        is.nothing ∙ sym is'.nothing,
      )

first_sound : (b : Bool) (book : PlaceBook) (rest : Option PlaceBook) → IsSound book → IfSome rest IsSound
    → IfSome (cond b (Some book) rest) IsSound
first_sound true book rest sound behind = sound
first_sound false book rest sound behind = behind

pub found_sound : (id : List ℕ) (books : List PlaceBook) → All IsSound books → IfSome (book_with id books) IsSound
found_sound id [] all = tt
found_sound id (b ∷ bs) all =
    first_sound (bytes_eq b.id id) b (book_with id bs) (all 0 b (omega arith))
    (found_sound id bs (λ k d there. all (suc k) d (omega arith)))

module _ (one_reading : HasOneReading) (news : NewSheetsOnce) (requests : RequestsDoneOnce) (reads : ReadsOnce)
    (held : CellsHaveOneValue) (writes : WritesOnce) (appends : AppendsOnce) (apart : ChangesApart)
    (turns : ChangesInTurn) where
  shown_once : (dimension : Option Axis) (render : Option Render) (book : PlaceBook) → IsSound book → (range : List ℕ)
      (one other : Result ShownRange Rule) → IsShown dimension render book range one
      → IsShown dimension render book range other → one ≡ other
  shown_once dimension render book sound range =
      on_range_once (Resolves range book) book.sheets (IsRead book dimension render)
      (resolves_once one_reading range book) (read_once reads dimension render book sound)

  cleared_once : (user : List ℕ) (book : PlaceBook) (range : Reading (List ℕ))
      (one other : Result (List ℕ × List BookChange) Rule) → IsCleared user book range one
      → IsCleared user book range other → one ≡ other
  cleared_once user book (Ok range) =
      on_range_once (Resolves range book) book.sheets (IsClear user book) (resolves_once one_reading range book)
      (λ found sheet. unless_once user book (AreaCells book.sheets found.0) (λ told. told ≡ Ok (clear found sheet))
      (λ told told' is is'. is ∙ sym is'))
  cleared_once user book (Err shape) = λ one other is is'. is ∙ sym is'

  written_once : (user range : List ℕ) (book : PlaceBook) → IsSound book → (values : Reading ValueRange)
      (one other : Result (Wrote × List BookChange) Rule) → IsWritten user range book values one
      → IsWritten user range book values other → one ≡ other
  written_once user range book sound (Ok values) =
      on_range_once (IsTarget range values.range book) book.sheets (IsUpdate user book values.block)
      (target_once one_reading range values.range book) (update_once writes user book sound values.block)
  written_once user range book sound (Err shape) = λ one other is is'. is ∙ sym is'

  appended_once : (user range : List ℕ) (insert : Bool) (book : PlaceBook) → IsSound book
      → (values : Reading ValueRange)
      (one other : Result (Appended × List BookChange) Rule) → IsAppended user range insert book values one
      → IsAppended user range insert book values other → one ≡ other
  appended_once user range insert book sound (Ok values) =
      on_range_once (IsTarget range values.range book) book.sheets
      (λ found. IsAppendOn user book insert values.block found.0) (target_once one_reading range values.range book)
      (λ found. append_once appends apart user book sound insert values.block found.0)
  appended_once user range insert book sound (Err shape) = λ one other is is'. is ∙ sym is'

  updated_once : (user : List ℕ) (book : PlaceBook) → IsSound book → (values : Reading RangeBlock)
      (one other : Result (Wrote × List BookChange) Rule) → IsUpdated user book values one
      → IsUpdated user book values other → one ≡ other
  updated_once user book sound (Ok values) =
      on_range_once (Resolves values.range book) book.sheets (IsUpdate user book values.block)
      (resolves_once one_reading values.range book) (update_once writes user book sound values.block)
  updated_once user book sound (Err shape) = λ one other is is'. is ∙ sym is'

  requested_once : (user project : List ℕ) (book : PlaceBook) → IsSound book → (asked : Step)
      (one other : Result (Reply × List BookChange) Rule) → IsRequested user project book asked one
      → IsRequested user project book asked other → one ≡ other
  requested_once user project book sound (step.Read asked) = requests.once user project book sound asked
  requested_once user project book sound (step.Shape shape) = λ one other is is'. is ∙ sym is'

  read_many_once : (ranges : List (List ℕ)) (dimension : Option Axis) (render : Option Render) (book : PlaceBook)
      → IsSound book → IsOnce (IsReadManyOf ranges dimension render book)
  read_many_once ranges dimension render book sound told told' effect effect' is is' = (
    is.told_is
        ∙ ap (answered_at place.Ranges (λ all. answer.ReadMany book.id all))
        (in_order_once (IsShown dimension render book) (shown_once dimension render book sound) 0 ranges
        is.shown is'.shown
        is.each is'.each)
        ∙ sym is'.told_is,
    is.nothing ∙ sym is'.nothing,
  )

  read_filtered_once : (project : List ℕ) (filters : List (Reading DataFilter)) (how : Showing) (book : PlaceBook)
      → IsSound book → IsOnce (IsReadFilteredOf project filters how book)
  read_filtered_once project filters how book sound told told' effect effect' is is' = (
    is.told_is
        ∙ ap (answered_at place.Filters (λ all. answer.ReadFiltered book.id (flat_map (λ part. part) all)))
        (in_order_once (AreShownBy project how book) (shown_by_once reads how book sound one_reading project) 0 filters
        is.shown is'.shown is.each is'.each)
        ∙ sym is'.told_is,
    is.nothing ∙ sym is'.nothing,
  )

  are_made_once : {M A : Type 0} (Is : PlaceBook → M → Result (A × List BookChange) Rule → Type 0)
      (once : (book : PlaceBook) → IsSound book → (member : M) (one other : Result (A × List BookChange) Rule)
      → Is book member one → Is book member other → one ≡ other) (members : List M) (at : ℕ → Place)
      (answer_of : List A → Answer) (book : PlaceBook) → IsSound book → IsOnce (AreMade Is members at answer_of book)
  are_made_once Is once members at answer_of book sound told told' effect effect' is is' =
      let (same, same_changes) =
      in_turn_once apart turns Is once 0 members book sound is.all is'.all is.changes is'.changes
      is.each is'.each in (
        is.told_is ∙ ap (answered_at at answer_of) same ∙ sym is'.told_is,
        is.effect_is ∙ ap (λ all. effect_of book all is.changes) same ∙ ap (effect_of book is'.all) same_changes
            ∙ sym is'.effect_is,
      )

  module _ (books : List PlaceBook) (sound : All IsSound books) where
    on_book_once : (id : List ℕ) (Answered : PlaceBook → Result Answer Refusal → Effect → Type 0)
        → ((book : PlaceBook) → IsSound book → IsOnce (Answered book))
        → IsOnce (λ told effect. OnBook id books (λ book. Answered book told effect))
    on_book_once id Answered each = option_once Answered each (book_with id books) (found_sound id books sound)

    pub answered_once : (caller : Caller) (called : Call) → IsOnce (IsAnswered caller called books)
    answered_once caller (call.Read id range dimension render) =
        on_book_once id (λ book. IsAlone (IsReadOf range dimension render book))
        (λ book sound. alone_once (IsReadOf range dimension render book)
        (seen_once (IsShown dimension render book range) answer.Read (shown_once dimension render book sound range)))
    answered_once caller (call.Write id range mode values) =
        on_book_once id (λ book. IsAlone (IsWriteOf caller.user range values book))
        (λ book sound. alone_once (IsWriteOf caller.user range values book)
        (made_once (IsWritten caller.user range book values) (λ wrote. answer.Write wrote.0) book
        (written_once caller.user range book sound values)))
    answered_once caller (call.Clear id range) =
        on_book_once id (λ book. IsAlone (IsClearOf caller.user range book))
        (λ book sound. alone_once (IsClearOf caller.user range book)
        (made_once (IsCleared caller.user book (Ok range)) (λ text. answer.Clear text book.id) book
        (cleared_once caller.user book (Ok range))))
    answered_once caller (call.ReadMany id ranges dimension render) =
        on_book_once id (IsReadManyOf ranges dimension render)
        (λ book sound. read_many_once ranges dimension render book sound)
    answered_once caller (call.WriteMany id mode blocks) =
        on_book_once id (IsWriteManyOf caller.user blocks)
        (λ book sound. are_made_once (IsUpdated caller.user) (updated_once caller.user) blocks place.Data
        (written_answer book) book sound)
    answered_once caller (call.ClearMany id ranges) =
        on_book_once id (IsClearManyOf caller.user ranges)
        (λ book sound. are_made_once (IsCleared caller.user) (λ book sound. cleared_once caller.user book) ranges
        place.Ranges
        (λ texts. answer.ClearMany texts book.id) book sound)
    answered_once caller (call.Create spreadsheet) =
        alone_once (IsCreateOf caller.user spreadsheet books) (create_once news caller.user spreadsheet books)
    answered_once caller (call.Get id grids) =
        on_book_once id (IsLookOf caller.user grids) (λ book sound. looks_once held caller.user grids book sound)
    answered_once caller (call.Batch id asked) =
        on_book_once id (IsBatchOf caller.user caller.project asked)
        (λ book sound. are_made_once (IsRequested caller.user caller.project)
        (requested_once caller.user caller.project) asked place.Requests
        (λ replies. answer.Batch replies book.id) book sound)
    answered_once caller (call.ReadFiltered id filters dimension render) =
        let how : Showing = record { dimension = dimension; render = render } in
        on_book_once id (IsReadFilteredOf caller.project filters how)
        (λ book sound. read_filtered_once caller.project filters how book sound)
    answered_once caller (call.Item id item) =
        on_book_once id (IsItemOf caller.project item)
        (λ book sound. said_once (alone (item_told caller.project item book)) Nothing)
    answered_once caller (call.Search id filters) =
        on_book_once id (IsSearchOf caller.project filters) (λ book sound. search_once caller.project filters book)
    answered_once caller (call.Append id range mode option values) =
        on_book_once id (λ book. IsAlone (IsAppendOf caller.user range option values book))
        (λ book sound. alone_once (IsAppendOf caller.user range option values book)
        (made_once (IsAppended caller.user range (inserts option) book values)
        (λ made. answer.Append book.id made.0 made.1) book
        (appended_once caller.user range (inserts option) book sound values)))
