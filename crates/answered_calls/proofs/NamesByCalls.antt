-- No two named ranges of a spreadsheet have one id or one name behind a call, if no two had before: what is written,
-- appended or emptied touches none, and each request of a batch leaves them apart.
use Rattle.std.proofs.Common.{◌≡◌, ◌≤◌, ℕ, ◌+◌, sym, subst, List, [], ◌∷◌, length, arith}
use Rattle.std.specs.Prelude.{Some, Result, Ok, Err}
use Rattle.std.specs.List.{AllPairs}
use Rattle.std.proofs.lemmas.List.Sums.{fold-append}
use Rattle.named_ranges.specs.Listed.{AreNames}
use Rattle.world_model.specs.Book.{PlaceBook}
use Rattle.world_model.specs.BookChange.{AreChanges, BookChange, Named, changed_by, changed_by_all}
use Rattle.world_model.specs.ChangingLaws.{ChangesApart}
use Rattle.world_model.specs.Laws.{StandsForSome}
use Rattle.world_model.specs.Making.{Placed, additions, bare_names}
use Rattle.world_model.specs.Sound.{IsSound}
use Rattle.world_model.specs.World.{NameWorld, WorldStandsFor}
use Rattle.dimension_ops.specs.World.{book_with}
use Rattle.dimension_ops.specs.Creating.{book_id}
use Rattle.dimension_ops.specs.declared.rule.Rule.{Rule}
use Rattle.json_requests.specs.declared.request.Step.TheVariants as step
use Rattle.json_shapes.specs.Reading.{Reading}
use Rattle.sheets_json.specs.declared.answer.Answer.{Answer}
use Rattle.sheets_json.specs.declared.call.Call.{Call}
use Rattle.sheets_json.specs.declared.call.Call.TheVariants as call
use Rattle.sheets_json.specs.declared.call.NewSpreadsheet.{NewSpreadsheet}
use Rattle.sheets_json.specs.declared.place.Place.{Place}
use Rattle.values_api.specs.FoundLaws.{some_and}
use Rattle.request_kinds.specs.TellingLaws.{told_apart}
use Rattle.batch_engine.specs.Calls.{AreMade, IsAnswered, IsMade, IsRequested, OnBook, Refusal, effect_of, effect_on}
use Rattle.batch_engine.specs.Create.{title_or_untitled, IsCreateOf, makes_book, unless_broken}
use Rattle.batch_engine.specs.Effects.{Effect, world_after}
use Rattle.batch_engine.specs.Effects.Effect.{Nothing}
use Rattle.batch_engine.specs.Members.{InTurn, ThenOn, ToldOfAll}
use Rattle.batch_engine.specs.Values.{IsAppended, IsCleared, IsUpdated, IsWritten, inserts, rule_of}
use Rattle.batch_engine.specs.declared.calls.Caller.{Caller}
use Rattle.answered_calls.proofs.NamesInWorlds.{ChangesKeep, HasNames, WorldHasNames, changes_keep, makes_keep, names_of_places, places_of_names}
use Rattle.answered_calls.proofs.NamesKept.{names_changed}
use Rattle.answered_calls.proofs.NamesKeptByRequests.{request_keeps_names}
use Rattle.answered_calls.proofs.NamesStay.{BothApart, all_steps, names_stay}
use Rattle.answered_calls.proofs.RangesCounted.{all_set_by}
use Rattle.answered_calls.proofs.RangesTold.{SetsFew}
use Rattle.answered_calls.proofs.NamesUntouched.{additions_none, appended_none, cleared_none, none_keep, updated_none, written_none}

-- ---- members one after another

-- named ranges are apart behind a member, if they were before
abbrev MemberKeeps : {M A : Type 0} → (PlaceBook → M → Result (A × List BookChange) Rule → Type 0) → Type 0
MemberKeeps {M = M} {A = A} Is = (book : PlaceBook) (member : M) (done : A × List BookChange) (after : PlaceBook)
    → IsSound book → AreNames book.ranges → Is book member (Ok done) → AreChanges done.1 book after
    → AreNames after.ranges

module _ {M A : Type 0} (Is : PlaceBook → M → Result (A × List BookChange) Rule → Type 0) where
  -- members that touch no named range leave them apart
  none_keeps : StandsForSome
      → ((book : PlaceBook) (member : M) (told : Result (A × List BookChange) Rule) → Is book member told
      → SetsFew 0 told)
      → MemberKeeps Is
  none_keeps some none book member done after sound apart is are =
      let few : all_set_by done.1 ≤ 0 = none book member (Ok done) is in
      names_stay some done.1 (omega (arith, few)) book after sound are apart

  -- one after another they do
  module _ (keeps : MemberKeeps Is) where
    then_keeps : (at : ℕ) (member : M) (members : List M) (book : PlaceBook) (told : ToldOfAll A)
        (changes : List BookChange)
        → ((between : PlaceBook) (rest : ToldOfAll A) (others : List BookChange)
        → InTurn Is (at + 1) members between rest others → ChangesKeep between others)
        → (one : Result (A × List BookChange) Rule) → Is book member one
        → ThenOn at one (InTurn Is (at + 1) members) book told changes → ChangesKeep book changes
    then_keeps at member members book told changes later (Ok (first, made)) is then named stands apart =
        let (between, rest, others, are, turns, told_is, changes_are) = then in
        let now = are.names named stands in
        let before = places_of_names book named.book stands.stands apart in
        let names = keeps book member (first, made) between stands.stands.sound before is are in
        subst (λ changes. HasNames (changed_by_all named changes).book) (sym changes_are)
        (subst (λ (now : Named). HasNames now.book) (sym (fold-append changed_by named made others))
        (later between rest others turns (changed_by_all named made) now
        (names_of_places between (changed_by_all named made).book now.stands names)))
    then_keeps at member members book told changes later (Err broken) is then named stands apart =
        subst (λ changes. HasNames (changed_by_all named changes).book) (sym then.1) apart

    turns_keep : (at : ℕ) (members : List M) (book : PlaceBook) (told : ToldOfAll A) (changes : List BookChange)
        → InTurn Is at members book told changes → ChangesKeep book changes
    turns_keep at [] book told changes is named stands apart =
        subst (λ changes. HasNames (changed_by_all named changes).book) (sym is.1) apart
    turns_keep at (member ∷ members) book told changes (one, is, then) named stands apart =
        then_keeps at member members book told changes (λ between rest others are.
        turns_keep (at + 1) members between rest others are) one is then named stands apart

-- the requests of a batch
step_keeps : ChangesApart → StandsForSome → (user project : List ℕ) → MemberKeeps (IsRequested user project)
step_keeps once some user project book (step.Read asked) done after sound names is are =
    request_keeps_names once some names_changed user project book sound done after are names asked is
step_keeps once some user project book (step.Shape shape) done after sound names is are =
    absurd (told_apart done (rule_of shape) is)

-- ---- what a call makes of a world

module _ (books : List PlaceBook) (world : NameWorld) (stands : WorldStandsFor books world)
    (apart : WorldHasNames world) where
  -- they are apart in the world after it, too
  abbrev Kept : Effect → Type 0
  Kept effect = WorldHasNames (world_after effect world)

  pub nothing_kept : (effect : Effect) → effect ≡ Nothing → Kept effect
  nothing_kept effect is = subst Kept (sym is) apart

  module _ (id : List ℕ) (book : PlaceBook) (there : book_with id books ≡ Some book) where
    one_kept : {A : Type 0} (one : Result (A × List BookChange) Rule) → SetsFew 0 one → Kept (effect_on book one)
    one_kept (Ok (told, changes)) none =
        changes_keep books world stands apart id book there changes
        (none_keep book changes (omega (arith, none)))
    one_kept (Err broken) none = apart

    made_kept : {A : Type 0} (Is : Result (A × List BookChange) Rule → Type 0) (answer_of : A → Answer)
        (told : Result Answer Rule) (effect : Effect)
        → ((one : Result (A × List BookChange) Rule) → Is one → SetsFew 0 one)
        → IsMade Is answer_of book told effect → Kept effect
    made_kept Is answer_of told effect none made =
        subst Kept (sym made.effect_is) (one_kept made.one (none made.one made.is))

    all_kept : {A : Type 0} (all : ToldOfAll A) (changes : List BookChange) → ChangesKeep book changes
        → Kept (effect_of book all changes)
    all_kept (Ok all) changes keep = changes_keep books world stands apart id book there changes keep
    all_kept (Err broken) changes keep = apart

    members_kept : {M A : Type 0} (Is : PlaceBook → M → Result (A × List BookChange) Rule → Type 0)
        (members : List M) (at : ℕ → Place) (answer_of : List A → Answer) (told : Result Answer Refusal)
        (effect : Effect) → MemberKeeps Is → AreMade Is members at answer_of book told effect → Kept effect
    members_kept Is members at answer_of told effect keeps are =
        subst Kept (sym are.effect_is)
        (all_kept are.all are.changes (turns_keep Is keeps 0 members book are.all are.changes are.each))

  -- a spreadsheet that is made has none
  made_or_nothing : (owner : List ℕ) (asked : NewSpreadsheet) (others : ℕ) (placed : List Placed)
      (told : Result Answer Rule) → Kept (unless_broken told (makes_book owner asked others placed))
  made_or_nothing owner asked others placed (Ok told) =
      let bare = bare_names (book_id others) (title_or_untitled asked) owner in
      let none : AllPairs BothApart bare.ranges = λ i j d less there. absurd (omega (arith, there)) in
      makes_keep world apart bare (additions placed)
      (all_steps (additions placed) (record { book = bare; next = world.next }) (additions_none placed) none)
  made_or_nothing owner asked others placed (Err broken) = apart

  created_kept : (owner : List ℕ) (asked : Reading NewSpreadsheet) (told : Result Answer Rule) (effect : Effect)
      → IsCreateOf owner asked books told effect → Kept effect
  created_kept owner (Ok asked) told effect is =
      subst Kept (sym is.effect_is) (made_or_nothing owner asked (length books) is.placed told)
  created_kept owner (Err shape) told effect is = nothing_kept effect is.1

  module _ (once : ChangesApart) (some : StandsForSome) (caller : Caller) (told : Result Answer Refusal)
      (effect : Effect) where
    -- what a call on the spreadsheet with an id makes
    on_book : (Holds : PlaceBook → Type 0) (id : List ℕ) → OnBook id books Holds
        → ((book : PlaceBook) → book_with id books ≡ Some book → Holds book → Kept effect) → Kept effect
    on_book Holds id is each =
        let (book, there, holds) = some_and Holds (book_with id books) is in each book there holds

    pub called_kept : (called : Call) → IsAnswered caller called books told effect → Kept effect
    called_kept (call.Create spreadsheet) is =
        created_kept caller.user spreadsheet is.judged effect is.answered
    called_kept (call.Get id grids) is =
        on_book _ id is (λ book there looks. nothing_kept effect looks.nothing)
    called_kept (call.Batch id requests) is = on_book _ id is (λ book there are.
        members_kept id book there (IsRequested caller.user caller.project) requests _ _ told effect
        (step_keeps once some caller.user caller.project) are)
    called_kept (call.Read id range dimension render) is =
        on_book _ id is (λ book there seen. nothing_kept effect seen.answered.nothing)
    called_kept (call.Write id range mode values) is = on_book _ id is (λ book there made.
        made_kept id book there (IsWritten caller.user range book values) _ made.judged effect
        (written_none caller.user range book values) made.answered)
    called_kept (call.Append id range mode option values) is = on_book _ id is (λ book there made.
        made_kept id book there (IsAppended caller.user range (inserts option) book values) _ made.judged effect
        (appended_none caller.user range (inserts option) book values) made.answered)
    called_kept (call.Clear id range) is = on_book _ id is (λ book there made.
        made_kept id book there (IsCleared caller.user book (Ok range)) _ made.judged effect
        (cleared_none caller.user book (Ok range)) made.answered)
    called_kept (call.ReadMany id ranges dimension render) is =
        on_book _ id is (λ book there seen. nothing_kept effect seen.nothing)
    called_kept (call.WriteMany id mode blocks) is = on_book _ id is (λ book there are.
        members_kept id book there (IsUpdated caller.user) blocks _ _ told effect
        (none_keeps (IsUpdated caller.user) some (updated_none caller.user)) are)
    called_kept (call.ClearMany id ranges) is = on_book _ id is (λ book there are.
        members_kept id book there (IsCleared caller.user) ranges _ _ told effect
        (none_keeps (IsCleared caller.user) some (cleared_none caller.user)) are)
    called_kept (call.ReadFiltered id filters dimension render) is =
        on_book _ id is (λ book there seen. nothing_kept effect seen.nothing)
    called_kept (call.Item id item) is =
        on_book _ id is (λ book there told. nothing_kept effect told.1)
    called_kept (call.Search id filters) is =
        on_book _ id is (λ book there seen. nothing_kept effect seen.nothing)
