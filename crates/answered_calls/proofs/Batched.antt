-- A batch has an answer where each request is told something that can be made, and named ranges are so few that a
-- number is left for one that each of them adds.
use Rattle.std.proofs.Common.{◌≤◌, ℕ, ◌+◌, ◌^◌, ◌<◌, ◌++◌, refl, List, [], ◌∷◌, length, arith}
use Rattle.std.specs.Prelude.{Result, Ok, Err}
use Rattle.named_ranges.specs.Listed.{AreNames}
use Rattle.world_model.specs.Book.{PlaceBook}
use Rattle.world_model.specs.BookChange.{AreChanges, BookChange}
use Rattle.world_model.specs.ChangingLaws.{ChangesApart, ChangesInTurn}
use Rattle.world_model.specs.Laws.{StandsForSome}
use Rattle.world_model.specs.Sound.{IsSound}
use Rattle.dimension_ops.specs.declared.rule.Rule.{Rule}
use Rattle.json_requests.specs.declared.request.Request.{Request}
use Rattle.json_requests.specs.declared.request.Step.{Step}
use Rattle.json_requests.specs.declared.request.Step.TheVariants as step
use Rattle.sheets_json.specs.declared.answer.Answer.TheVariants as answer
use Rattle.sheets_json.specs.declared.place.Place.TheVariants as place
use Rattle.sheets_json.specs.declared.spreadsheet.Reply.{Reply}
use Rattle.request_kinds.specs.Requests.{IsDoneAsAsked}
use Rattle.request_kinds.specs.TellingLaws.{told_apart}
use Rattle.batch_engine.specs.Answered.{HasNoAnswer}
use Rattle.batch_engine.specs.Calls.{IsBatchOf, IsRequested, answered_at, effect_of}
use Rattle.batch_engine.specs.Members.{InTurn, ToldOfAll, with_first}
use Rattle.batch_engine.specs.Values.{rule_of}
use Rattle.batch_engine.specs.MadeLaws.{CanBeMade}
use Rattle.answered_calls.proofs.NamedRangesAdded.{HasFewRanges}
use Rattle.answered_calls.proofs.NamesKeptByRequests.{NamesChange, request_keeps_names}
use Rattle.answered_calls.proofs.RangesCounted.{few_added}
use Rattle.answered_calls.proofs.RangesTold.{SetsFew}
use Rattle.answered_calls.proofs.RequestsFew.{most_of, most_one, request_few}
use Rattle.answered_calls.proofs.Telling.{IsMadeSome}

-- ---- members one after another, each of which adds at most one named range

-- there is room for one that each adds
abbrev pub HasRoom : {M : Type 0} → List M → PlaceBook → Type 0
HasRoom members book = length book.ranges + length members + 1 < 2 ^ 64

-- members are done to such a spreadsheet
pub record IsReady {M : Type 0} (members : List M) (book : PlaceBook) : Type 0 where
  pub sound : IsSound book
  pub names : AreNames book.ranges
  pub room : HasRoom members book

module _ {M A : Type 0} (turns : ChangesInTurn) (some : StandsForSome)
    (Is : PlaceBook → M → Result (A × List BookChange) Rule → Type 0)
    (each : (book : PlaceBook) → IsSound book → AreNames book.ranges → HasFewRanges book → (member : M)
    → IsMadeSome book (Is book member))
    (adds : (book : PlaceBook) (member : M) (told : Result (A × List BookChange) Rule) → Is book member told
    → SetsFew 1 told)
    (keeps : (book : PlaceBook) (member : M) (done : A × List BookChange) (after : PlaceBook) → IsSound book
    → AreNames book.ranges → Is book member (Ok done) → AreChanges done.1 book after → AreNames after.ranges) where
  -- nothing that is told of members and made by them is possible
  abbrev HasNoTurn : ℕ → List M → PlaceBook → Type 0
  HasNoTurn at members book = (told : ToldOfAll A) (changes : List BookChange)
      → ¬ (InTurn Is at members book told changes)

  some_before : (at : ℕ) (member : M) (members : List M) (book : PlaceBook) → IsReady (member ∷ members) book
      → ((after : PlaceBook) → IsReady members after → ¬ (HasNoTurn (at + 1) members after))
      → HasNoTurn at (member ∷ members) book → (one : Result (A × List BookChange) Rule) → Is book member one
      → ¬ (CanBeMade book one)
  some_before at member members book ready later none (Ok (first, made)) is (after, changed) =
      let most = few_added some made book after ready.sound changed in
      let few = adds book member (Ok (first, made)) is in
      let room = ready.room in
      later after (record {
        sound = turns.sound made book after ready.sound changed;
        names = keeps book member (first, made) after ready.sound ready.names is changed;
        room = omega (arith, room, most, few);
      }) (λ rest others are.
      none (with_first first rest) (made ++ others)
      (Ok (first, made), is, (after, rest, others, changed, are, refl, refl)))
  some_before at member members book ready later none (Err broken) is can =
      none (Err (at, broken)) [] (Err broken, is, (refl, refl))

  pub some_in_turn : (at : ℕ) (members : List M) (book : PlaceBook) → IsReady members book
      → ¬ (HasNoTurn at members book)
  some_in_turn at [] book ready none = none (Ok []) [] (refl, refl)
  some_in_turn at (member ∷ members) book ready none =
      let room = ready.room in
      each book ready.sound ready.names (omega (arith, room)) member (some_before at member members book ready
      (λ after still. some_in_turn (at + 1) members after still) none)

-- ---- batches

-- each request is told something that can be made
abbrev pub RequestsMade : Type 0
RequestsMade = (user project : List ℕ) (book : PlaceBook) → IsSound book → AreNames book.ranges → HasFewRanges book
    → (asked : Request) → IsMadeSome book (IsDoneAsAsked user project book asked)

module _ (turns : ChangesInTurn) (once : ChangesApart) (some : StandsForSome) (change : NamesChange)
    (made : RequestsMade) (user project : List ℕ) where
  step_made : (book : PlaceBook) → IsSound book → AreNames book.ranges → HasFewRanges book → (asked : Step)
      → IsMadeSome book (IsRequested user project book asked)
  step_made book sound names few (step.Read asked) = made user project book sound names few asked
  step_made book sound names few (step.Shape shape) = λ none. none (Err (rule_of shape)) refl tt

  fewer_than_one : (told : Result (Reply × List BookChange) Rule) (most : ℕ) → most ≤ 1 → SetsFew most told
      → SetsFew 1 told
  fewer_than_one (Ok done) most one few = omega (arith, one, few)
  fewer_than_one (Err broken) most one few = tt

  step_few : (book : PlaceBook) (asked : Step) (told : Result (Reply × List BookChange) Rule)
      → IsRequested user project book asked told → SetsFew 1 told
  step_few book (step.Read asked) told is =
      fewer_than_one told (most_of asked) (most_one asked) (request_few user project book asked told is)
  step_few book (step.Shape shape) (Ok done) is = absurd (told_apart done (rule_of shape) is)
  step_few book (step.Shape shape) (Err broken) is = tt

  step_keeps : (book : PlaceBook) (asked : Step) (done : Reply × List BookChange) (after : PlaceBook) → IsSound book
      → AreNames book.ranges → IsRequested user project book asked (Ok done) → AreChanges done.1 book after
      → AreNames after.ranges
  step_keeps book (step.Read asked) done after sound names is are =
      request_keeps_names once some change user project book sound done after are names asked is
  step_keeps book (step.Shape shape) done after sound names is are = absurd (told_apart done (rule_of shape) is)

  pub batch_answered : (requests : List Step) (book : PlaceBook) → IsReady requests book
      → ¬ (HasNoAnswer (IsBatchOf user project requests book))
  batch_answered requests book ready none =
      some_in_turn turns some (IsRequested user project) step_made step_few step_keeps 0 requests book ready
      (λ all changes each.
      none (answered_at place.Requests (λ replies. answer.Batch replies book.id) all) (effect_of book all changes)
      (record { all = all; changes = changes; each = each; told_is = refl; effect_is = refl }))
