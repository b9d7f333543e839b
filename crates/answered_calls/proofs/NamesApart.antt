-- Behind each history no two named ranges of a spreadsheet have one id or one name.
use Rattle.std.proofs.Common.{sym, subst, List, [], ◌∷◌, arith}
use Rattle.std.specs.Prelude.{Result, Ok, Err}
use Rattle.std.specs.List.{All}
use Rattle.std.proofs.lemmas.List.Elements.{All-cons, All-nil}
use Rattle.named_ranges.specs.Listed.{AreNames}
use Rattle.world_model.specs.Book.{PlaceBook}
use Rattle.world_model.specs.ChangingLaws.{ChangesApart}
use Rattle.world_model.specs.Laws.{StandsForSome}
use Rattle.world_model.specs.World.{NameWorld, WorldStandsFor}
use Rattle.dimension_ops.specs.World.{opening_world}
use Rattle.sheets_json.specs.declared.answer.Answer.{Answer}
use Rattle.sheets_json.specs.declared.call.Call.{Call}
use Rattle.batch_engine.specs.Effects.{Effect, world_after}
use Rattle.batch_engine.specs.declared.calls.Caller.{Caller}
use Rattle.desk.specs.Histories.{asked_again}
use Rattle.desk.specs.Steps.{Outcome}
use Rattle.desk.specs.declared.entry.Ask.{Ask}
use Rattle.desk.specs.declared.entry.Entry.{Entry}
use Rattle.sheet_engine.specs.Answers.{Ends}
use Rattle.sheet_engine.specs.Replay.{Follows, IsAnsweredOn, ReplaysFrom, Stands}
use Rattle.sheet_engine.specs.declared.fault.Fault.{Fault}
use Rattle.answered_calls.proofs.NamesByCalls.{called_kept, nothing_kept}
use Rattle.answered_calls.proofs.NamesInWorlds.{HasNames, WorldHasNames, world_places}

-- the one spreadsheet of the beginning has no named range
opening_apart : WorldHasNames opening_world
opening_apart =
    All-cons HasNames _ [] (λ i j d less there. absurd (omega (arith, there))) (All-nil HasNames)

module _ (once : ChangesApart) (some : StandsForSome) where
  ends_apart : (books : List PlaceBook) (world : NameWorld) → WorldStandsFor books world → WorldHasNames world
      → (asked : Result (Caller × Call) Fault) (told : Result Answer Fault) (effect : Effect)
      → Ends books asked told effect → WorldHasNames (world_after effect world)
  ends_apart books world seen apart (Ok (caller, called)) told effect is =
      called_kept books world seen apart once some caller is.answer effect called is.answered
  ends_apart books world seen apart (Err found) told effect is = nothing_kept books world seen apart effect is.1

  answered_apart : (world : NameWorld) → WorldHasNames world → (ask : Ask) (outcome : Outcome) (effect : Effect)
      → IsAnsweredOn world ask outcome effect → WorldHasNames (world_after effect world)
  answered_apart world apart ask outcome effect is =
      ends_apart is.books world is.seen apart is.asked is.told effect is.is_step.ends

  followed_apart : (world : NameWorld) → WorldHasNames world → (entry : Entry) (later : NameWorld)
      → Follows world entry later → WorldHasNames later
  followed_apart world apart entry later is =
      subst WorldHasNames (sym is.world_is)
      (answered_apart world apart (asked_again entry) is.outcome is.effect is.answered)

  replayed_apart : (entries : List Entry) (world : NameWorld) → WorldHasNames world → (later : NameWorld)
      → ReplaysFrom world entries later → WorldHasNames later
  replayed_apart [] world apart later is = subst WorldHasNames (sym is) apart
  replayed_apart (entry ∷ entries) world apart later (between, follows, replays) =
      replayed_apart entries between (followed_apart world apart entry between follows) later replays

  pub names_apart : (entries : List Entry) (books : List PlaceBook) → Stands books entries
      → All (λ book. AreNames book.ranges) books
  names_apart entries books stands =
      world_places books stands.world stands.seen
      (replayed_apart entries opening_world opening_apart stands.world stands.replays)
