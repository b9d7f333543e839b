-- What is answered on spreadsheets that stand for what a history made is what one thread answers behind it.
use Rattle.std.proofs.Common.{◌≡◌, ℕ, true, false, List, [], ◌∷◌, ◌++◌, Option, Some, None, MatchOption, Result}
use Rattle.std.proofs.Common.{refl, sym, ap, subst, ◌∙◌}
use Rattle.std.specs.Prelude.{is_some, IfOk}
use Rattle.world_model.specs.Book.{PlaceBook}
use Rattle.world_model.specs.World.{NameWorld, WorldStandsFor}
use Rattle.dimension_ops.specs.World.{opening_book, opening_world}
use Rattle.sheets_json.specs.declared.answer.Answer.{Answer}
use Rattle.batch_engine.specs.Calls.{Refusal, told_as}
use Rattle.batch_engine.specs.Effects.{IsNext, world_after}
use Rattle.desk.specs.Entries.{asks_again}
use Rattle.desk.specs.Steps.{Answers, Outcome, entry_of}
use Rattle.desk.specs.declared.engine.Answered.{Answered}
use Rattle.desk.specs.declared.entry.Ask.{Ask}
use Rattle.desk.specs.declared.entry.Entry.{Entry}
use Rattle.sheet_engine.specs.Answers.{Makes, as_fault, body_of, outcome_of, status_of, told_by}
use Rattle.sheet_engine.specs.Replay.{Follows, IsAnsweredOn, Plain, ReplaysFrom, Stands}
use Rattle.sheet_engine.specs.declared.fault.Fault.{Fault}
use Rattle.sheet_engine.proofs.Accepted.{accepted_next, becomes_next}
use Rattle.sheet_engine.proofs.Serving.{accepted_call, whole}

pub told_as_fault : (judged : Result Answer Refusal) → told_by (told_as judged) ≡ as_fault judged
told_as_fault (Result.Ok answer) = refl
told_as_fault (Result.Err (at, broken)) = refl

-- ---- the beginning

pub opens : {E : Type 0} (opened : Result (List PlaceBook) E) → IfOk opened (λ world. world ≡ opening_book ∷ [])
    → WorldStandsFor (opening_book ∷ []) opening_world → IfOk opened (λ world. Stands world [])
opens (Result.Ok world) is stands = record {
  world = opening_world;
  replays = refl;
  seen = subst (λ books. WorldStandsFor books opening_world) (sym is) stands;
}
opens (Result.Err none) is stands = tt

-- ---- entries

-- one entry more
pub replays_more : (start : NameWorld) (entries : List Entry) (entry : Entry) (world world' : NameWorld)
    → ReplaysFrom start entries world → Follows world entry world' → ReplaysFrom start (entries ++ entry ∷ []) world'
replays_more start [] entry world world' is follows = (world', subst (λ w. Follows w entry world') is follows, refl)
replays_more start (first ∷ entries) entry world world' (between, one, others) follows =
    (between, one, replays_more between entries entry world world' others follows)

-- ---- answers

module _ (books : List PlaceBook) (ask : Ask) (entries : List Entry) (stands : Stands books entries)
    (told : Result Answer Fault) (next : Option (List PlaceBook)) (makes : Makes books ask told next) where
  abbrev outcome : Outcome
  outcome = outcome_of makes.asked told

  answered_on : IsAnsweredOn stands.world ask outcome makes.effect
  answered_on = record {
    books = books;
    seen = stands.seen;
    asked = makes.asked;
    told = told;
    is_step = makes.is_step;
    outcome_is = refl;
  }

  accepts : outcome.accepts ≡ is_some next
  accepts = accepted_next books makes.asked told makes.effect next makes.is_step.ends makes.is_next

  -- spreadsheets that come next stand for the history with the ask's entry
  stands_next : (after : List PlaceBook) → next ≡ Some after → (caller : ℕ)
      → Stands after (entries ++ entry_of caller ask ∷ [])
  stands_next after is caller =
      let w = whole books ask makes.asked makes.is_step.is_asked
      (accepted_call makes.asked told (accepts ∙ ap is_some is)) in
      let becomes = becomes_next books after makes.effect (subst (IsNext books makes.effect) is makes.is_next) in
      record {
        world = world_after makes.effect stands.world;
        replays = replays_more _ entries (entry_of caller ask) stands.world (world_after makes.effect stands.world)
            stands.replays
            (record {
              outcome = outcome;
              effect = makes.effect;
              answered = subst (λ a. IsAnsweredOn stands.world a outcome makes.effect)
                  (asks_again caller ask w.known w.coded_is)
                  answered_on;
              world_is = refl;
            });
        seen = becomes.names stands.world stands.seen;
      }

  next_is : (one : Option (List PlaceBook)) → next ≡ one
      → MatchOption one (outcome.accepts ≡ false) (λ world. (outcome.accepts ≡ true)
      × ((caller : ℕ) → Stands world (entries ++ entry_of caller ask ∷ [])))
  next_is None is = accepts ∙ ap is_some is
  next_is (Some after) is = (accepts ∙ ap is_some is, stands_next after is)

  pub answers : (answered : Answered (List PlaceBook)) → answered.status ≡ status_of told → answered.body ≡ body_of told
      → answered.next ≡ next → Answers Plain Stands entries ask answered
  answers answered status body same = record {
    outcome = outcome;
    plainly = record {
      world = stands.world;
      replays = stands.replays;
      effect = makes.effect;
      answered = answered_on;
    };
    status_is = status;
    body_is = body;
    next_is = next_is answered.next (sym same);
  }
