-- What the calls of a history make of the spreadsheets that there are in the beginning, by the names of their lines,
-- and what one thread answers an ask behind them.
use Rattle.std.specs.Prelude.{◌≡◌, ℕ, List, [], ◌∷◌, Result}
use Rattle.world_model.specs.Book.{PlaceBook}
use Rattle.world_model.specs.Counts.{filled_in}
use Rattle.world_model.specs.World.{NameWorld, WorldStandsFor}
use Rattle.dimension_ops.specs.World.{opening_world}
use Rattle.sheets_json.specs.declared.answer.Answer.{Answer}
use Rattle.sheets_json.specs.declared.call.Call.{Call}
use Rattle.batch_engine.specs.Effects.{Effect, world_after}
use Rattle.batch_engine.specs.declared.calls.Caller.{Caller}
use Rattle.desk.specs.Histories.{asked_again}
use Rattle.desk.specs.Steps.{Outcome}
use Rattle.desk.specs.declared.entry.Ask.{Ask}
use Rattle.desk.specs.declared.entry.Entry.{Entry}
use Rattle.sheet_engine.specs.Answers.{IsStep, outcome_of}
use Rattle.sheet_engine.specs.declared.fault.Fault.{Fault}

-- What an ask is answered on a world, and what it makes of it: what is seen of the world are the spreadsheets by places
-- that stand for it.
pub record IsAnsweredOn (world : NameWorld) (ask : Ask) (outcome : Outcome) (effect : Effect) : Type 0 where
  pub books : List PlaceBook
  pub seen : WorldStandsFor books world
  pub asked : Result (Caller × Call) Fault
  pub told : Result Answer Fault
  pub is_step : IsStep books ask asked told effect
  pub outcome_is : outcome ≡ outcome_of asked told

-- the world after an entry is what its ask makes of the one before
pub record Follows (world : NameWorld) (entry : Entry) (world' : NameWorld) : Type 0 where
  pub outcome : Outcome
  pub effect : Effect
  pub answered : IsAnsweredOn world (asked_again entry) outcome effect
  pub world_is : world' ≡ world_after effect world

-- one entry after another
abbrev pub ReplaysFrom : NameWorld → List Entry → NameWorld → Type 0
ReplaysFrom world [] world' = world' ≡ world
ReplaysFrom world (entry ∷ entries) world' =
    (between : NameWorld) × Follows world entry between × ReplaysFrom between entries world'

-- the world that the entries made, from the one of the beginning
abbrev pub Replays : List Entry → NameWorld → Type 0
Replays entries world = ReplaysFrom opening_world entries world

-- what one thread answers an ask behind the entries
pub record Plain (entries : List Entry) (ask : Ask) (outcome : Outcome) : Type 0 where
  pub world : NameWorld
  pub replays : Replays entries world
  pub effect : Effect
  pub answered : IsAnsweredOn world ask outcome effect

-- the spreadsheets stand for the world that the entries made
pub record Stands (books : List PlaceBook) (entries : List Entry) : Type 0 where
  pub world : NameWorld
  pub replays : Replays entries world
  pub seen : WorldStandsFor books world

-- how many cells are stored in the spreadsheets that stand for it
pub record Cells (entries : List Entry) (count : ℕ) : Type 0 where
  pub books : List PlaceBook
  pub stands : Stands books entries
  pub count_is : count ≡ filled_in books
