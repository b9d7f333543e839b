-- The history that the calls of the table make, and what is told of it.
use Rattle.std.specs.Prelude.{◌≡◌, ℕ, zero, suc, ◌+◌, ◌%◌, ◌==◌, List, [], ◌∷◌, ◌++◌, length, codes}
use Rattle.std.specs.Prelude.{Some, false, if◌then◌else◌}
use Rattle.desk.specs.declared.entry.Ask.{Ask}
use Rattle.desk.specs.declared.entry.Entry.{Entry}
use Rattle.desk.specs.Steps.{Outcome, entry_of, StepsTo}
use Rattle.desk.specs.Journal.{journal_text}
use Rattle.workload.specs.declared.calls.WorkSummary.{WorkSummary}
use Rattle.workload.specs.Table.{call_of}

-- two callers take turns
abbrev pub caller_number : ℕ → ℕ
caller_number i = i % 2

-- the first is the owner, and the second another user
abbrev pub user_number : ℕ → List ℕ
user_number i = if caller_number i == 0 then codes "owner" else codes "bob"

-- what call i asks
abbrev pub ask_number : ℕ → Ask
ask_number i = record {
  user = Some (user_number i);
  project = [];
  target = (call_of i).target;
  coded = false;
  body = (call_of i).body;
}

-- the entry that call i makes, where it is accepted
abbrev pub entry_number : ℕ → Entry
entry_number i = entry_of (caller_number i) (ask_number i)

module _ (plain : List Entry → Ask → Outcome → Type 0) (limit : ℕ) where
  -- call i is made behind a history: it is entered exactly where one thread accepts it there
  pub record IsMade (i : ℕ) (before after : List Entry) : Type 0 where
    pub outcome : Outcome
    pub steps : StepsTo plain limit before (ask_number i) outcome
    pub history_is : after ≡ (if outcome.accepts then before ++ entry_number i ∷ [] else before)

  -- the history is what so many calls make, from call 0 on, each behind what those before it made
  abbrev pub IsWork : ℕ → List Entry → Type 0
  IsWork zero history = history ≡ []
  IsWork (suc i) history = (before : List Entry) × IsWork i before × IsMade i before history

  -- What is told of so many calls is how many they were, how many of them are in the history that they make, how many
  -- aren't, how many cells that history makes, and how many bytes its journal has.
  pub record Tells (cells : List Entry → ℕ → Type 0) (calls : ℕ) (told : WorkSummary) : Type 0 where
    pub history : List Entry
    pub work : IsWork calls history
    pub calls_are : told.calls ≡ calls
    pub accepted_are : told.accepted ≡ length history
    pub refused_are : told.accepted + told.refused ≡ calls
    pub cells_are : cells history told.cells
    pub bytes_are : told.history ≡ length (journal_text history)

  -- so many calls make one history
  abbrev pub HasOneWork : Type 0
  HasOneWork = (calls : ℕ) (history other : List Entry) → IsWork calls history → IsWork calls other → history ≡ other

  -- so many calls are told of in one way
  abbrev pub TellsOnce : (List Entry → ℕ → Type 0) → Type 0
  TellsOnce cells = (calls : ℕ) (told other : WorkSummary) → Tells cells calls told → Tells cells calls other
      → told ≡ other
