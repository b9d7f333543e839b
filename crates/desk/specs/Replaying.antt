-- While a journal is read: the entry that stands there, its call made again, and the world behind it.
use Rattle.std.specs.Prelude.{◌≡◌, ℕ, List, [], ◌∷◌, ◌++◌, length, map}
use Rattle.desk.specs.declared.entry.Entry.{Entry}
use Rattle.desk.specs.declared.entry.Ask.{Ask}
use Rattle.desk.specs.declared.entry.Noted.{Noted}
use Rattle.desk.specs.declared.entry.Noted.TheVariants as noted
use Rattle.desk.specs.declared.reading.EntryBytes.{EntryBytes}
use Rattle.desk.specs.Journal.{journal_text}
use Rattle.desk.specs.Steps.{Outcome}
use Rattle.desk.specs.Points.{entries_of}
use Rattle.desk.specs.Histories.{IsAcceptedBehind}

-- the entry that stands there
abbrev pub entry_in : EntryBytes → Entry
entry_in entry = record {
  caller = entry.caller;
  user = entry.user.now;
  project = entry.project.now;
  target = entry.target.now;
  body = entry.body.now;
}

-- the call of an entry was made again behind the entries before it, and is accepted: this is its own, and the world
-- stands for all of them
pub record IsMadeAgain {W : Type 0} (plain : List Entry → Ask → Outcome → Type 0) (stands : W → List Entry → Type 0)
    (before : List Entry) (read entry : Entry) (world : W) : Type 0 where
  pub entry_is : entry ≡ read
  pub accepted : IsAcceptedBehind plain before read
  pub world_is : stands world (before ++ read ∷ [])

-- the world stands for the entries of the list, which has no marks, and the bytes of their journal are counted
pub record IsReplayed {W : Type 0} (stands : W → List Entry → Type 0) (world : W) (list : List Noted) (bytes : ℕ)
    : Type 0 where
  pub world_is : stands world (entries_of list)
  pub list_is : list ≡ map noted.Entry (entries_of list)
  pub bytes_is : bytes ≡ length (journal_text (entries_of list))
