-- What a desk leaves can be opened again.
use Rattle.std.specs.Prelude.{ℕ, List, [], Option, Some, IfSome}
use Rattle.desk.specs.declared.entry.Entry.{Entry}
use Rattle.desk.specs.declared.entry.Ask.{Ask}
use Rattle.desk.specs.declared.entry.Noted.{Noted}
use Rattle.desk.specs.Steps.{Outcome}
use Rattle.desk.specs.Points.{entries_of, marked_last, AreOneMore, Keeps}
use Rattle.desk.specs.Opening.{HasOpened, HasLongJournal, HasBadJournal}

module _ (plain : List Entry → Ask → Outcome → Type 0) where
  -- With this limit the bytes are no long journal, and bad nowhere. What is opened with them are the entries of the
  -- list, or these and one more, which has a mark behind the last.
  pub record OpensAgain (limit : ℕ) (list : List Noted) (bytes : List ℕ) : Type 0 where
    pub not_long : ¬ HasLongJournal limit (Some bytes)
    pub not_bad : (number : ℕ) → ¬ HasBadJournal plain limit (Some bytes) number
    pub opened : (next : List Noted) → HasOpened plain limit (Some bytes) next
        → AreOneMore (entries_of list) (marked_last [] list) (entries_of next)

  -- what is kept of a list can be opened again
  abbrev pub CanReopen : Type 0
  CanReopen = (limit : ℕ) (list : List Noted) (kept : Option (List ℕ)) → Keeps plain limit kept list
      → IfSome kept (OpensAgain limit list)
