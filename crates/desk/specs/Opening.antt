-- What a desk is opened with, and why it isn't.
use Rattle.std.specs.Prelude.{◌≡◌, ◌≤◌, ◌<◌, ℕ, Bool, List, length, map, Option, IfSome}
use Rattle.desk.specs.declared.entry.Entry.{Entry}
use Rattle.desk.specs.declared.entry.Ask.{Ask}
use Rattle.desk.specs.declared.entry.Noted.{Noted}
use Rattle.desk.specs.declared.entry.Noted.TheVariants as noted
use Rattle.cell_value.specs.FaultCount.{StaysSteady}
use Rattle.desk.specs.Steps.{Outcome}
use Rattle.desk.specs.Histories.{IsHistory, IsBadAt}

-- a list of entries, without marks: the history whose journal is kept, which has no more bytes than the limit
pub record HasOpened (plain : List Entry → Ask → Outcome → Type 0) (limit : ℕ) (kept : Option (List ℕ))
    (list : List Noted) : Type 0 where
  pub bytes : List ℕ
  pub kept_are : IfSome kept (λ k. k ≡ bytes)
  pub short : length bytes ≤ limit
  pub entries : List Entry
  pub history : IsHistory plain bytes entries
  pub list_is : list ≡ map noted.Entry entries

-- the bytes that are kept are no more than the limit, and are no history's journal, as this number says
pub record HasBadJournal (plain : List Entry → Ask → Outcome → Type 0) (limit : ℕ) (kept : Option (List ℕ))
    (number : ℕ) : Type 0 where
  pub bytes : List ℕ
  pub kept_are : IfSome kept (λ k. k ≡ bytes)
  pub short : length bytes ≤ limit
  pub bad : IsBadAt plain bytes number

-- more bytes are kept than the limit
abbrev pub HasLongJournal : ℕ → Option (List ℕ) → Type 0
HasLongJournal limit kept = IfSome kept (λ bytes. limit < length bytes)

-- the keeper only loaded: it keeps the same bytes, its count of faults didn't fall, and it stays steady where it was
pub record HasOnlyLoaded {K : Type 0} (kept : K → Option (List ℕ)) (failures : K → ℕ) (steady : K → Bool)
    (before after : K) : Type 0 where
  pub kept_is : kept after ≡ kept before
  pub later : failures before ≤ failures after
  pub stays : StaysSteady (steady before) (steady after) (failures before) (failures after)
