-- The list that a desk tells, and what a call is at a point of it.
use Rattle.std.specs.Prelude.{◌≡◌, ◌⊎◌, ℕ, ◌≤◌, ◌<◌, Bool, true, List, [], ◌∷◌, ◌++◌, All, length, drop, Option, Some, None, IfSome, if◌then◌else◌}
use Rattle.std.specs.List.{Contains}
use Rattle.cell_value.specs.FaultCount.{Rose, StaysSteady}
use Rattle.history_lock.specs.History.{StartsWith, NoneOf, AreSilent}
use Rattle.history_lock.specs.declared.view.Drawing.TheVariants.{Alone}
use Rattle.history_lock.specs.Passes.{seen_by, number_of, count_of, drawing_of, met_by}
use Rattle.history_lock.specs.declared.pass.Pass.{Pass}
use Rattle.desk.specs.declared.entry.Entry.{Entry}
use Rattle.desk.specs.declared.entry.Ask.{Ask}
use Rattle.desk.specs.declared.entry.Reply.{Reply}
use Rattle.desk.specs.declared.entry.Noted.{Noted}
use Rattle.desk.specs.declared.entry.Noted.TheVariants as noted
use Rattle.desk.specs.declared.state.TheConstants.{LONGEST_JOURNAL}
use Rattle.desk.specs.Journal.{journal_text}
use Rattle.desk.specs.Histories.{AreAccepted, IsHistory}
use Rattle.desk.specs.Steps.{Outcome, entry_of, StepsTo, unavailable_body}

-- the entries of a told list; marks are left out
abbrev pub entries_of : List Noted → List Entry
entries_of [] = []
entries_of (noted.Entry entry ∷ items) = entry ∷ entries_of items
entries_of (noted.Mark entry before after ∷ items) = entries_of items

-- the caller that an item is from
abbrev pub caller_of : Noted → ℕ
caller_of (noted.Entry entry) = entry.caller
caller_of (noted.Mark entry before after) = entry.caller

-- how often the keeper had failed after the last mark; where there is none, the given count
abbrev pub last_counted : ℕ → List Noted → ℕ
last_counted count [] = count
last_counted count (noted.Entry entry ∷ items) = last_counted count items
last_counted count (noted.Mark entry before after ∷ items) = last_counted after items

-- What a desk tells: its list, a pair that no call changes, of the journal's limit and the keeper's count of faults at
-- the opening, and the keeper.
pub record Telling (K : Type 0) : Type 0 where
  pub list : List Noted
  pub pair : ℕ × ℕ
  pub keeper : K

-- the list, and the pair
abbrev pub list_of : {K : Type 0} → Telling K → List Noted
list_of telling = telling.list

abbrev pub pair_of : {K : Type 0} → Telling K → ℕ × ℕ
pair_of telling = telling.pair

-- the keeper's count of faults is that of the last mark
abbrev pub IsCounted : {K : Type 0} → (K → ℕ) → Telling K → Type 0
IsCounted failures telling = failures telling.keeper ≡ last_counted telling.pair.1 telling.list

-- the counts of faults are those of a keeper before a call and after it, which stays steady where it was
pub record AreCountsOf {K : Type 0} (failures : K → ℕ) (steady : K → Bool) (faults : ℕ × ℕ) (before after : K) : Type 0
  where
    pub before_is : faults.0 ≡ failures before
    pub after_is : faults.1 ≡ failures after
    pub stays : StaysSteady (steady before) (steady after) (failures before) (failures after)

-- nothing was added, and the keeper's count of faults stayed
pub record IsUnmade {K : Type 0} (failures : K → ℕ) (steady : K → Bool) (before after : Telling K) : Type 0 where
  pub list_is : after.list ≡ before.list
  pub count_is : failures after.keeper ≡ failures before.keeper
  pub stays : StaysSteady (steady before.keeper) (steady after.keeper) (failures before.keeper) (failures after.keeper)

-- the entries of the marks behind the last entry; where there is none, behind the given ones
abbrev pub marked_last : List Entry → List Noted → List Entry
marked_last marks [] = marks
marked_last marks (noted.Entry entry ∷ items) = marked_last [] items
marked_last marks (noted.Mark entry before after ∷ items) = marked_last (marks ++ entry ∷ []) items

-- the entries are those of the history, or these and one more, which has one of these marks
abbrev pub AreOneMore : List Entry → List Entry → List Entry → Type 0
AreOneMore history marks entries =
    (entries ≡ history) ⊎ ((entry : Entry) × Contains marks entry × (entries ≡ history ++ entry ∷ []))

-- The bytes are no more than the limit, and the journal of a history: that of the list's entries, or of these and one
-- entry more, which has a mark behind the last. A torn rest may stand behind them.
pub record IsJournalFor (plain : List Entry → Ask → Outcome → Type 0) (limit : ℕ) (list : List Noted) (bytes : List ℕ)
    : Type 0 where
  pub short : length bytes ≤ limit
  pub entries : List Entry
  pub history : IsHistory plain bytes entries
  pub one_of : AreOneMore (entries_of list) (marked_last [] list) entries

-- the bytes that are kept are such a journal
abbrev pub Keeps : (List Entry → Ask → Outcome → Type 0) → ℕ → Option (List ℕ) → List Noted → Type 0
Keeps plain limit kept list = IfSome kept (IsJournalFor plain limit list)

-- ---- a call at a point

module _ (plain : List Entry → Ask → Outcome → Type 0) (pair : ℕ × ℕ) (caller : ℕ) (ask : Ask) (told after : List Noted)
    (reply : Reply) where
  -- the reply is that of one thread behind the told entries; the call's entry is added exactly where it is accepted
  pub record IsStep : Type 0 where
    pub outcome : Outcome
    pub steps : StepsTo plain pair.0 (entries_of told) ask outcome
    pub status_is : reply.status ≡ outcome.status
    pub body_is : reply.body ≡ Some outcome.body
    pub item : after ≡ (if outcome.accepts then told ++ noted.Entry (entry_of caller ask) ∷ [] else told)
    pub counts_are : reply.faults ≡ (last_counted pair.1 told, last_counted pair.1 told)

  -- the call would be accepted, but the keeper failed; a mark is added, which begins where the last one ended
  pub record IsUnavailable : Type 0 where
    pub outcome : Outcome
    pub steps : StepsTo plain pair.0 (entries_of told) ask outcome
    pub accepts : outcome.accepts ≡ true
    pub status_is : reply.status ≡ 503
    pub body_is : reply.body ≡ Some unavailable_body
    pub item : after ≡ told ++ noted.Mark (entry_of caller ask) reply.faults.0 reply.faults.1 ∷ []
    pub since : reply.faults.0 ≡ last_counted pair.1 told
    pub rose : Rose reply.faults.0 reply.faults.1

  -- memory ran out, and nothing is added
  pub record IsOutOfMemory : Type 0 where
    pub status_is : reply.status ≡ 507
    pub body_is : reply.body ≡ None
    pub item : after ≡ told
    pub counts_are : reply.faults ≡ (last_counted pair.1 told, last_counted pair.1 told)

  -- a call that wants no memory
  pub record IsAnswered : Type 0 where
    pub at_is : reply.at ≡ length (entries_of told)
    pub one_of : IsStep ⊎ IsUnavailable

  -- what a call comes to
  pub data Happening : Type 0 where
    as_one_thread : IsStep → Happening
    as_unavailable : IsUnavailable → Happening
    as_out_of_memory : IsOutOfMemory → Happening

  -- a call of this caller behind the told items: its reply tells how many entries these have
  pub record Happens : Type 0 where
    pub at_is : reply.at ≡ length (entries_of told)
    pub comes_to : Happening

-- items that others added: none is from this caller, and each is from one of so many callers
pub record AreOthers (callers caller : ℕ) (items : List Noted) : Type 0 where
  pub not_own : NoneOf caller_of caller items
  pub numbered : All (λ item. caller_of item < callers) items

-- A call at a point of the list, of a caller that had seen the items before and has seen those after: others may have
-- added items, and behind these the call happens.
pub record IsCallAt (plain : List Entry → Ask → Outcome → Type 0) (pair : ℕ × ℕ) (callers caller : ℕ) (ask : Ask)
    (before after : List Noted) (reply : Reply) : Type 0 where
  pub told : List Noted
  pub begins : StartsWith told before
  pub others : AreOthers callers caller (drop (length before) told)
  pub happens : Happens plain pair caller ask told after reply

-- What a closed desk's history is, by the pass that closed it: the entries of a list that begins with all that the pass
-- had seen, to which others may have added items, but none whose pass this one took in. Each item since the opening is
-- from one of so many callers; where the pass alone drew numbers, from one below the count that it knew. Each entry is
-- accepted behind those before it. The keeper's count of faults is that of the list's last mark. What it keeps is the
-- journal of the history, or of it and one entry more, which has a mark behind the last.
pub record IsClosed (plain : List Entry → Ask → Outcome → Type 0) (start : List Noted) (pair : ℕ × ℕ) (callers : ℕ)
    (pass : Pass Noted) (entries : List Entry) (failures : ℕ) (kept : Option (List ℕ)) : Type 0 where
  pub told : List Noted
  pub begins : StartsWith told (seen_by pass)
  pub not_own : NoneOf caller_of (number_of pass) (drop (length (seen_by pass)) told)
  pub numbered : All (λ item. caller_of item < callers) (drop (length start) told)
  pub alone : drawing_of pass ≡ Alone → All (λ item. caller_of item < count_of pass) (drop (length start) told)
  pub done : AreSilent caller_of (met_by pass) told
  pub entries_are : entries ≡ entries_of told
  pub accepted : AreAccepted plain entries
  pub counted : failures ≡ last_counted pair.1 told
  pub keeps : Keeps plain pair.0 kept told

-- ---- what a state keeps

-- the world stands for the entries of the list, each of which is accepted behind those before it; they and the bytes of
-- their journal are counted; the keeper's count of faults is that of the last mark; and the journal is kept
pub record IsSound {W : Type 0} (plain : List Entry → Ask → Outcome → Type 0) (stands : W → List Entry → Type 0)
    (world : W) (list : List Noted) (entries bytes limit opened failures : ℕ) (kept : Option (List ℕ)) : Type 0 where
  pub world_is : stands world (entries_of list)
  pub accepted : AreAccepted plain (entries_of list)
  pub entries_is : entries ≡ length (entries_of list)
  pub bytes_is : bytes ≡ length (journal_text (entries_of list))
  pub limit_is : limit ≤ LONGEST_JOURNAL
  pub failures_is : failures ≡ last_counted opened list
  pub keeps : Keeps plain limit kept list
