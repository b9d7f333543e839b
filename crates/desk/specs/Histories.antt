-- The history that a journal tells: each entry is a call that is accepted behind the entries before it.
use Rattle.std.specs.Prelude.{◌≡◌, ℕ, zero, suc, true, false, List, [], ◌∷◌, ◌++◌, length, Some, IsUtf8}
use Rattle.desk.specs.declared.entry.Entry.{Entry}
use Rattle.desk.specs.declared.entry.Ask.{Ask}
use Rattle.desk.specs.Journal.{journal_text, IsJournalOf}
use Rattle.desk.specs.Steps.{Outcome}

-- what the call of an entry asked: an entry has a user, and no content coding
abbrev pub asked_again : Entry → Ask
asked_again entry = record {
  user = Some entry.user;
  project = entry.project;
  target = entry.target;
  coded = false;
  body = entry.body;
}

-- user, project and target are UTF-8
pub record AreTexts (entry : Entry) : Type 0 where
  pub user : IsUtf8 entry.user
  pub project : IsUtf8 entry.project
  pub target : IsUtf8 entry.target

module _ (plain : List Entry → Ask → Outcome → Type 0) where
  -- the entry is of texts, and its call is accepted behind the entries before it
  pub record IsAcceptedBehind (before : List Entry) (entry : Entry) : Type 0 where
    pub texts : AreTexts entry
    pub outcome : Outcome
    pub plainly : plain before (asked_again entry) outcome
    pub accepts : outcome.accepts ≡ true

  -- each of these entries is accepted behind those before it
  abbrev pub AreAccepted : List Entry → Type 0
  AreAccepted entries =
      (before : List Entry) (entry : Entry) (behind : List Entry) → entries ≡ before ++ entry ∷ behind
      → IsAcceptedBehind before entry

  -- the bytes are the journal of this history, with a torn rest behind it
  abbrev pub IsHistory : List ℕ → List Entry → Type 0
  IsHistory bytes entries = (rest : List ℕ) × IsJournalOf bytes entries rest × AreAccepted entries

  -- the bytes begin with the journal of so many accepted entries and of one more, which isn't accepted behind them
  pub record BreaksBehind (bytes : List ℕ) (count : ℕ) : Type 0 where
    pub before : List Entry
    pub entry : Entry
    pub behind : List ℕ
    pub begins : bytes ≡ journal_text (before ++ entry ∷ []) ++ behind
    pub count_is : length before ≡ count
    pub accepted : AreAccepted before
    pub refused : ¬ IsAcceptedBehind before entry

  -- why bytes are no history's journal: with 0, they are no journal; else the entry of this number, counted from 1, is
  -- the first that isn't accepted
  abbrev pub IsBadAt : List ℕ → ℕ → Type 0
  IsBadAt bytes zero = (entries : List Entry) (rest : List ℕ) → ¬ IsJournalOf bytes entries rest
  IsBadAt bytes (suc count) = BreaksBehind bytes count

  -- bytes are the journal of one history at most
  abbrev pub HasOneHistory : Type 0
  HasOneHistory = (bytes : List ℕ) (entries others : List Entry) → IsHistory bytes entries → IsHistory bytes others
      → entries ≡ others

  -- what is a history's journal is bad nowhere
  abbrev pub IsNowhereBad : Type 0
  IsNowhereBad = (bytes : List ℕ) (entries : List Entry) (number : ℕ) → IsHistory bytes entries
      → ¬ IsBadAt bytes number
