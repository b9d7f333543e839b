-- What comes of the put of an accepted call's piece.
use Rattle.std.specs.Prelude.{◌≡◌, ℕ, List, [], ◌∷◌, ◌++◌, length, Option, Bool, true, false, if◌then◌else◌}
use Rattle.std.specs.Option.{option_map}
use Rattle.cell_value.specs.FaultCount.{Rose}
use Rattle.desk.specs.declared.entry.Entry.{Entry}
use Rattle.desk.specs.declared.entry.Ask.{Ask}
use Rattle.desk.specs.declared.entry.Noted.{Noted}
use Rattle.desk.specs.declared.entry.Noted.TheVariants as noted
use Rattle.desk.specs.declared.noting.Noting.{Noting}
use Rattle.desk.specs.declared.noting.Noting.TheVariants as noting
use Rattle.desk.specs.declared.noting.Prepared.{Prepared}
use Rattle.desk.specs.Journal.{heading, entry_text, journal_text}
use Rattle.desk.specs.Histories.{AreTexts}
use Rattle.desk.specs.Keeping.{with_piece, IsTornPut}
use Rattle.desk.specs.Steps.{entry_of, unavailable_body}

-- the piece is kept, and its entry is added
pub record IsKept (entry : Entry) (at : ℕ) (piece : List ℕ) (list list' : List Noted) (kept kept' : Option (List ℕ))
    (failures failures' : ℕ) : Type 0 where
  pub list_is : list' ≡ list ++ noted.Entry entry ∷ []
  pub kept_is : kept' ≡ option_map (with_piece at piece) kept
  pub failures_are : failures' ≡ failures

-- the keeper failed, and a mark is added
pub record IsMarked (entry : Entry) (before after : ℕ) (at : ℕ) (piece : List ℕ) (list list' : List Noted)
    (kept kept' : Option (List ℕ)) (failures failures' : ℕ) : Type 0 where
  pub list_is : list' ≡ list ++ noted.Mark entry before after ∷ []
  pub kept_is : IsTornPut kept kept' at piece
  pub before_is : before ≡ failures
  pub after_is : after ≡ failures'
  pub rose : Rose before after

abbrev pub IsNoted : Entry → ℕ → List ℕ → List Noted → List Noted → Option (List ℕ) → Option (List ℕ) → ℕ → ℕ → Noting
    → Type 0
IsNoted entry at piece list list' kept kept' failures failures' noting.Kept =
    IsKept entry at piece list list' kept kept' failures failures'
IsNoted entry at piece list list' kept kept' failures failures' (noting.Marked before after) =
    IsMarked entry before after at piece list list' kept kept' failures failures'

-- the piece of an entry: the first one begins with the journal's eight bytes
abbrev pub piece_of : Bool → Entry → List ℕ
piece_of first entry = if first then heading ++ entry_text entry else entry_text entry

-- whether the next piece is the first, and where it goes
abbrev pub is_first : List Entry → Bool
is_first [] = true
is_first (entry ∷ entries) = false

abbrev pub journal_end : List Entry → ℕ
journal_end [] = 0
journal_end (entry ∷ entries) = length (journal_text (entry ∷ entries))

-- what a put of an entry behind these leaves, where the keeper fails: what was kept, or what is kept of the entries and
-- a beginning of its piece
abbrev pub IsTornBehind : List Entry → Entry → Option (List ℕ) → Option (List ℕ) → Type 0
IsTornBehind entries entry kept kept' = IsTornPut kept kept' (journal_end entries) (piece_of (is_first entries) entry)

-- what a put needs, made before it; the entry is of texts
pub record IsPrepared (caller : ℕ) (ask : Ask) (first : Bool) (prepared : Prepared) : Type 0 where
  pub entry_is : prepared.entry ≡ entry_of caller ask
  pub texts : AreTexts (entry_of caller ask)
  pub piece_is : prepared.piece ≡ piece_of first (entry_of caller ask)
  pub unavailable_is : prepared.unavailable ≡ unavailable_body
