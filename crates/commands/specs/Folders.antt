-- What a command asks a folder for.
use Rattle.std.specs.Prelude.{◌≡◌, ◌≢◌, ℕ, true, false, List, [], ◌∷◌, ◌++◌, Option, None, Some, IfSome, IsSomeAnd}
use Rattle.folder.specs.Folder.{FolderCall, file_of, journal_of, ShownFolder}

-- the call for the file of users, where the words name one
abbrev pub users_call : Option (List ℕ) → List FolderCall
users_call None = []
users_call (Some name) = file_of name ∷ []

-- the call for the journal, where the words name one; it is made where it is missing
abbrev pub journal_call : Option (List ℕ) → List FolderCall
journal_call None = []
journal_call (Some name) = journal_of name true ∷ []

-- The folder was asked for the file of users and then for the journal, each once and where the words name it, or for
-- the first of these alone, or for nothing. Nothing is lent that wasn't before, and no other name's bytes changed than
-- those of the journal.
pub record HasAsked (users journal : Option (List ℕ)) (before after : ShownFolder) : Type 0 where
  pub calls : List FolderCall
  pub rest : List FolderCall
  pub first : users_call users ++ journal_call journal ≡ calls ++ rest
  pub calls_are : after.calls ≡ before.calls ++ calls
  pub lent_are : after.lent ≡ before.lent
  pub others : (name : List ℕ) → journal ≢ Some name → after.files name ≡ before.files name

-- so it is, where the folder tells
abbrev pub Asks : Option (List ℕ) → Option (List ℕ) → Option ShownFolder → Option ShownFolder → Type 0
Asks users journal before after = IfSome before (λ b. IsSomeAnd after (HasAsked users journal b))

-- The folder was asked for that journal, which isn't made where it is missing, and for nothing else. Nothing is lent
-- that wasn't before, and each name has the bytes that it had.
pub record HasAskedForJournal (journal : List ℕ) (before after : ShownFolder) : Type 0 where
  pub calls_are : after.calls ≡ before.calls ++ journal_of journal false ∷ []
  pub lent_are : after.lent ≡ before.lent
  pub files_are : (name : List ℕ) → after.files name ≡ before.files name

abbrev pub AsksForJournal : List ℕ → Option ShownFolder → Option ShownFolder → Type 0
AsksForJournal journal before after = IfSome before (λ b. IsSomeAnd after (HasAskedForJournal journal b))
