-- A folder of named files as contracts see it: what it holds, what it was asked for, and what is handed out of it.
use Rattle.std.specs.Prelude.{◌≡◌, ◌⊎◌, ℕ, Bool, true, false, List, [], ◌∷◌, ◌++◌, drop, Option, None, Some}
use Rattle.std.specs.Prelude.{if◌then◌else◌}
use Rattle.std.specs.Option.{option_map}
use Rattle.std.specs.Str.{bytes_eq}

-- what a folder is asked for: the file of that name, or the journal of that name, which is to be made where it is
-- missing, or isn't
pub data FolderCall : Type 0 where
  file_of : (name : List ℕ) → FolderCall
  journal_of : (name : List ℕ) (make : Bool) → FolderCall

-- what a folder shows: the bytes under each name, where there is a file, what it was asked for, in order, and the names
-- of the journals that are handed out and not back, the last one first
pub record ShownFolder : Type 0 where
  pub files : List ℕ → Option (List ℕ)
  pub calls : List FolderCall
  pub lent : List (List ℕ)

-- the same, but that name has these bytes
abbrev pub with_file : List ℕ → Option (List ℕ) → (List ℕ → Option (List ℕ)) → List ℕ → Option (List ℕ)
with_file name bytes files asked = if bytes_eq name asked then bytes else files asked

-- what is found under a name: what it has, and where it is missing and is to be made, no bytes
abbrev pub found_or_made : Bool → Option (List ℕ) → Option (List ℕ)
found_or_made make (Some bytes) = Some bytes
found_or_made true None = Some []
found_or_made false None = None

-- ---- what each call leaves of what is shown

abbrev pub after_open : List ℕ → ShownFolder → ShownFolder
after_open name folder = record folder { calls = folder.calls ++ file_of name ∷ [] }

-- the name has what was found under it, and its journal is handed out
abbrev pub after_journal : List ℕ → Bool → ShownFolder → ShownFolder
after_journal name make folder = record {
  files = with_file name (found_or_made make (folder.files name)) folder.files;
  calls = folder.calls ++ journal_of name make ∷ [];
  lent = name ∷ folder.lent;
}

-- no journal was handed out, and each name has what it had
abbrev pub after_refusal : List ℕ → Bool → ShownFolder → ShownFolder
after_refusal name make folder = record folder { calls = folder.calls ++ journal_of name make ∷ [] }

-- no journal was handed out, and the name has what was found under it
abbrev pub after_late_refusal : List ℕ → Bool → ShownFolder → ShownFolder
after_late_refusal name make folder = record folder {
  files = with_file name (found_or_made make (folder.files name)) folder.files;
  calls = folder.calls ++ journal_of name make ∷ [];
}

-- a journal that wasn't handed out was made or not
abbrev pub IsRefused : List ℕ → Bool → Option ShownFolder → Option ShownFolder → Type 0
IsRefused name make before after =
    (after ≡ option_map (after_refusal name make) before) ⊎ (after ≡ option_map (after_late_refusal name make) before)

-- the name of the journal that was handed out last has these bytes
abbrev pub with_kept : Option (List ℕ) → List (List ℕ) → (List ℕ → Option (List ℕ)) → List ℕ → Option (List ℕ)
with_kept bytes [] files = files
with_kept bytes (name ∷ names) files = with_file name bytes files

-- the journal that was handed out last is back with these bytes
abbrev pub after_kept_back : Option (List ℕ) → ShownFolder → ShownFolder
after_kept_back bytes folder = record folder {
  files = with_kept bytes folder.lent folder.files;
  lent = drop 1 folder.lent;
}
