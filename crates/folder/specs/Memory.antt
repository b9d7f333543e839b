-- Files in memory in the place of a folder's.
use Rattle.std.specs.Prelude.{ℕ, ◌==◌, Bool, ◌&&◌, not, if◌then◌else◌, List, [], ◌∷◌, ◌++◌, Option, None, Some, IsSome}
use Rattle.std.specs.List.{find, position}
use Rattle.std.specs.Option.{option_map}
use Rattle.std.specs.Str.{bytes_eq}
use Rattle.cell_value.specs.Calls.{one_more}
use Rattle.cell_value.specs.Texts.{is_among}
use Rattle.desk.specs.Keeping.{KeptBytes}
use Rattle.folder.specs.Folder.{FolderCall, file_of, journal_of, ShownFolder}

-- ---- a file

-- the bytes of a file that are left, whether its next read fails, and how often one has failed
pub record FileInMemory : Type 0 where
  pub left : List ℕ
  pub fails : Bool
  pub faults : ℕ

-- no read fails, and none has failed
abbrev pub never_fails : FileInMemory → Bool
never_fails file = not file.fails && file.faults == 0

-- ---- a folder

-- the files by their names, of which the first of a name counts, the names of those that fail, what the folder was
-- asked for, in order, the names of the journals that are handed out and not back, the last one first, and both counts
-- of faults
pub record FilesInMemory : Type 0 where
  pub files : List (List ℕ × List ℕ)
  pub failing : List (List ℕ)
  pub calls : List FolderCall
  pub lent : List (List ℕ)
  pub failures : ℕ
  pub keeper_failures : ℕ

-- the bytes of the first file of that name
abbrev pub bytes_under : List (List ℕ × List ℕ) → List ℕ → Option (List ℕ)
bytes_under files name = option_map (λ file. file.1) (find (λ file. bytes_eq file.0 name) files)

-- there is a file of that name
abbrev pub IsThere : List (List ℕ × List ℕ) → List ℕ → Type 0
IsThere files name = IsSome (bytes_under files name)

-- the place of the first file of that name
abbrev pub place_in : List (List ℕ × List ℕ) → List ℕ → Option ℕ
place_in files name = position (λ file. bytes_eq file.0 name) files

-- a call for a file, or for a journal that is to be made or not
abbrev pub call_of : List ℕ × Option Bool → FolderCall
call_of (name, None) = file_of name
call_of (name, Some make) = journal_of name make

-- what the folder shows
abbrev pub shown_by : FilesInMemory → ShownFolder
shown_by folder = record { files = bytes_under folder.files; calls = folder.calls; lent = folder.lent }

-- the same, and it was asked for one thing more
abbrev pub with_call : FolderCall → FilesInMemory → FilesInMemory
with_call call folder = record folder { calls = folder.calls ++ call ∷ [] }

-- the same, and a call has failed
abbrev pub with_failure : FilesInMemory → FilesInMemory
with_failure folder = record folder { failures = one_more folder.failures }

-- the same, but these are the files
abbrev pub with_files : List (List ℕ × List ℕ) → FilesInMemory → FilesInMemory
with_files files folder = record folder { files = files }

-- the same, and the journal of that name is handed out
abbrev pub with_lent : List ℕ → FilesInMemory → FilesInMemory
with_lent name folder = record folder { lent = name ∷ folder.lent }

-- the file that is handed out under a name with these bytes: its first read fails where the name is among those that do
abbrev pub handed_out : List ℕ → List ℕ → List (List ℕ) → FileInMemory
handed_out name bytes failing = record { left = bytes; fails = is_among name failing; faults = 0 }

-- the outages of the journal of a name: each load fails where the name is among those that do
abbrev pub outages_of : List ℕ → List (List ℕ) → List (ℕ × Option ℕ)
outages_of name failing = if is_among name failing then (0, None) ∷ [] else []

-- the keeper that is handed out under a name with these bytes
abbrev pub lent_out : List ℕ → List ℕ → List (List ℕ) → KeptBytes
lent_out name bytes failing = record {
  bytes = bytes;
  puts = 0;
  failing = outages_of name failing;
  faults = 0;
  shortages = 0;
}
