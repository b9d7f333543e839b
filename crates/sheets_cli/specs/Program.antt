-- The commands of the program by their words, and what each asks a folder for.
use Rattle.std.specs.Prelude.{◌≡◌, ◌⊎◌, ℕ, List, Option, None, Some}
use Rattle.command_line.specs.Words.{Meaning, run, serve, replay, workload, ReadsAs}
use Rattle.commands.specs.Folders.{Asks, AsksForJournal}
use Rattle.commands.specs.declared.finish.Finish.{Finish}
use Rattle.commands.specs.declared.finish.Finish.TheVariants.{Served}
use Rattle.conversation.specs.declared.ended.Ended.TheVariants.{NoMemory}
use Rattle.folder.specs.Folder.{ShownFolder}

-- the words are the command `run`, for some users
abbrev pub ReadsAsRun : List (List ℕ) → Type 0
ReadsAsRun words = (users : Option (List ℕ)) × ReadsAs (run users) words

-- the words are the command `serve`
abbrev pub ReadsAsServe : List (List ℕ) → Type 0
ReadsAsServe words = (port limit : ℕ) × (users journal : Option (List ℕ))
    × ReadsAs (serve port limit users journal) words

-- the words are the command `replay`
abbrev pub ReadsAsReplay : List (List ℕ) → Type 0
ReadsAsReplay words = (journal : List ℕ) × ReadsAs (replay journal) words

-- the words are a command that names a journal
abbrev pub NamesJournal : List (List ℕ) → Type 0
NamesJournal words =
    ((port limit : ℕ) × (users : Option (List ℕ)) × (name : List ℕ)
    × ReadsAs (serve port limit users (Some name)) words)
    ⊎ ReadsAsReplay words

-- memory ran out before the words were read: three devices are as they were
abbrev pub RanOut : {A B C : Type 0} → Finish → A → A → B → B → C → C → Type 0
RanOut finish one one' other other' third third' =
    (finish ≡ Served NoMemory) × (one' ≡ one) × (other' ≡ other) × (third' ≡ third)

-- what a command asked of a folder: the file of users, and then the journal, that its words name
abbrev pub IsAskedBy : Meaning → Option ShownFolder → Option ShownFolder → Type 0
IsAskedBy (run users) = Asks users None
IsAskedBy (serve port limit users journal) = Asks users journal
IsAskedBy (replay journal) = AsksForJournal journal
IsAskedBy (workload calls) = λ before after. after ≡ before
