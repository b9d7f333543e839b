-- The words of the program's command line: which of them are a command, and which command.
use Rattle.std.specs.Prelude.{◌≡◌, ◌≢◌, ℕ, ◌≤◌, List, [], ◌∷◌, ◌++◌, ◌⊎◌, Option, None, Some, Contains, ⊤}
use Rattle.std.specs.Prelude.{codes, slice_index, bytes_eq, if◌then◌else◌, MatchOption}
use Rattle.std.specs.Fmt.{decimal}
use Rattle.std.specs.List.{AllByRecursion}
use Rattle.std.specs.Option.{option_copied}
use Rattle.clap.specs.Words.{first_value}
use Rattle.clap.specs.declared.parser.matches.Found.{Found}
use Rattle.command_line.specs.declared.command.Command.{Command}
use Rattle.command_line.specs.declared.command.Command.TheVariants.{Run, Serve, Replay, Workload}
use Rattle.command_line.specs.declared.command.TheConstants.{MOST_PORT, MOST_CONNECTIONS, MOST_CALLS}

-- ---- options

-- no byte of the text is `=`
abbrev pub HasNoEquals : List ℕ → Type 0
HasNoEquals text = AllByRecursion (λ (byte : ℕ). byte ≢ 61) text

-- the text isn't empty and doesn't begin with `-`
abbrev pub IsValue : List ℕ → Type 0
IsValue text = (text ≢ []) × (slice_index text 0 ≢ 45)

-- the words begin with that name and that value, in one word or in two, and the rest stands behind them
abbrev pub HasPair : List ℕ → List ℕ → List (List ℕ) → List (List ℕ) → Type 0
HasPair name value words rest = HasNoEquals name
    × ((words ≡ (codes "--" ++ (name ++ (codes "=" ++ value))) ∷ rest) ⊎ (words ≡ (codes "--" ++ name) ∷ value ∷ rest))

-- the words begin with the option of that name, whose value can be one, and the rest stands behind it
abbrev pub HasOption : List ℕ → List ℕ → List (List ℕ) → List (List ℕ) → Type 0
HasOption name value words rest = HasPair name value words rest × IsValue value

-- the words are these options, each a name and its value, one behind another
abbrev pub AreOptions : List (List ℕ × List ℕ) → List (List ℕ) → Type 0
AreOptions [] words = words ≡ []
AreOptions (option ∷ options) words =
    (rest : List (List ℕ)) × HasOption option.0 option.1 words rest × AreOptions options rest

-- the value of the first option of that name
abbrev pub value_of : List ℕ → List (List ℕ × List ℕ) → Option (List ℕ)
value_of name [] = None
value_of name (option ∷ options) = if bytes_eq option.0 name then Some option.1 else value_of name options

-- no two options have the same name
abbrev pub AreDistinct : List (List ℕ × List ℕ) → Type 0
AreDistinct [] = ⊤
AreDistinct (option ∷ options) =
    AllByRecursion (λ (other : List ℕ × List ℕ). other.0 ≢ option.0) options × AreDistinct options

-- each option's name is among these, and no two have the same name
abbrev pub AreOf : List (List ℕ) → List (List ℕ × List ℕ) → Type 0
AreOf names options =
    AllByRecursion (λ (option : List ℕ × List ℕ). Contains names option.0) options × AreDistinct options

-- the words are these options, which are of those names
abbrev pub AreOptionsOf : List (List ℕ) → List (List ℕ × List ℕ) → List (List ℕ) → Type 0
AreOptionsOf names options words = AreOptions options words × AreOf names options

-- ---- numbers

-- the text is the number in decimal, which is from 1 to the most
abbrev pub IsNumber : ℕ → List ℕ → ℕ → Type 0
IsNumber most text number = (text ≡ decimal number) × (1 ≤ number) × (number ≤ most)

-- the option of that name is given, with that number, which is at most so many
abbrev pub HasNumber : List ℕ → ℕ → ℕ → List (List ℕ × List ℕ) → Type 0
HasNumber name most number options =
    (text : List ℕ) × (value_of name options ≡ Some text) × IsNumber most text number

-- ---- commands

-- what a command says, with each of its texts as bytes
pub data Meaning : Type 0 where
  run : (users : Option (List ℕ)) → Meaning
  serve : (port limit : ℕ) (users journal : Option (List ℕ)) → Meaning
  replay : (journal : List ℕ) → Meaning
  workload : (calls : ℕ) → Meaning

-- the meaning of a command
abbrev pub meaning : Command → Meaning
meaning (Run users) = run (option_copied users)
meaning (Serve port limit users journal) = serve port limit (option_copied users) (option_copied journal)
meaning (Replay journal) = replay journal.now
meaning (Workload calls) = workload calls

-- the word that a command begins with
abbrev pub name_of : Meaning → List ℕ
name_of (run users) = codes "run"
name_of (serve port limit users journal) = codes "serve"
name_of (replay journal) = codes "replay"
name_of (workload calls) = codes "workload"

-- the words behind the name of a command are its own: options that it takes, or the number of calls
abbrev pub StandBehind : List (List ℕ) → Meaning → Type 0
StandBehind words (run users) =
    (options : List (List ℕ × List ℕ)) × AreOptionsOf (codes "users" ∷ []) options words
    × (users ≡ value_of (codes "users") options)
StandBehind words (serve port limit users journal) =
    (options : List (List ℕ × List ℕ))
    × AreOptionsOf (codes "port" ∷ codes "limit" ∷ codes "users" ∷ codes "journal" ∷ []) options words
    × HasNumber (codes "port") MOST_PORT port options
    × HasNumber (codes "limit") MOST_CONNECTIONS limit options
    × (users ≡ value_of (codes "users") options)
    × (journal ≡ value_of (codes "journal") options)
StandBehind words (replay journal) =
    (options : List (List ℕ × List ℕ)) × AreOptionsOf (codes "journal" ∷ []) options words
    × (value_of (codes "journal") options ≡ Some journal)
StandBehind words (workload calls) = (text : List ℕ) × (words ≡ text ∷ []) × IsNumber MOST_CALLS text calls

-- the words are that command: its name, and its own words behind it
abbrev pub ReadsAs : Meaning → List (List ℕ) → Type 0
ReadsAs command words = (rest : List (List ℕ)) × (words ≡ name_of command ∷ rest) × StandBehind rest command

-- the words are no command
abbrev pub ReadsAsNone : List (List ℕ) → Type 0
ReadsAsNone words = (command : Meaning) → ¬ (ReadsAs command words)

-- words are one command at most
abbrev pub HasOneReading : Type 0
HasOneReading = (words : List (List ℕ)) (one other : Meaning) → ReadsAs one words → ReadsAs other words → one ≡ other

-- ---- parts of the reading

-- the text is a name, or a name and a value that `=` parts
abbrev pub IsOption : List ℕ → Type 0
IsOption text = ((text ≢ []) × HasNoEquals text)
    ⊎ ((name : List ℕ) × (value : List ℕ) × HasNoEquals name × (text ≡ name ++ (codes "=" ++ value)) × IsValue value)

-- the word can stand in a command: it is a value, or begins an option
abbrev pub IsPlain : List ℕ → Type 0
IsPlain word = IsValue word ⊎ ((option : List ℕ) × (word ≡ codes "--" ++ option) × IsOption option)

-- the words are options of these names, whose values were found
abbrev pub HasValues : List (List ℕ) → List (List ℕ) → Found → Type 0
HasValues names words found = (options : List (List ℕ × List ℕ)) × AreOptionsOf names options words
    × ((name : List ℕ) → first_value found name ≡ value_of name options)

-- the words are the one for the number of calls that was found, or none
abbrev pub HasCalls : List (List ℕ) → Found → Type 0
HasCalls words found = MatchOption (first_value found (codes "calls")) (words ≡ []) (λ text. words ≡ text ∷ [])

-- the command has that name, and these words stand behind it
abbrev pub IsOf : List ℕ → Meaning → List (List ℕ) → Type 0
IsOf name command words = (name_of command ≡ name) × StandBehind words command

-- the text begins with a digit from 1 to 9
abbrev pub BeginsPositive : List ℕ → Type 0
BeginsPositive text = (49 ≤ slice_index text 0) × (slice_index text 0 ≤ 57)
