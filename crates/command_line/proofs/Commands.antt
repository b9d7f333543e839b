-- The one command that words are.
use Rattle.std.proofs.Common.{◌≡◌, ◌↔◌, ℕ, ◌<◌, ◌^◌, List, [], ◌∷◌, Option, None, Some, sym, ap, subst}
use Rattle.std.proofs.Common.{◌∙◌, refl, arith}
use Rattle.std.specs.Prelude.{codes, option_map}
use Rattle.std.proofs.lemmas.Fmt.{decimal_injective}
use Rattle.command_line.specs.declared.command.Command.{Command}
use Rattle.command_line.specs.declared.command.TheConstants.{MOST_PORT, MOST_CONNECTIONS, MOST_CALLS}
use Rattle.command_line.specs.Words.{Meaning, run, serve, replay, workload, meaning, name_of, StandBehind, ReadsAs}
use Rattle.command_line.specs.Words.{ReadsAsNone, AreOptionsOf, IsNumber, HasNumber, IsOf}
use Rattle.command_line.specs.Words.{HasOneReading, value_of}
use Rattle.command_line.proofs.Given.{never, same_given}
use Rattle.command_line.proofs.Options.{Pair, parts_are, same_options}

-- a number is written in one way
same_number : (most number number' : ℕ) (text text' : List ℕ) → most < 2 ^ 32 → text ≡ text'
    → IsNumber most text number → IsNumber most text' number' → number ≡ number'
same_number most number number' text text' small same is is' =
    decimal_injective number number' (omega (arith, is.2)) (omega (arith, is'.2)) (sym is.0 ∙ (same ∙ is'.0))

one_number : (name : List ℕ) (most number number' : ℕ) (options : List Pair) → most < 2 ^ 32
    → HasNumber name most number options → HasNumber name most number' options → number ≡ number'
one_number name most number number' options small has has' =
    same_number most number number' has.0 has'.0 small
    (same_given has.0 has'.0 (sym has.1 ∙ has'.1)) has.2 has'.2

alike : (port port' limit limit' : ℕ) (users users' journal journal' : Option (List ℕ)) → port ≡ port' → limit ≡ limit'
    → users ≡ users' → journal ≡ journal' → serve port limit users journal ≡ serve port' limit' users' journal'
alike port port' limit limit' users users' journal journal' p l u j = cc

first_is : (word word' : List ℕ) → word ∷ [] ≡ word' ∷ [] → word ≡ word'
first_is word word' e = cc

-- the options that are given are these
moved : (names names' : List (List ℕ)) (options options' : List Pair) (words : List (List ℕ))
    (P : List Pair → Type 0) → AreOptionsOf names options words → AreOptionsOf names' options' words
    → P options' → P options
moved names names' options options' words P are are' holds =
    subst P (sym (same_options options options' words are.0 are'.0)) holds

-- words behind a name are one command of it at most
one_behind : (words : List (List ℕ)) (one other : Meaning) → name_of one ≡ name_of other → StandBehind words one
    → StandBehind words other → one ≡ other
one_behind words (run users) (run users') same (options, are, give) (options', are', give') =
    ap run (give ∙ sym (moved (codes "users" ∷ []) (codes "users" ∷ []) options options' words
    (λ (os : List Pair). users' ≡ value_of (codes "users") os) are are' give'))
one_behind words (serve port limit users journal) (serve port' limit' users' journal') same
    (options, are, has_port, has_limit, has_users, has_journal)
    (options', are', has_port', has_limit', has_users', has_journal') =
    let names : List (List ℕ) = codes "port" ∷ codes "limit" ∷ codes "users" ∷ codes "journal" ∷ [] in
    let given = moved names names options options' words
    (λ (os : List Pair). HasNumber (codes "port") MOST_PORT port' os
    × HasNumber (codes "limit") MOST_CONNECTIONS limit' os
    × (users' ≡ value_of (codes "users") os) × (journal' ≡ value_of (codes "journal") os)) are are'
    (has_port', has_limit', has_users', has_journal') in
    alike port port' limit limit' users users' journal journal'
    (one_number (codes "port") MOST_PORT port port' options (omega arith) has_port given.0)
    (one_number (codes "limit") MOST_CONNECTIONS limit limit' options (omega arith) has_limit given.1)
    (has_users ∙ sym given.2) (has_journal ∙ sym given.3)
one_behind words (replay journal) (replay journal') same (options, are, give) (options', are', give') =
    ap replay (same_given journal journal' (sym give
    ∙ moved (codes "journal" ∷ []) (codes "journal" ∷ []) options options' words
    (λ (os : List Pair). value_of (codes "journal") os ≡ Some journal') are are' give'))
one_behind words (workload calls) (workload calls') same (text, are, is) (text', are', is') =
    ap workload (same_number MOST_CALLS calls calls' text text' (omega arith)
    (first_is text text' (sym are ∙ are')) is is')
one_behind words one other same stand stand' = absurd cc

pub one_reading : HasOneReading
one_reading words one other (rest, are, stand) (rest', are', stand') =
    let both = parts_are (name_of one) (name_of other) rest rest' (sym are ∙ are') in
    one_behind rest one other both.0 stand
    (subst (λ (ws : List (List ℕ)). StandBehind ws other) (sym both.1) stand')

-- ---- what was found

-- that command was found, and no other
abbrev pub IsFound : Option Command → (Meaning → Type 0) → Type 0
IsFound found Reads = (command : Meaning) → (option_map meaning found ≡ Some command) ↔ Reads command

-- behind the name of the command
pub found_behind : (found : Option Command) (words rest : List (List ℕ)) (name : List ℕ) → words ≡ name ∷ rest
    → IsFound found (λ command. IsOf name command rest) → IsFound found (λ command. ReadsAs command words)
found_behind found words rest name are is command = (
  λ some. let of = (is command).0 some in
      (rest, are ∙ ap (λ (word : List ℕ). word ∷ rest) (sym of.0), of.1),
  λ reads. let both = parts_are name (name_of command) rest reads.0 (sym are ∙ reads.1) in
      (is command).1 (sym both.0, subst (λ (ws : List (List ℕ)). StandBehind ws command) (sym both.1) reads.2),
)

-- nothing was found exactly where the words are no command
pub found_none : (found : Option Command) (words : List (List ℕ)) → IsFound found (λ command. ReadsAs command words)
    → (found ≡ None) ↔ ReadsAsNone words
found_none None words is = (λ none command reads. never command ((is command).1 reads), λ none. refl)
found_none (Some command) words is = (
  λ none. absurd (never command (sym none)),
  λ none. absurd (none (meaning command) ((is (meaning command)).0 refl)),
)

-- what stands behind its name is the one that is found
pub only : (found : Meaning) (words : List (List ℕ)) → StandBehind words found → (command : Meaning)
    → (found ≡ command) ↔ IsOf (name_of found) command words
only found words stand command = (
  λ same. subst (λ (m : Meaning). IsOf (name_of found) m words) same (refl, stand),
  λ of. one_behind words found command (sym of.0) stand of.1,
)

pub some_only : (found : Meaning) (name : List ℕ) (words : List (List ℕ))
    → ((command : Meaning) → (found ≡ command) ↔ IsOf name command words)
    → (command : Meaning) → (Some found ≡ Some command) ↔ IsOf name command words
some_only found name words is command =
    (λ some. (is command).0 (same_given found command some), λ of. ap Some ((is command).1 of))

pub none_found : (Reads : Meaning → Type 0) → ((command : Meaning) → Reads command → ⊥) → IsFound None Reads
none_found Reads none command = (λ some. absurd (never command some), λ reads. absurd (none command reads))

-- ---- what a command can't be without

pub serve_needs : (options : List Pair) (words : List (List ℕ))
    → AreOptionsOf (codes "port" ∷ codes "limit" ∷ codes "users" ∷ codes "journal" ∷ []) options words
    → (command : Meaning) → IsOf (codes "serve") command words
    → (port : ℕ) × (limit : ℕ) × HasNumber (codes "port") MOST_PORT port options
    × HasNumber (codes "limit") MOST_CONNECTIONS limit options
serve_needs options words are (serve port limit users journal)
    (is, (options', are', has_port, has_limit, has_users, has_journal)) =
    let same = sym (same_options options options' words are.0 are'.0) in (
      port,
      limit,
      subst (HasNumber (codes "port") MOST_PORT port) same has_port,
      subst (HasNumber (codes "limit") MOST_CONNECTIONS limit) same has_limit,
    )
serve_needs options words are (run users) (is, stand) = absurd cc
serve_needs options words are (replay journal) (is, stand) = absurd cc
serve_needs options words are (workload calls) (is, stand) = absurd cc

pub replay_needs : (options : List Pair) (words : List (List ℕ)) → AreOptionsOf (codes "journal" ∷ []) options words
    → (command : Meaning) → IsOf (codes "replay") command words
    → (journal : List ℕ) × (value_of (codes "journal") options ≡ Some journal)
replay_needs options words are (replay journal) (is, (options', are', has)) =
    (journal, ap (value_of (codes "journal")) (same_options options options' words are.0 are'.0) ∙ has)
replay_needs options words are (run users) (is, stand) = absurd cc
replay_needs options words are (serve port limit users journal) (is, stand) = absurd cc
replay_needs options words are (workload calls) (is, stand) = absurd cc

pub workload_needs : (words : List (List ℕ)) (command : Meaning) → IsOf (codes "workload") command words
    → (text : List ℕ) × (calls : ℕ) × (words ≡ text ∷ []) × IsNumber MOST_CALLS text calls
workload_needs words (workload calls) (is, (text, are, number)) = (text, calls, are, number)
workload_needs words (run users) (is, stand) = absurd cc
workload_needs words (serve port limit users journal) (is, stand) = absurd cc
workload_needs words (replay journal) (is, stand) = absurd cc

-- a text that is given isn't missing, and a number that is given is read
pub missing : (text : List ℕ) (found given : Option (List ℕ)) → None ≡ found → found ≡ given → given ≡ Some text → ⊥
missing text found given none same is = never text (none ∙ same ∙ is)

pub unread : (most number : ℕ) (given text : List ℕ) (read : Option ℕ) → None ≡ read
    → ((other : ℕ) → (read ≡ Some other) ↔ IsNumber most given other) → Some given ≡ Some text
    → IsNumber most text number → ⊥
unread most number given text read none reads same is =
    never number
    (none ∙ (reads number).1 (subst (λ (t : List ℕ). IsNumber most t number) (sym (same_given given text same)) is))
