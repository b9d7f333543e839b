-- The one command that words are.
use Rattle.std.proofs.Common.{◌≡◌, ◌↔◌, ℕ, List, Option, None, Some, IsSome, Bor, inl, sym, ap, ◌∙◌}
use Rattle.std.specs.Option.{option_map, option_copied}
use Rattle.command_line.specs.declared.command.Command.{Command}
use Rattle.command_line.specs.Words.{Meaning, run, serve, replay, workload, meaning, ReadsAs, ReadsAsNone}
use Rattle.sheets_cli.specs.Program.{ReadsAsRun, ReadsAsServe, ReadsAsReplay, NamesJournal}

given : (a b : Meaning) → Some a ≡ Some b → a ≡ b
given a b e = cc

-- the words read said the command that was found, and said no other
abbrev pub IsFound : Option Command → List (List ℕ) → Type 0
IsFound found words = (command : Meaning) → (option_map meaning found ≡ Some command) ↔ ReadsAs command words

module _ (found : Option Command) (words : List (List ℕ)) (is : IsFound found words) (command : Command)
    (some : found ≡ Some command) where
  -- the words read said it
  pub reads : ReadsAs (meaning command) words
  reads = (is (meaning command)).0 (ap (option_map meaning) some)

  -- and said nothing else
  pub only : (other : Meaning) → ReadsAs other words → meaning command ≡ other
  only other said = given (meaning command) other (sym (ap (option_map meaning) some) ∙ (is other).1 said)

  -- so they are some command
  pub some_command : ReadsAsNone words → ⊥
  some_command none = none (meaning command) reads

-- ---- commands differ

pub run_serve : (users users' journal : Option (List ℕ)) (port limit : ℕ) → run users ≡ serve port limit users' journal
    → ⊥
run_serve users users' journal port limit e = cc

pub run_replay : (users : Option (List ℕ)) (journal : List ℕ) → run users ≡ replay journal → ⊥
run_replay users journal e = cc

pub run_workload : (users : Option (List ℕ)) (calls : ℕ) → run users ≡ workload calls → ⊥
run_workload users calls e = cc

pub serve_replay : (port limit : ℕ) (users journal : Option (List ℕ)) (name : List ℕ)
    → serve port limit users journal ≡ replay name → ⊥
serve_replay port limit users journal name e = cc

pub serve_workload : (port limit : ℕ) (users journal : Option (List ℕ)) (calls : ℕ)
    → serve port limit users journal ≡ workload calls → ⊥
serve_workload port limit users journal calls e = cc

pub replay_workload : (name : List ℕ) (calls : ℕ) → replay name ≡ workload calls → ⊥
replay_workload name calls e = cc

-- ---- and so do those of one kind

pub same_users : (users users' : Option (List ℕ)) → run users ≡ run users' → users ≡ users'
same_users users users' e = cc

pub same_port : (port limit port' limit' : ℕ) (users journal users' journal' : Option (List ℕ))
    → serve port limit users journal ≡ serve port' limit' users' journal' → port ≡ port'
same_port port limit port' limit' users journal users' journal' e = cc

pub same_limit : (port limit port' limit' : ℕ) (users journal users' journal' : Option (List ℕ))
    → serve port limit users journal ≡ serve port' limit' users' journal' → limit ≡ limit'
same_limit port limit port' limit' users journal users' journal' e = cc

pub same_served : (port limit port' limit' : ℕ) (users journal users' journal' : Option (List ℕ))
    → serve port limit users journal ≡ serve port' limit' users' journal' → users ≡ users'
same_served port limit port' limit' users journal users' journal' e = cc

pub same_journal : (port limit port' limit' : ℕ) (users journal users' journal' : Option (List ℕ))
    → serve port limit users journal ≡ serve port' limit' users' journal' → journal ≡ journal'
same_journal port limit port' limit' users journal users' journal' e = cc

pub same_name : (name name' : List ℕ) → replay name ≡ replay name' → name ≡ name'
same_name name name' e = cc

pub same_calls : (calls calls' : ℕ) → workload calls ≡ workload calls' → calls ≡ calls'
same_calls calls calls' e = cc

-- ---- what words are not

module _ (words : List (List ℕ)) (command : Meaning)
    (only_is : (other : Meaning) → ReadsAs other words → command ≡ other) where
  pub run_no_serve : (users : Option (List ℕ)) → command ≡ run users → ReadsAsServe words → ⊥
  run_no_serve users is (port, limit, others, journal, said) =
      run_serve users others journal port limit (sym is ∙ only_is (serve port limit others journal) said)

  pub run_no_replay : (users : Option (List ℕ)) → command ≡ run users → ReadsAsReplay words → ⊥
  run_no_replay users is (name, said) = run_replay users name (sym is ∙ only_is (replay name) said)

  pub serve_no_run : (port limit : ℕ) (users journal : Option (List ℕ)) → command ≡ serve port limit users journal
      → ReadsAsRun words → ⊥
  serve_no_run port limit users journal is (others, said) =
      run_serve others users journal port limit (sym (only_is (run others) said) ∙ is)

  pub serve_no_replay : (port limit : ℕ) (users journal : Option (List ℕ)) → command ≡ serve port limit users journal
      → ReadsAsReplay words → ⊥
  serve_no_replay port limit users journal is (name, said) =
      serve_replay port limit users journal name (sym is ∙ only_is (replay name) said)

  pub replay_no_run : (name : List ℕ) → command ≡ replay name → ReadsAsRun words → ⊥
  replay_no_run name is (users, said) = run_replay users name (sym (only_is (run users) said) ∙ is)

  pub workload_no_run : (calls : ℕ) → command ≡ workload calls → ReadsAsRun words → ⊥
  workload_no_run calls is (users, said) = run_workload users calls (sym (only_is (run users) said) ∙ is)

-- a server that has a journal names it
pub names_journal : (words : List (List ℕ)) (port limit : ℕ) (users : Option (List ℕ))
    (journal : Option (Bor (List ℕ))) → IsSome journal → ReadsAs (serve port limit users (option_copied journal)) words
    → NamesJournal words
names_journal words port limit users None some said = cc
names_journal words port limit users (Some name) some said = inl (port, limit, users, name.now, said)
