-- The words that `clap` takes are those of a command.
use Rattle.std.proofs.Common.{◌≡◌, ◌≢◌, ℕ, List, [], ◌∷◌, inl, inr, Option, Some, None, map, ap, sym}
use Rattle.std.proofs.Common.{subst, ◌∙◌, refl, Contains, arith, zero, suc, All, String, Global, string_bytes, Bor, Box, option_map, ap₂, MatchOption, box_value}
use Rattle.std.specs.Prelude.{codes, slice_index}
use Rattle.std.specs.List.{AllByRecursion}
use Rattle.clap.specs.Faults.{fault_of}
use Rattle.clap.specs.Simple.{subcommand_of}
use Rattle.clap.specs.Walk.{Row, Text}
use Rattle.clap.specs.Matches.{subcommand_name_of}
use Rattle.clap.specs.Simple.{subcommand_rows, subcommand_rows_of}
use Rattle.clap.specs.Words.{found_of, rows_of}
use Rattle.clap.specs.declared.parser.matches.ArgMatches.{ArgMatches}
use Rattle.clap.specs.declared.parser.matches.ArgMatches.TheViews.{out-ArgMatches, out-SubCommand}
use Rattle.clap.specs.declared.parser.matches.Found.{Found}
use Rattle.clap.specs.declared.parser.matches.SubCommand.{SubCommand}
use Rattle.clap.proofs.WalkLemmas.{first_value-rows}
use Rattle.command_line.specs.Sheets.{sheets}
use Rattle.command_line.specs.Words.{IsNumber, IsPlain, IsValue, Meaning, ReadsAs, HasCalls, HasValues}
use Rattle.command_line.specs.Words.{name_of}
use Rattle.command_line.proofs.Given.{never, same_given}
use Rattle.command_line.specs.Words.{replay, run, serve, workload}
use Rattle.command_line.specs.declared.command.TheConstants.{MOST_CALLS}
use Rattle.command_line.proofs.Calls.{IsCalls, calls_taken}
use Rattle.command_line.proofs.Levels.{read_taken}
use Rattle.command_line.proofs.Numbers.{number_begins}
use Rattle.command_line.proofs.Options.{Pair, options_plain}
use Rattle.command_line.proofs.Tops.{enters_replay, enters_run, enters_serve, enters_workload, fault_is}
use Rattle.command_line.proofs.Naming.{Behind, HasRows, Names, named}

-- ---- the words of a command

has_some : (names : List Text) (name : Text) → AllByRecursion (λ (other : Text). other ≢ []) names → Contains names name
    → name ≢ []
has_some [] name some (k, small, is) = absurd (omega (arith, small))
has_some (first ∷ names) name some (zero, small, is) = λ none. some.0 (is ∙ none)
has_some (first ∷ names) name some (suc k, small, is) = has_some names name some.1 (k, omega (arith, small), is)

all_some : (names : List Text) (options : List Pair) → AllByRecursion (λ (other : Text). other ≢ []) names
    → AllByRecursion (λ (option : Pair). Contains names option.0) options
    → AllByRecursion (λ (option : Pair). option.0 ≢ []) options
all_some names [] some among = tt
all_some names (option ∷ options) some among =
    (has_some names option.0 some among.0, all_some names options some among.1)

some_text : (byte : ℕ) (text : Text) → byte ∷ text ≢ []
some_text byte text e = cc

abbrev users_some : AllByRecursion (λ (other : Text). other ≢ []) (codes "users" ∷ [])
users_some = (some_text _ _, tt)

abbrev serve_some : AllByRecursion (λ (other : Text). other ≢ [])
    (codes "port" ∷ codes "limit" ∷ codes "users" ∷ codes "journal" ∷ [])
serve_some = (some_text _ _, (some_text _ _, (some_text _ _, (some_text _ _, tt))))

abbrev journal_some : AllByRecursion (λ (other : Text). other ≢ []) (codes "journal" ∷ [])
journal_some = (some_text _ _, tt)

number_fits : (text : Text) (number : ℕ) → IsNumber MOST_CALLS text number → IsValue text
number_fits text number is =
    let begins = number_begins MOST_CALLS text number (omega arith) is in (
      λ none. absurd (omega (arith, begins.0, ap (λ (t : Text). slice_index t 0) none)),
      λ dash. absurd (omega (arith, begins.0, dash)),
    )

value_word : (byte : ℕ) (text : Text) → byte ≢ 45 → IsPlain (byte ∷ text)
value_word byte text no_dash = inl (some_text byte text, no_dash)

plain_first : (words rest : List Text) (byte : ℕ) (text : Text) → byte ≢ 45 → words ≡ (byte ∷ text) ∷ rest
    → AllByRecursion IsPlain rest → AllByRecursion IsPlain words
plain_first words rest byte text no_dash are plain =
    subst (AllByRecursion IsPlain) (sym are) (value_word byte text no_dash, plain)

pub reads_plain : (command : Meaning) (words : List Text) → ReadsAs command words → AllByRecursion IsPlain words
reads_plain (run users) words (rest, are, (options, is, has)) =
    plain_first words rest _ _ (λ e. absurd (omega (arith, e))) are
    (options_plain options rest is.0 (all_some (codes "users" ∷ []) options users_some is.1.0))
reads_plain (serve port limit users journal) words
    (rest, are, (options, is, has_port, has_limit, has_users, has_journal)) =
    plain_first words rest _ _ (λ e. absurd (omega (arith, e))) are
    (options_plain options rest is.0
    (all_some (codes "port" ∷ codes "limit" ∷ codes "users" ∷ codes "journal" ∷ []) options serve_some is.1.0))
reads_plain (replay journal) words (rest, are, (options, is, has)) =
    plain_first words rest _ _ (λ e. absurd (omega (arith, e))) are
    (options_plain options rest is.0 (all_some (codes "journal" ∷ []) options journal_some is.1.0))
reads_plain (workload number) words (rest, are, (text, is, has)) =
    plain_first words rest _ _ (λ e. absurd (omega (arith, e))) are
    (subst (AllByRecursion IsPlain) (sym is) (inl (number_fits text number has), tt))

pub reads_taken : (command : Meaning) (words : List Text) → ReadsAs command words → fault_of sheets words ≡ []
reads_taken (run users) words (rest, are, (options, is, has)) =
    ap (fault_of sheets) are ∙ fault_is (codes "run") enters_run rest
    ∙ read_taken (codes "run") (codes "users" ∷ []) options rest is
    (all_some (codes "users" ∷ []) options users_some is.1.0)
reads_taken (serve port limit users journal) words
    (rest, are, (options, is, has_port, has_limit, has_users, has_journal)) =
    let names : List Text = codes "port" ∷ codes "limit" ∷ codes "users" ∷ codes "journal" ∷ [] in
    ap (fault_of sheets) are ∙ fault_is (codes "serve") enters_serve rest
    ∙ read_taken (codes "serve") names options rest is (all_some names options serve_some is.1.0)
reads_taken (replay journal) words (rest, are, (options, is, has)) =
    ap (fault_of sheets) are ∙ fault_is (codes "replay") enters_replay rest
    ∙ read_taken (codes "replay") (codes "journal" ∷ []) options rest is
    (all_some (codes "journal" ∷ []) options journal_some is.1.0)
reads_taken (workload number) words (rest, are, (text, is, has)) =
    ap (fault_of sheets) (are ∙ ap (λ (ws : List Text). codes "workload" ∷ ws) is)
    ∙ fault_is (codes "workload") enters_workload (text ∷ []) ∙ calls_taken text (number_fits text number has)

-- ---- by what `clap` gives

pub all_words : (words : List (String Global)) → All (λ word. IsPlain (string_bytes word)) words
    → AllByRecursion IsPlain (map string_bytes words)
all_words [] all = tt
all_words (word ∷ words) all =
    (all 0 word (omega arith), all_words words (λ k d small. all (suc k) d (omega (arith, small))))

pub each_word : (words : List (String Global)) → AllByRecursion IsPlain (map string_bytes words)
    → All (λ word. IsPlain (string_bytes word)) words
each_word [] all k d small = absurd (omega (arith, small))
each_word (word ∷ words) all zero d small = all.0
each_word (word ∷ words) all (suc k) d small = each_word words all.1 k d (omega (arith, small))

-- the subcommand that was met, with its name and its rows
given_rows : {Z : Type 0} (met : Option (Box SubCommand Z)) (given : Option (Bor Text × Bor ArgMatches))
    → option_map (λ p. p.0.now) given ≡ option_map (λ b. (out-SubCommand (box_value b)).name.now) met
    → option_map (λ p. rows_of (found_of p.1.now)) given ≡ option_map (λ p. p.1) (subcommand_rows met)
    → option_map (λ p. (p.0.now, rows_of (found_of p.1.now))) given ≡ subcommand_rows met
given_rows None None names rows = refl
given_rows None (Some given) names rows = absurd (never given.0.now (sym names))
given_rows (Some met) None names rows = absurd (never (out-SubCommand (box_value met)).name.now names)
given_rows (Some met) (Some given) names rows =
    let name_is = same_given _ _ names in
    let rows_are = same_given _ _ rows in
    ap₂ (λ (name : Text) (found : List Row). Some (name, found)) name_is rows_are

pub given_names : (words : List Text) (matches : ArgMatches) (given : Option (Bor Text × Bor ArgMatches))
    → AllByRecursion IsPlain words
    → (fault_of sheets words ≡ []) × (subcommand_rows_of matches ≡ subcommand_of sheets words)
    → option_map (λ p. p.0.now) given ≡ subcommand_name_of matches
    → option_map (λ p. rows_of (found_of p.1.now)) given ≡ option_map (λ p. p.1) (subcommand_rows_of matches)
    → Names words (option_map (λ p. (p.0.now, rows_of (found_of p.1.now))) given)
given_names words matches given plain found names rows =
    subst (Names words) (sym found.1 ∙ sym (given_rows (out-ArgMatches matches).subcommand given names rows))
    (named words plain found.0)

-- no words are no command
pub none_named : (words : List Text) → Names words None → (command : Meaning) → ReadsAs command words → ⊥
none_named words (inl (none, is)) command (rest, are, stand) = absurd (empty (sym none ∙ are))
  where
    empty : [] ≡ name_of command ∷ rest → ⊥
    empty e = cc
none_named words (inr (name, rest, rows, are, is, behind)) command reads = absurd (never (name, rows) is)

-- the words behind the name, which are what its command takes
pub some_named : (words : List Text) (name : Text) (found : Found) → Names words (Some (name, rows_of found))
    → (rest : List Text) × (words ≡ name ∷ rest) × Behind name rest (rows_of found)
some_named words name found (inl (none, is)) = absurd (never (name, rows_of found) (sym is))
some_named words name found (inr (name', rest, rows, are, is, behind)) =
    let same = same_given (name, rows_of found) (name', rows) is in (
      rest,
      are ∙ ap (λ (t : Text). t ∷ rest) (sym (ap (λ (p : Text × List Row). p.0) same)),
      subst (λ (p : Text × List Row). Behind p.0 rest p.1) (sym same) behind,
    )

-- a name that is no command's
pub other_named : (name : Text) → name ≢ codes "run" → name ≢ codes "serve" → name ≢ codes "replay"
    → name ≢ codes "workload"
    → (command : Meaning) → name ≢ name_of command
other_named name not_run not_serve not_replay not_workload (run users) = not_run
other_named name not_run not_serve not_replay not_workload (serve port limit users journal) = not_serve
other_named name not_run not_serve not_replay not_workload (replay journal) = not_replay
other_named name not_run not_serve not_replay not_workload (workload number) = not_workload

pub has_values : (names words : List Text) (found : Found) → HasRows names words (rows_of found)
    → HasValues names words found
has_values names words found has = (has.0, has.1, λ id. first_value-rows found id ∙ has.2 id)

pub has_calls : (words : List Text) (found : Found) → IsCalls words (rows_of found) → HasCalls words found
has_calls words found has =
    subst (λ (o : Option Text). MatchOption o (words ≡ []) (λ text. words ≡ text ∷ []))
    (sym (first_value-rows found (codes "calls"))) has
