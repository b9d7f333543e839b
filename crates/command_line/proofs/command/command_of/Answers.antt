use Rattle.std.proofs.Common.{◌≡◌, ◌∷◌, [], ℕ, Option, subst, List, ap, sym, ◌∙◌, None, Some, map, string_bytes}
use Rattle.std.proofs.lemmas.Bool.{iff_false}
use Rattle.std.specs.Prelude.{codes}
use Rattle.clap.specs.Words.{found_of}
use Rattle.command_line.specs.Words.{Meaning, ReadsAs, meaning, name_of}
use Rattle.command_line.specs.declared.command.Command.{Command}
use Rattle.command_line.proofs.Commands.{IsFound, found_behind, found_none, none_found, some_only}
use Rattle.command_line.proofs.Readings.{all_words, each_word, given_names, has_calls, has_values, none_named, other_named}
use Rattle.command_line.proofs.Readings.{reads_plain, reads_taken, some_named}
use Rattle.command_line.proofs.Options.{parts_are}
use Rattle.command_line.proofs.command.command_of.Goals.{in-run, in-serve, in-replay, in-workload, in_default-name}
use Rattle.command_line.proofs.command.command_of.Goals as goal

of_name : {result found : Option Command} {Reads : Meaning → Type 0} → result ≡ found → IsFound found Reads
    → IsFound result Reads
of_name {result} {found} {Reads} is holds = subst (λ (r : Option Command). IsFound r Reads) (sym is) holds

pub returns-then-not-are_plain-clause-reads : goal.returns-then-not-are_plain-clause-reads
returns-then-not-are_plain-clause-reads c =
    let words = map string_bytes c.args.words.now in
    none_found (λ command. ReadsAs command words)
    (λ command reads. iff_false c.are_plain.ensures c.if-not-are_plain.true
    (each_word c.args.words.now (reads_plain command words reads)))

pub returns-then-not-are_plain-clause-none : goal.returns-then-not-are_plain-clause-none
returns-then-not-are_plain-clause-none c =
    found_none None (map string_bytes c.args.words.now) (returns-then-not-are_plain-clause-reads c)

pub returns-in_default-clause-reads : goal.returns-in_default-clause-reads
returns-in_default-clause-reads c =
    let words = map string_bytes c.args.words.now in
    let refused = rw c.in_default.is at c.in_ok-matches.ensures in
    none_found (λ command. ReadsAs command words) (λ command reads. refused (reads_taken command words reads))

pub returns-in_default-clause-none : goal.returns-in_default-clause-none
returns-in_default-clause-none c =
    found_none None (map string_bytes c.args.words.now) (returns-in_default-clause-reads c)

pub returns-in_default-subcommand-clause-reads : goal.returns-in_default-subcommand-clause-reads
returns-in_default-subcommand-clause-reads c =
    let words = map string_bytes c.args.words.now in
    let taken = rw c.in-Some.is at c.in_ok-matches.ensures in
    let plain = all_words c.args.words.now (c.are_plain.ensures.0 c.if-not-are_plain.false) in
    let names = given_names words c.in-Some.matches c.subcommand.result plain taken c.subcommand.ensures.name
    c.subcommand.ensures.rows in
    let none = rw c.in_default-subcommand.is at names in
    none_found (λ command. ReadsAs command words) (λ command reads. none_named words none command reads)

pub returns-in_default-subcommand-clause-none : goal.returns-in_default-subcommand-clause-none
returns-in_default-subcommand-clause-none c =
    found_none None (map string_bytes c.args.words.now) (returns-in_default-subcommand-clause-reads c)

pub returns-clause-reads : goal.returns-clause-reads
returns-clause-reads c =
    let words = map string_bytes c.args.words.now in
    let taken = rw c.in-Some.is at c.in_ok-matches.ensures in
    let plain = all_words c.args.words.now (c.are_plain.ensures.0 c.if-not-are_plain.false) in
    let names = given_names words c.in-Some.matches c.subcommand.result plain taken c.subcommand.ensures.name
    c.subcommand.ensures.rows in
    let found = found_of c.in-Some-subcommand.given.now in
    let behind = some_named words c.in-Some-subcommand.name.now found (rw c.in-Some-subcommand.is at names) in
    elim c.match-name.branch [
      | in-run w ↦ of_name w.result-is (found_behind (Some w.run.result) words behind.0 (codes "run")
          (behind.1 ∙ ap (λ (t : List ℕ). t ∷ behind.0) w.in-run.is)
          (some_only (meaning w.run.result) (codes "run") behind.0
          (w.run.ensures behind.0 (has_values (codes "users" ∷ []) behind.0 found (behind.2.0 w.in-run.is)))))
      | in-serve w ↦ of_name w.result-is (found_behind w.serve.result words behind.0 (codes "serve")
          (behind.1 ∙ ap (λ (t : List ℕ). t ∷ behind.0) w.in-serve.is)
          (w.serve.ensures behind.0
          (has_values (codes "port" ∷ codes "limit" ∷ codes "users" ∷ codes "journal" ∷ []) behind.0 found
          (behind.2.1 w.in-serve.is))))
      | in-replay w ↦ of_name w.result-is (found_behind w.replay.result words behind.0 (codes "replay")
          (behind.1 ∙ ap (λ (t : List ℕ). t ∷ behind.0) w.in-replay.is)
          (w.replay.ensures behind.0 (has_values (codes "journal" ∷ []) behind.0 found (behind.2.2 w.in-replay.is))))
      | in-workload w ↦ of_name w.result-is (found_behind w.workload.result words behind.0 (codes "workload")
          (behind.1 ∙ ap (λ (t : List ℕ). t ∷ behind.0) w.in-workload.is)
          (w.workload.ensures behind.0 (has_calls behind.0 found (behind.2.3 w.in-workload.is))))
      | in_default-name w ↦ of_name w.result-is (none_found (λ command. ReadsAs command words)
          (λ command reads. other_named c.in-Some-subcommand.name.now w.in_default-name.not-run
          w.in_default-name.not-serve w.in_default-name.not-replay w.in_default-name.not-workload command
          (parts_are c.in-Some-subcommand.name.now (name_of command) behind.0 reads.0 (sym behind.1 ∙ reads.1)).0))
    ]

pub returns-clause-none : goal.returns-clause-none
returns-clause-none c = found_none c.match-name.result (map string_bytes c.args.words.now) (returns-clause-reads c)
