use Rattle.std.specs.Option.{option_copied}
use Rattle.std.specs.Prelude.{codes}
use Rattle.std.proofs.Common.{ap, sym, ◌∙◌}
use Rattle.command_line.specs.Words.{IsOf, replay}
use Rattle.command_line.proofs.Commands.{missing, none_found, only, replay_needs, some_only}
use Rattle.command_line.proofs.command.replay.Goals as goal

pub returns-in_err-journal : goal.returns-in_err-journal
returns-in_err-journal c = λ words has. rw c.from_residual.ensures
    (none_found (λ command. IsOf (codes "replay") command words) (λ command of.
    let needs = replay_needs has.0 words has.1 command of in
    missing needs.0 _ _ (ap option_copied (sym c.in_err-journal.was) ∙ c.get_str.ensures)
    (has.2 (codes "journal")) needs.1))

pub returns : goal.returns
returns c = λ words has. some_only (replay c.in_ok-journal.journal.now) (codes "replay") words
    (only (replay c.in_ok-journal.journal.now) words (
      has.0,
      has.1,
      sym (has.2 (codes "journal")) ∙ sym c.get_str.ensures ∙ ap option_copied c.in_ok-journal.was,
    ))
