use Rattle.std.specs.Option.{option_copied}
use Rattle.std.specs.Prelude.{codes}
use Rattle.std.proofs.Common.{◌∙◌}
use Rattle.command_line.specs.Words.{run}
use Rattle.command_line.proofs.Commands.{only}
use Rattle.command_line.proofs.command.run.Goals as goal

pub returns : goal.returns
returns c = λ words has.
    only (run (option_copied c.get_str.result)) words (has.0, has.1, c.get_str.ensures ∙ has.2 (codes "users"))
