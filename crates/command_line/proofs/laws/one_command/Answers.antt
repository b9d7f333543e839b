use Rattle.command_line.proofs.Commands.{one_reading}
use Rattle.command_line.proofs.laws.one_command.Goals as goal

pub returns : goal.returns
returns c = one_reading
