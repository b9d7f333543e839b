use Rattle.std.specs.Option.{option_copied}
use Rattle.std.specs.Prelude.{codes}
use Rattle.std.proofs.Common.{ap, sym, ◌∙◌}
use Rattle.command_line.specs.Words.{workload}
use Rattle.command_line.proofs.Commands.{only, some_only}
use Rattle.command_line.proofs.command.workload.Goals as goal

pub returns : goal.returns
returns c = λ words has.
    let found = workload c.in_ok-calls.calls in
    some_only found (codes "workload") words (only found words (
      c.in_ok-get_str.field-0.now,
      rw (sym c.get_str.ensures ∙ ap option_copied c.in_ok-get_str.was) at has,
      (c.read_number.ensures c.in_ok-calls.calls).0 c.in_ok-calls.was,
    ))
