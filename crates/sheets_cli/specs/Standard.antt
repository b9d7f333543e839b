-- The devices of the system, of which contracts see how often they have failed.
use Rattle.std.specs.Prelude.{ℕ}
use Rattle.sheets_cli.specs.declared.standard.Input.{Input}
use Rattle.sheets_cli.specs.declared.standard.Output.{Output}

-- how often the input has failed
abbrev pub input_faults : {R : Type 0} → Input R → ℕ
input_faults input = input.faults

-- how often an output has failed
abbrev pub output_faults : {A B : Type 0} → Output A B → ℕ
output_faults output = output.faults
