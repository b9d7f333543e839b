-- The program's commands, and what each of them takes, as `clap` is told of them.
use Rattle.std.specs.Prelude.{List, [], ◌∷◌, Some, true, false, codes}
use Rattle.clap.specs.Simple.{new_shape}
use Rattle.clap.specs.Words.{App, Rule, Shape, Text, new_rule}

-- `--name`, with one value
abbrev pub option : Text → Rule
option name = record (new_rule name) { long = Some name }

-- a command with these arguments
abbrev pub taking : Text → List Rule → Shape
taking name arguments = record (new_shape name) { rules = arguments }

abbrev pub sheets : App
sheets = record {
  top = record (new_shape (codes "sheets")) {
    is_leaf = false;
    no_binary_name = true;
    disable_help_flag = true;
    disable_help_subcommand = true;
  };
  subs = taking (codes "run") (option (codes "users") ∷ [])
      ∷ taking (codes "serve")
      (option (codes "port") ∷ option (codes "limit") ∷ option (codes "users") ∷ option (codes "journal") ∷ [])
      ∷ taking (codes "replay") (option (codes "journal") ∷ [])
      ∷ taking (codes "workload") (new_rule (codes "calls") ∷ []) ∷ [];
}
