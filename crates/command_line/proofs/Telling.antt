-- What `clap` is told of a command.
use Rattle.std.proofs.Common.{◌≡◌, ◌||◌, Bool, false, ap, ap₂, ◌∙◌}
use Rattle.clap.specs.Words.{AddsArg, AddsSubcommand, App, Rule, app_of, rule_of, with_rule, with_subcommand}
use Rattle.clap.specs.declared.builder.arg.Arg.{Arg}
use Rattle.clap.specs.declared.builder.command.Command.{Command}
use Rattle.clap.specs.declared.builder.command.Command.TheViews.{out-Command}

-- the command is that, and none of its arguments is global
abbrev pub IsTold : Command → App → Type 0
IsTold command app = (app_of command ≡ app) × ((out-Command command).has_globals ≡ false)

either_false : (one other : Bool) → one ≡ false → other ≡ false → (one || other) ≡ false
either_false one other is is' = ap₂ (λ (a b : Bool). a || b) is is'

pub told_arg : (old new : Command) (argument : Arg) (app : App) (rule : Rule) → AddsArg old argument new
    → IsTold old app
    → rule_of argument ≡ rule → argument.global ≡ false → IsTold new (with_rule app rule)
told_arg old new argument app rule adds told is local = (
  adds.shape local ∙ ap₂ with_rule told.0 is,
  adds.globals ∙ either_false (out-Command old).has_globals argument.global told.1 local,
)

pub told_subcommand : (old sub new : Command) (app below : App) → AddsSubcommand old sub new → IsTold old app
    → IsTold sub below → IsTold new (with_subcommand app below.top)
told_subcommand old sub new app below adds told told_sub = (
  adds.shape told_sub.1 ∙ ap₂ with_subcommand told.0 (ap (λ (a : App). a.top) told_sub.0),
  adds.globals ∙ either_false (out-Command old).has_globals (out-Command sub).has_globals told.1 told_sub.1,
)
