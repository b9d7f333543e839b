use Rattle.std.proofs.Common.{ap, ◌∙◌, true}
use Rattle.std.proofs.lemmas.Result.{IfOk-weaker}
use Rattle.clap.specs.Simple.{app_of_fields, on_top}
use Rattle.command_line.proofs.Telling.{told_arg, told_subcommand}
use Rattle.command_line.proofs.reading.program.Goals as goal

pub returns : goal.returns
returns c =
    let run = told_arg _ _ _ _ _ c.in_ok-run.ensures (c.new.ensures.app, c.new.ensures.local) c.valued.ensures.told
    c.valued.ensures.local in
    let port = told_arg _ _ _ _ _ c.in_ok-arg.ensures (c.new-2.ensures.app, c.new-2.ensures.local)
    c.valued-2.ensures.told c.valued-2.ensures.local in
    let limit = told_arg _ _ _ _ _ c.in_ok-arg-2.ensures port c.valued-3.ensures.told c.valued-3.ensures.local in
    let users = told_arg _ _ _ _ _ c.in_ok-arg-3.ensures limit c.valued-4.ensures.told c.valued-4.ensures.local in
    let serve = told_arg _ _ _ _ _ c.in_ok-serve.ensures users c.valued-5.ensures.told c.valued-5.ensures.local in
    let replay = told_arg _ _ _ _ _ c.in_ok-replay.ensures (c.new-3.ensures.app, c.new-3.ensures.local)
    c.valued-6.ensures.told c.valued-6.ensures.local in
    let workload = told_arg _ _ _ _ _ c.in_ok-workload.ensures (c.new-4.ensures.app, c.new-4.ensures.local)
    c.new-5.ensures.rule c.new-5.ensures.optional.1 in
    let unnamed = ap app_of_fields c.no_binary_name.ensures
    ∙ ap (on_top (λ s. record s { no_binary_name = true })) c.new-6.ensures.app in
    let no_flag = ap app_of_fields c.disable_help_flag.ensures
    ∙ ap (on_top (λ s. record s { disable_help_flag = true })) unnamed in
    let no_help = ap app_of_fields c.disable_help_subcommand.ensures
    ∙ ap (on_top (λ s. record s { disable_help_subcommand = true })) no_flag in
    let local = ap (λ f. f.has_globals) c.disable_help_subcommand.ensures
    ∙ ap (λ f. f.has_globals) c.disable_help_flag.ensures ∙ ap (λ f. f.has_globals) c.no_binary_name.ensures
    ∙ c.new-6.ensures.local in
    let one = told_subcommand _ _ _ _ _ c.in_ok-subcommand.ensures (no_help, local) run in
    let two = told_subcommand _ _ _ _ _ c.in_ok-subcommand-2.ensures one serve in
    let three = told_subcommand _ _ _ _ _ c.in_ok-subcommand-3.ensures two replay in
    IfOk-weaker c.subcommand-4.result _ _
    (λ program adds. (told_subcommand _ _ program _ _ adds three workload).0) c.subcommand-4.ensures
