use Rattle.std.proofs.Common.{Some, inl, inr, refl, sym, ap, subst, ◌∙◌}
use Rattle.std.specs.Option.{option_copied}
use Rattle.command_line.specs.declared.command.Command.{Command}
use Rattle.command_line.specs.declared.command.Command.TheVariants.{Run, Serve, Replay, Workload}
use Rattle.command_line.specs.Words.{Meaning, run, serve, replay, workload}
use Rattle.sheets_cli.specs.Program.{IsAskedBy}
use Rattle.sheets_cli.proofs.Commands.{reads, only, run_serve, run_replay, run_workload, serve_replay, serve_workload}
use Rattle.sheets_cli.proofs.Commands.{replay_workload, same_users, same_port, same_limit, same_served, same_journal}
use Rattle.sheets_cli.proofs.Commands.{same_name, same_calls, run_no_serve, run_no_replay, serve_no_run}
use Rattle.sheets_cli.proofs.Commands.{serve_no_replay, replay_no_run, workload_no_run, names_journal}
use Rattle.commands.specs.Replaying.{no_journal}
use Rattle.commands.specs.Working.{untold}
use Rattle.commands.specs.declared.finish.Finish.TheVariants.{Served}
use Rattle.conversation.specs.declared.ended.Ended.TheVariants.{NoMemory}
use Rattle.desk.specs.declared.keeper.LoadFault.TheVariants as load
use Rattle.sheets_cli.proofs.program.sheets_main.Goals as goal

-- ---- memory ran out before the words were read

pub returns-in_default-clause-run : goal.returns-in_default-clause-run
returns-in_default-clause-run g c =
    λ users said. (Served NoMemory, refl, inr (refl, refl, refl, refl), c.say.ensures.says)

pub returns-in_default-clause-serve : goal.returns-in_default-clause-serve
returns-in_default-clause-serve g c = λ port limit users journal said.
    (Served NoMemory, refl, inr (refl, refl, refl, refl), c.say.ensures.says)

pub returns-in_default-clause-replay : goal.returns-in_default-clause-replay
returns-in_default-clause-replay g c =
    λ journal said. (Served NoMemory, refl, no_journal load.NoMemory refl refl, c.say.ensures.says)

pub returns-in_default-clause-workload : goal.returns-in_default-clause-workload
returns-in_default-clause-workload g c = λ calls said. (NoMemory, refl, untold refl refl, c.say.ensures.says)

-- ---- no command

pub returns-in_default-found-clause-usage : goal.returns-in_default-found-clause-usage
returns-in_default-found-clause-usage g c = λ two. c.in-Ok.ensures.none.0 c.in_default-found.is

pub returns-in_default-found-clause-asked : goal.returns-in_default-found-clause-asked
returns-in_default-found-clause-asked g c =
    λ command said. absurd (c.in-Ok.ensures.none.0 c.in_default-found.is command said)

pub returns-in_default-found-clause-run : goal.returns-in_default-found-clause-run
returns-in_default-found-clause-run g c =
    λ users said. absurd (c.in-Ok.ensures.none.0 c.in_default-found.is (run users) said)

pub returns-in_default-found-clause-exactly : goal.returns-in_default-found-clause-exactly
returns-in_default-found-clause-exactly g c =
    λ said. absurd (c.in-Ok.ensures.none.0 c.in_default-found.is (run said.0) said.1)

pub returns-in_default-found-clause-serve : goal.returns-in_default-found-clause-serve
returns-in_default-found-clause-serve g c = λ port limit users journal said.
    absurd (c.in-Ok.ensures.none.0 c.in_default-found.is (serve port limit users journal) said)

pub returns-in_default-found-clause-replay : goal.returns-in_default-found-clause-replay
returns-in_default-found-clause-replay g c =
    λ name said. absurd (c.in-Ok.ensures.none.0 c.in_default-found.is (replay name) said)

pub returns-in_default-found-clause-workload : goal.returns-in_default-found-clause-workload
returns-in_default-found-clause-workload g c =
    λ calls said. absurd (c.in-Ok.ensures.none.0 c.in_default-found.is (workload calls) said)

-- ---- `run`

pub returns-in-Run-clause-untouched : goal.returns-in-Run-clause-untouched
returns-in-Run-clause-untouched g c = λ other.
    absurd (other (
      option_copied c.in-Run.users,
      reads _ _ c.in-Ok.ensures.reads (Run c.in-Run.users) (c.in-Some.is ∙ ap (λ (k : Command). Some k) c.in-Run.is),
    ))

pub returns-in-Run-clause-asked : goal.returns-in-Run-clause-asked
returns-in-Run-clause-asked g c = λ command said. inl
    (subst (λ (m : Meaning). IsAskedBy m (g.F.Folder.shown c.args.folder.now) (g.F.Folder.shown c.run.new.folder))
    (only _ _ c.in-Ok.ensures.reads (Run c.in-Run.users) (c.in-Some.is ∙ ap (λ (k : Command). Some k) c.in-Run.is)
    command said) c.run.ensures.asked)

pub returns-in-Run-clause-run : goal.returns-in-Run-clause-run
returns-in-Run-clause-run g c = λ users said.
    let same =
    same_users (option_copied c.in-Run.users) users
    (only _ _ c.in-Ok.ensures.reads (Run c.in-Run.users) (c.in-Some.is ∙ ap (λ (k : Command). Some k) c.in-Run.is)
    (run users) said) in
    let done = rw same at c.run.ensures.run in (done.0, done.1, inl done.2, done.3)

pub returns-in-Run-clause-serve : goal.returns-in-Run-clause-serve
returns-in-Run-clause-serve g c = λ port limit users journal said.
    absurd (run_serve _ _ _ _ _
    (only _ _ c.in-Ok.ensures.reads (Run c.in-Run.users) (c.in-Some.is ∙ ap (λ (k : Command). Some k) c.in-Run.is)
    (serve port limit users journal) said))

pub returns-in-Run-clause-replay : goal.returns-in-Run-clause-replay
returns-in-Run-clause-replay g c =
    λ name said.
    absurd (run_replay _ _
    (only _ _ c.in-Ok.ensures.reads (Run c.in-Run.users) (c.in-Some.is ∙ ap (λ (k : Command). Some k) c.in-Run.is)
    (replay name) said))

pub returns-in-Run-clause-workload : goal.returns-in-Run-clause-workload
returns-in-Run-clause-workload g c =
    λ calls said.
    absurd (run_workload _ _
    (only _ _ c.in-Ok.ensures.reads (Run c.in-Run.users) (c.in-Some.is ∙ ap (λ (k : Command). Some k) c.in-Run.is)
    (workload calls) said))

pub returns-in-Run-clause-doors_failed : goal.returns-in-Run-clause-doors_failed
returns-in-Run-clause-doors_failed g c =
    λ said. absurd (run_no_serve _ _
    (only _ _ c.in-Ok.ensures.reads (Run c.in-Run.users) (c.in-Some.is ∙ ap (λ (k : Command). Some k) c.in-Run.is))
    (option_copied c.in-Run.users) refl said)

pub returns-in-Run-clause-unread : goal.returns-in-Run-clause-unread
returns-in-Run-clause-unread g c =
    λ said. absurd (run_no_replay _ _
    (only _ _ c.in-Ok.ensures.reads (Run c.in-Run.users) (c.in-Some.is ∙ ap (λ (k : Command). Some k) c.in-Run.is))
    (option_copied c.in-Run.users) refl said)

pub returns-in-Run-clause-cut : goal.returns-in-Run-clause-cut
returns-in-Run-clause-cut g c =
    λ is. (
      (
        option_copied c.in-Run.users,
        reads _ _ c.in-Ok.ensures.reads (Run c.in-Run.users)
            (c.in-Some.is ∙ ap (λ (k : Command). Some k) c.in-Run.is),
      ),
      c.run.ensures.cut is,
    )

pub returns-in-Run-clause-long : goal.returns-in-Run-clause-long
returns-in-Run-clause-long g c =
    λ is. (
      (
        option_copied c.in-Run.users,
        reads _ _ c.in-Ok.ensures.reads (Run c.in-Run.users)
            (c.in-Some.is ∙ ap (λ (k : Command). Some k) c.in-Run.is),
      ),
      c.run.ensures.long is,
    )

pub returns-in-Run-clause-steady_doors : goal.returns-in-Run-clause-steady_doors
returns-in-Run-clause-steady_doors g c =
    λ said. absurd (run_no_serve _ _
    (only _ _ c.in-Ok.ensures.reads (Run c.in-Run.users) (c.in-Some.is ∙ ap (λ (k : Command). Some k) c.in-Run.is))
    (option_copied c.in-Run.users) refl said)

pub returns-in-Run-clause-steady_replay : goal.returns-in-Run-clause-steady_replay
returns-in-Run-clause-steady_replay g c =
    λ said. absurd (run_no_replay _ _
    (only _ _ c.in-Ok.ensures.reads (Run c.in-Run.users) (c.in-Some.is ∙ ap (λ (k : Command). Some k) c.in-Run.is))
    (option_copied c.in-Run.users) refl said)

-- ---- `serve`

pub returns-in-Serve-clause-unasked : goal.returns-in-Serve-clause-unasked
returns-in-Serve-clause-unasked g c = λ other.
    absurd (other (
      c.in-Serve.port,
      c.in-Serve.limit,
      option_copied c.in-Serve.users,
      option_copied c.in-Serve.journal,
      reads _ _ c.in-Ok.ensures.reads (Serve c.in-Serve.port c.in-Serve.limit c.in-Serve.users c.in-Serve.journal)
          (c.in-Some.is ∙ ap (λ (k : Command). Some k) c.in-Serve.is),
    ))

pub returns-in-Serve-clause-asked : goal.returns-in-Serve-clause-asked
returns-in-Serve-clause-asked g c = λ command said. inl
    (subst (λ (m : Meaning). IsAskedBy m (g.F.Folder.shown c.args.folder.now) (g.F.Folder.shown c.serve.new.folder))
    (only _ _ c.in-Ok.ensures.reads (Serve c.in-Serve.port c.in-Serve.limit c.in-Serve.users c.in-Serve.journal)
    (c.in-Some.is ∙ ap (λ (k : Command). Some k) c.in-Serve.is) command said) c.serve.ensures.asked)

pub returns-in-Serve-clause-run : goal.returns-in-Serve-clause-run
returns-in-Serve-clause-run g c = λ users said.
    absurd (run_serve users _ _ _ _
    (sym (only _ _ c.in-Ok.ensures.reads
    (Serve c.in-Serve.port c.in-Serve.limit c.in-Serve.users c.in-Serve.journal)
    (c.in-Some.is ∙ ap (λ (k : Command). Some k) c.in-Serve.is) (run users) said)))

pub returns-in-Serve-clause-exactly : goal.returns-in-Serve-clause-exactly
returns-in-Serve-clause-exactly g c =
    λ said. absurd (serve_no_run _ _
    (only _ _ c.in-Ok.ensures.reads (Serve c.in-Serve.port c.in-Serve.limit c.in-Serve.users c.in-Serve.journal)
    (c.in-Some.is ∙ ap (λ (k : Command). Some k) c.in-Serve.is)) c.in-Serve.port c.in-Serve.limit
    (option_copied c.in-Serve.users) (option_copied c.in-Serve.journal) refl said)

-- the port, the number of connections and the files are those of the words
pub returns-in-Serve-clause-serve : goal.returns-in-Serve-clause-serve
returns-in-Serve-clause-serve g c = λ port limit users journal said.
    let same =
    only _ _ c.in-Ok.ensures.reads (Serve c.in-Serve.port c.in-Serve.limit c.in-Serve.users c.in-Serve.journal)
    (c.in-Some.is ∙ ap (λ (k : Command). Some k) c.in-Serve.is) (serve port limit users journal) said in
    let ports = same_port _ _ _ _ _ _ _ _ same in let limits = same_limit _ _ _ _ _ _ _ _ same in
    let tables = same_served _ _ _ _ _ _ _ _ same in let journals = same_journal _ _ _ _ _ _ _ _ same in
    let done = rw (ports, limits, tables, journals) at c.serve.ensures.serve in (done.0, done.1, inl done.2, done.3)

pub returns-in-Serve-clause-replay : goal.returns-in-Serve-clause-replay
returns-in-Serve-clause-replay g c =
    λ name said.
    absurd (serve_replay _ _ _ _ _
    (only _ _ c.in-Ok.ensures.reads (Serve c.in-Serve.port c.in-Serve.limit c.in-Serve.users c.in-Serve.journal)
    (c.in-Some.is ∙ ap (λ (k : Command). Some k) c.in-Serve.is) (replay name) said))

pub returns-in-Serve-clause-workload : goal.returns-in-Serve-clause-workload
returns-in-Serve-clause-workload g c =
    λ calls said.
    absurd (serve_workload _ _ _ _ _
    (only _ _ c.in-Ok.ensures.reads (Serve c.in-Serve.port c.in-Serve.limit c.in-Serve.users c.in-Serve.journal)
    (c.in-Some.is ∙ ap (λ (k : Command). Some k) c.in-Serve.is) (workload calls) said))

pub returns-in-Serve-clause-read : goal.returns-in-Serve-clause-read
returns-in-Serve-clause-read g c =
    λ said. absurd (serve_no_run _ _
    (only _ _ c.in-Ok.ensures.reads (Serve c.in-Serve.port c.in-Serve.limit c.in-Serve.users c.in-Serve.journal)
    (c.in-Some.is ∙ ap (λ (k : Command). Some k) c.in-Serve.is)) c.in-Serve.port c.in-Serve.limit
    (option_copied c.in-Serve.users) (option_copied c.in-Serve.journal) refl said)

pub returns-in-Serve-clause-unread : goal.returns-in-Serve-clause-unread
returns-in-Serve-clause-unread g c =
    λ said. absurd (serve_no_replay _ _
    (only _ _ c.in-Ok.ensures.reads (Serve c.in-Serve.port c.in-Serve.limit c.in-Serve.users c.in-Serve.journal)
    (c.in-Some.is ∙ ap (λ (k : Command). Some k) c.in-Serve.is)) c.in-Serve.port c.in-Serve.limit
    (option_copied c.in-Serve.users) (option_copied c.in-Serve.journal) refl said)

pub returns-in-Serve-clause-unopened : goal.returns-in-Serve-clause-unopened
returns-in-Serve-clause-unopened g c = λ is. (
  names_journal _ c.in-Serve.port c.in-Serve.limit (option_copied c.in-Serve.users)
      c.in-Serve.journal (c.serve.ensures.unopened is).0
      (reads _ _ c.in-Ok.ensures.reads (Serve c.in-Serve.port c.in-Serve.limit c.in-Serve.users c.in-Serve.journal)
      (c.in-Some.is ∙ ap (λ (k : Command). Some k) c.in-Serve.is)),
  (c.serve.ensures.unopened is).1,
)

pub returns-in-Serve-clause-steady_read : goal.returns-in-Serve-clause-steady_read
returns-in-Serve-clause-steady_read g c =
    λ said. absurd (serve_no_run _ _
    (only _ _ c.in-Ok.ensures.reads (Serve c.in-Serve.port c.in-Serve.limit c.in-Serve.users c.in-Serve.journal)
    (c.in-Some.is ∙ ap (λ (k : Command). Some k) c.in-Serve.is)) c.in-Serve.port c.in-Serve.limit
    (option_copied c.in-Serve.users) (option_copied c.in-Serve.journal) refl said)

pub returns-in-Serve-clause-steady_replay : goal.returns-in-Serve-clause-steady_replay
returns-in-Serve-clause-steady_replay g c =
    λ said. absurd (serve_no_replay _ _
    (only _ _ c.in-Ok.ensures.reads (Serve c.in-Serve.port c.in-Serve.limit c.in-Serve.users c.in-Serve.journal)
    (c.in-Some.is ∙ ap (λ (k : Command). Some k) c.in-Serve.is)) c.in-Serve.port c.in-Serve.limit
    (option_copied c.in-Serve.users) (option_copied c.in-Serve.journal) refl said)

-- ---- `replay`

pub returns-in-Replay-clause-asked : goal.returns-in-Replay-clause-asked
returns-in-Replay-clause-asked g c = λ command said. inl
    (subst (λ (m : Meaning). IsAskedBy m (g.F.Folder.shown c.args.folder.now) (g.F.Folder.shown c.replay.new.folder))
    (only _ _ c.in-Ok.ensures.reads (Replay c.in-Replay.journal)
    (c.in-Some.is ∙ ap (λ (k : Command). Some k) c.in-Replay.is) command said) c.replay.ensures.asked)

pub returns-in-Replay-clause-run : goal.returns-in-Replay-clause-run
returns-in-Replay-clause-run g c =
    λ users said.
    absurd (run_replay users _
    (sym (only _ _ c.in-Ok.ensures.reads (Replay c.in-Replay.journal)
    (c.in-Some.is ∙ ap (λ (k : Command). Some k) c.in-Replay.is) (run users) said)))

pub returns-in-Replay-clause-exactly : goal.returns-in-Replay-clause-exactly
returns-in-Replay-clause-exactly g c =
    λ said. absurd (replay_no_run _ _
    (only _ _ c.in-Ok.ensures.reads (Replay c.in-Replay.journal)
    (c.in-Some.is ∙ ap (λ (k : Command). Some k) c.in-Replay.is)) c.in-Replay.journal.now refl said)

pub returns-in-Replay-clause-serve : goal.returns-in-Replay-clause-serve
returns-in-Replay-clause-serve g c = λ port limit users journal said.
    absurd (serve_replay _ _ _ _ _
    (sym (only _ _ c.in-Ok.ensures.reads (Replay c.in-Replay.journal)
    (c.in-Some.is ∙ ap (λ (k : Command). Some k) c.in-Replay.is) (serve port limit users journal) said)))

pub returns-in-Replay-clause-replay : goal.returns-in-Replay-clause-replay
returns-in-Replay-clause-replay g c = λ name said.
    let same =
    same_name c.in-Replay.journal.now name
    (only _ _ c.in-Ok.ensures.reads (Replay c.in-Replay.journal)
    (c.in-Some.is ∙ ap (λ (k : Command). Some k) c.in-Replay.is) (replay name) said) in
    rw (sym same) c.replay.ensures.replay

pub returns-in-Replay-clause-workload : goal.returns-in-Replay-clause-workload
returns-in-Replay-clause-workload g c =
    λ calls said.
    absurd (replay_workload _ _
    (only _ _ c.in-Ok.ensures.reads (Replay c.in-Replay.journal)
    (c.in-Some.is ∙ ap (λ (k : Command). Some k) c.in-Replay.is) (workload calls) said))

pub returns-in-Replay-clause-unopened : goal.returns-in-Replay-clause-unopened
returns-in-Replay-clause-unopened g c =
    λ is. (
      inr (
        c.in-Replay.journal.now,
        reads _ _ c.in-Ok.ensures.reads (Replay c.in-Replay.journal)
            (c.in-Some.is ∙ ap (λ (k : Command). Some k) c.in-Replay.is),
      ),
      refl,
    )

-- ---- `workload`

pub returns-in-Workload-clause-asked : goal.returns-in-Workload-clause-asked
returns-in-Workload-clause-asked g c = λ command said. inl
    (subst (λ (m : Meaning). IsAskedBy m (g.F.Folder.shown c.args.folder.now) (g.F.Folder.shown c.args.folder.now))
    (only _ _ c.in-Ok.ensures.reads (Workload c.in-Workload.calls)
    (c.in-Some.is ∙ ap (λ (k : Command). Some k) c.in-Workload.is) command said) refl)

pub returns-in-Workload-clause-run : goal.returns-in-Workload-clause-run
returns-in-Workload-clause-run g c =
    λ users said.
    absurd (run_workload users _
    (sym (only _ _ c.in-Ok.ensures.reads (Workload c.in-Workload.calls)
    (c.in-Some.is ∙ ap (λ (k : Command). Some k) c.in-Workload.is) (run users) said)))

pub returns-in-Workload-clause-exactly : goal.returns-in-Workload-clause-exactly
returns-in-Workload-clause-exactly g c =
    λ said. absurd (workload_no_run _ _
    (only _ _ c.in-Ok.ensures.reads (Workload c.in-Workload.calls)
    (c.in-Some.is ∙ ap (λ (k : Command). Some k) c.in-Workload.is)) c.in-Workload.calls refl said)

pub returns-in-Workload-clause-serve : goal.returns-in-Workload-clause-serve
returns-in-Workload-clause-serve g c = λ port limit users journal said.
    absurd (serve_workload _ _ _ _ _
    (sym (only _ _ c.in-Ok.ensures.reads (Workload c.in-Workload.calls)
    (c.in-Some.is ∙ ap (λ (k : Command). Some k) c.in-Workload.is) (serve port limit users journal) said)))

pub returns-in-Workload-clause-replay : goal.returns-in-Workload-clause-replay
returns-in-Workload-clause-replay g c =
    λ name said.
    absurd (replay_workload name _
    (sym (only _ _ c.in-Ok.ensures.reads (Workload c.in-Workload.calls)
    (c.in-Some.is ∙ ap (λ (k : Command). Some k) c.in-Workload.is) (replay name) said)))

pub returns-in-Workload-clause-workload : goal.returns-in-Workload-clause-workload
returns-in-Workload-clause-workload g c = λ calls said.
    let same =
    same_calls c.in-Workload.calls calls
    (only _ _ c.in-Ok.ensures.reads (Workload c.in-Workload.calls)
    (c.in-Some.is ∙ ap (λ (k : Command). Some k) c.in-Workload.is) (workload calls) said) in
    rw (sym same) c.workload.ensures.workload
