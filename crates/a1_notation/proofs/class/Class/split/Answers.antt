use Rattle.a1_notation.specs.Class.{class_test}
use Rattle.a1_notation.proofs.Runs.{first_run, run_boundary}
use Rattle.a1_notation.proofs.class.Class.split.Goals as goal

pub split_at-requires : goal.split_at-requires
split_at-requires c =
    run_boundary c.args.self c.args.text.now c.count.result c.utf8.text (rw c.as_bytes.ensures.value at c.count.ensures)

pub returns-clause-run : goal.returns-clause-run
returns-clause-run c =
    rw (c.split_at.ensures.front, c.split_at.ensures.back, c.count.ensures, c.as_bytes.ensures.value)
    (first_run (class_test c.args.self) c.args.text.now)
