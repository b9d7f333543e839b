use Rattle.desk.specs.Desks.{IsPass}
use Rattle.desk_tests.proofs.calls.play_rows.Given as goal

abbrev pub invariant-loop-row : goal.invariant-loop-row
invariant-loop-row g l = IsPass l.desk l.pass
