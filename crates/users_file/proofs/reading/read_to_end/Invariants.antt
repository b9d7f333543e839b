use Rattle.std.proofs.Common.{◌≡◌, ◌≤◌, ◌-◌, ◌++◌, length}
use Rattle.std.specs.Option.{option_map}
use Rattle.cell_value.specs.FaultCount.{StaysSteady}
use Rattle.users_file.proofs.reading.read_to_end.Given as goal

-- so far the bytes are what the file had in front
abbrev pub invariant-loop-piece : goal.invariant-loop-piece
invariant-loop-piece g l = record {
  read : g.S.Source.left l.fn.file ≡ option_map (λ rest. l.bytes ++ rest) (g.S.Source.left l.file);
  later : g.S.Source.faults l.fn.file ≤ g.S.Source.faults l.file;
  steady : StaysSteady (g.S.Source.steady l.fn.file) (g.S.Source.steady l.file) (g.S.Source.faults l.fn.file)
      (g.S.Source.faults l.file);
  beside : g.S.Source.beside l.file ≡ g.S.Source.beside l.fn.file;
}

abbrev pub decreases-loop-piece : goal.decreases-loop-piece
decreases-loop-piece g l = 1048577 - length l.bytes
