use Rattle.std.proofs.Common.{◌≡◌, drop}
use Rattle.cell_calc.proofs.AllGood.{read_all, behind}
use Rattle.cell_calc.proofs.functions.gathering.all_read.Given as goal

abbrev pub invariant-loop-value : goal.invariant-loop-value
invariant-loop-value g l =
    read_all g.T.Reading.reading l.values
    ≡ behind l.all.items (read_all g.T.Reading.reading (drop l.value-index l.values))
