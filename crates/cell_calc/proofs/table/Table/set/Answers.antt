use Rattle.cell_calc.specs.Marks.{key_of}
use Rattle.cell_calc.proofs.table.Table.set.Goals as goal

pub returns : goal.returns
returns c = λ other. c.in_ok-insert.ensures.updates.0 (key_of other)
