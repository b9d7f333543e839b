use Rattle.grid_range.proofs.Tearing.{tears_is_torn}
use Rattle.grid_range.proofs.change.Change.tears.Goals as goal

pub returns-clause-torn : goal.returns-clause-torn
returns-clause-torn c =
    tears_is_torn _ _ _ _ _ _ c.tears_lines.ensures c.first_line.ensures c.end_line.ensures
