use Rattle.std.proofs.Common.{Some, [], ◌∷◌}
use Rattle.cell_calc.specs.Outcome.{leftmost_error}
use Rattle.cell_calc.proofs.LookUps.{area_first, indexed_fails}
use Rattle.cell_calc.proofs.functions.look_up.indexed_value.Goals as goal

pub returns-in-Some : goal.returns-in-Some
returns-in-Some c = λ given stands.
    indexed_fails given c.args.row.now c.args.column.now c.in-Some.fault
    (area_first c.args.area.now given (leftmost_error (c.args.row.now ∷ c.args.column.now ∷ []))
    (Some c.in-Some.fault) stands cc)
