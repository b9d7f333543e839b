use Rattle.std.proofs.Common.{Some}
use Rattle.cell_calc.specs.Conversion.{error_in}
use Rattle.cell_calc.proofs.LookUps.{area_and_one, counted_fails}
use Rattle.cell_calc.proofs.functions.look_up.matches_counted.Goals as goal

pub returns-in-Some : goal.returns-in-Some
returns-in-Some c = λ given stands.
    counted_fails given c.args.key.now c.in-Some.fault
    (area_and_one c.args.area.now given (error_in c.args.key.now) (Some c.in-Some.fault) stands cc)
