use Rattle.std.proofs.Common.{Some, None, ◌∙◌}
use Rattle.cell_calc.specs.Conversion.{error_in}
use Rattle.cell_calc.proofs.LookUps.{area_between, matched_by}
use Rattle.cell_calc.proofs.functions.look_up.matched_place.Goals as goal

pub returns-in-Some : goal.returns-in-Some
returns-in-Some c = λ given stands.
    matched_by c.args.key.now given c.args.search.now (Some c.in-Some.fault)
    (area_between c.args.area.now given (error_in c.args.key.now) (error_in c.args.search.now)
    (Some c.in-Some.fault) stands cc)

pub returns-in-None : goal.returns-in-None
returns-in-None c = λ given stands.
    c.searched.ensures given stands
    ∙ matched_by c.args.key.now given c.args.search.now None
    (area_between c.args.area.now given (error_in c.args.key.now) (error_in c.args.search.now) None stands cc)
