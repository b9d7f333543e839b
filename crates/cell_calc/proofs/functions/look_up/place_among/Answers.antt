use Rattle.std.proofs.Common.{sym, ◌∙◌}
use Rattle.cell_calc.proofs.LookUps.{first_found, none_found}
use Rattle.cell_calc.proofs.functions.look_up.place_among.Goals as goal

pub returns-in-Some : goal.returns-in-Some
returns-in-Some c = λ values are.
    c.counted_from_one.ensures
    ∙ first_found c.args.key.now c.args.cells.now values c.in-Some.place are (sym c.first_match.ensures ∙ c.in-Some.is)

pub returns-in-None : goal.returns-in-None
returns-in-None c = λ values are.
    none_found c.args.key.now c.args.cells.now values are (sym c.first_match.ensures ∙ c.in-None.is)
