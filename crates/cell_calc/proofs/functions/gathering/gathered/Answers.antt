use Rattle.std.proofs.Common.{◌≡◌, subst, sym}
use Rattle.std.specs.Prelude.{IfOk}
use Rattle.cell_calc.proofs.Taking.{gathered_fails, gathered_is}
use Rattle.cell_calc.proofs.functions.gathering.gathered.Goals as goal

pub returns-in-Some : goal.returns-in-Some
returns-in-Some g c = λ given stand.
    gathered_fails g.T.Reading.reading c.args.taking c.args.arguments.now given c.in-Some.fault stand
    (sym c.in-Some.ensures)

pub returns-in-None : goal.returns-in-None
returns-in-None g c = λ given stand.
    subst (λ x. IfOk c.read_taken.result (λ all. all ≡ x))
    (gathered_is g.T.Reading.reading c.args.taking c.args.arguments.now given stand (sym c.in-None.ensures))
    c.read_taken.ensures
