use Rattle.std.proofs.Common.{refl, arith}
use Rattle.cell_calc.proofs.Popped.{cut_off, no_rest}
use Rattle.cell_calc.proofs.walk.look_on.Goals as goal

pub returns-in-Some : goal.returns-in-Some
returns-in-Some g c =
    c.wait_for.ensures c.args.frame
    (record {
      place = refl;
      tree = refl;
      rest =
          cut_off _ _ c.pop.result c.in-Some.area c.pop.ensures.items c.in-Some.is;
    }) refl

pub returns-in-None : goal.returns-in-None
returns-in-None g c =
    c.finish.ensures c.args.frame c.args.path.now.items refl refl
    (no_rest c.args.frame.rest.items (omega (arith, c.args.frame.rest.ok, c.in-None.ensures.cases)))
