use Rattle.std.proofs.Common.{option_map, subst}
use Rattle.std.proofs.lemmas.Result.{on_ok_weaker}
use Rattle.formula_reader.specs.Tree.{expression_of}
use Rattle.cell_calc.specs.Marks.{keyed_place}
use Rattle.cell_calc.specs.Walk.{IsTreeAt}
use Rattle.cell_calc.proofs.Going.{treeless_at_once}
use Rattle.cell_calc.proofs.walk.begin_tree.Goals as goal

pub returns-in-Some : goal.returns-in-Some
returns-in-Some g c = λ at none.
    c.enter.ensures
    (subst (λ t. IsTreeAt (g.C.CellsOf.contents c.args.cells.now) (keyed_place c.args.place)
    (option_map expression_of t)) c.in-Some.is at)
    none

pub returns-in-None : goal.returns-in-None
returns-in-None g c = λ at none.
    let contents = g.C.CellsOf.contents c.args.cells.now in
    on_ok_weaker c.set.result
    (λ marked. treeless_at_once contents (keyed_place c.args.place) _ _
    (subst (λ t. IsTreeAt contents (keyed_place c.args.place) (option_map expression_of t)) c.in-None.is at) _ marked)
    c.set.ensures
