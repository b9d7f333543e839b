use Rattle.std.proofs.Common.{ap, ◌∙◌, arith}
use Rattle.std.specs.Ordering.{nat_cmp}
use Rattle.std.specs.FinMap as map
use Rattle.shared_grid.proofs.cells.Cells.drop_all.Goals as goal

pub returns-then-count-eq0-clause-dropped : goal.returns-then-count-eq0-clause-dropped
returns-then-count-eq0-clause-dropped g c =
    map.empty_of_len c.args.self.now (omega (arith, c.count.ensures, c.if-count-eq0.true))

pub returns-clause-steps : goal.returns-clause-steps
returns-clause-steps g c =
    let none = ap map.len c.in_ok-self.ensures ∙ map.len-empty nat_cmp g.row.T.Denot in
    omega (arith, c.tick.ensures, c.add.ensures, c.count.ensures, c.if-count-eq0.false, none)
