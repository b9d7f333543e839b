use Rattle.std.proofs.Common.{sym, ap, ◌∙◌, arith}
use Rattle.std.specs.Prelude.{is_some}
use Rattle.std.specs.FinMap as map
use Rattle.shared_grid.specs.Cells.{key_of}
use Rattle.shared_grid.proofs.Cleared.{one_less, none_less}
use Rattle.shared_grid.proofs.Views.{always}
use Rattle.shared_grid.proofs.cells.Cells.drop_item.Goals.{in-Some, in-None}
use Rattle.shared_grid.proofs.cells.Cells.drop_item.Goals as goal

pub returns-clause-steps : goal.returns-clause-steps
returns-clause-steps g c =
    let key = key_of c.args.row c.args.column in
    let left = ap map.len c.in_ok-take.ensures.taken in
    always c.match-branch-2.result (elim c.match-branch-2.branch [
      | in-Some w ↦
          let less = one_less c.args.self.now key (ap is_some (sym c.in_ok-take.ensures.item ∙ w.in-Some.is)) in
          omega (arith, w.steps-is, w.add.ensures, left, less)
      | in-None w ↦
          let same = none_less c.args.self.now key (sym c.in_ok-take.ensures.item ∙ w.in-None.is) in
          omega (arith, w.steps-is, left, same)
    ])
