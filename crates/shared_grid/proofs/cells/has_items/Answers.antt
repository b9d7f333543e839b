use Rattle.std.proofs.Common.{◌≡◌, arith}
use Rattle.std.proofs.lemmas.Bool.{eqb-true}
use Rattle.std.specs.FinMap as map
use Rattle.shared_grid.proofs.Exact.{no_other_marks}
use Rattle.shared_grid.proofs.cells.has_items.Goals as goal

pub returns : goal.returns
returns g c = λ same.
    let alike : c.count.result ≡ c.count-2.result = eqb-true c.count.result c.count-2.result same in
    no_other_marks (map.len c.args.items.now) c.args.items.now c.args.marks.now c.requires c.count-2.ensures.keys
    (omega arith) (omega (arith, alike, c.count.ensures.is, c.count-2.ensures.is))
