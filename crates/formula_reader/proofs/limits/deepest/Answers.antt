use Rattle.std.proofs.Common.{◌∙◌, ◌+◌, ◌≤◌, arith}
use Rattle.formula_reader.specs.Limits.{depth_behind}
use Rattle.formula_reader.proofs.Deepest.{deepest_on, at_most_one_more}
use Rattle.formula_reader.proofs.limits.deepest.Goals as goal

pub loop-item-preserved : goal.loop-item-preserved
loop-item-preserved g c =
    let counted = g.T.Limited.counts_as c.item-item.result in
    let depth = c.loop-item.depth in
    let deeper : c.depth_behind-depth.result ≤ depth + 1 =
    rw (c.depth_behind-depth.ensures, c.counted.ensures) (at_most_one_more counted depth) in (
      omega (arith, c.loop-item.invariant.0, deeper),
      omega (arith, c.larger-deepest.ensures),
      rw (c.larger-deepest.ensures, c.depth_behind-depth.ensures, c.counted.ensures)
          (deepest_on (λ item. depth_behind
          (g.T.Limited.counts_as item)) depth c.loop-item.deepest c.loop-item.item-index
          c.args.items.now c.item-item.result c.loop-item.invariant.1 c.loop-item-test.true c.item-item.is
          ∙ c.loop-item.invariant.2),
    )
