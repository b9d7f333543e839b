use Rattle.std.proofs.Common.{◌≡◌, ◌+◌, ◌++◌, ◌∷◌, [], arith, subst, sym, take}
use Rattle.std.proofs.lemmas.Grind.{common_steps}
use Rattle.std.specs.List.{AllZip}
use Rattle.row_filter.specs.Criteria.{IsReady}
use Rattle.row_filter.proofs.Criteria.{IsReady-push}
use Rattle.row_filter.proofs.row_filter.split.Goals as goal

pub loop-criterion-preserved : goal.loop-criterion-preserved
loop-criterion-preserved c =
    let criteria = c.args.criteria.now in
    let at = c.loop-criterion.criterion-index in
    let one = c.in_ok-one.one in
    let ready = c.loop-criterion.ready.items in
    let more : c.push-in-loop-criterion.new.self.items ≡ ready ++ one ∷ [] = c.in_ok-push-2.ensures.items in
    record {
      ready = subst (AllZip IsReady (take (at + 1) criteria)) (sym more)
          (IsReady-push criteria at c.criterion-item.result ready one c.loop-criterion-test.true
          (sym c.criterion-item.is)
          c.in_ok-one.ensures c.loop-criterion.invariant.ready);
      left = grind (arith, common_steps);
    }
