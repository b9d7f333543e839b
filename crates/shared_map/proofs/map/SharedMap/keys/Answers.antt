use Rattle.std.proofs.Common.{subst}
use Rattle.std.proofs.lemmas.Result.{IfOk-weaker}
use Rattle.shared_map.specs.Map.{AreKeysWithin, AreListed}
use Rattle.shared_map.proofs.map.SharedMap.keys.Goals as goal

pub returns : goal.returns
returns g c = IfOk-weaker c.keys_behind.result _ _ (λ keys listed.
    subst (λ before. AreListed g.K.Key.listed (AreKeysWithin c.args.first c.args.last c.args.self.now)
    before keys.items)
    c.in_ok-none.ensures.items listed) c.keys_behind.ensures
