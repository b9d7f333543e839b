use Rattle.std.proofs.Common.{◌<◌, ◌+◌, ◌^◌, subst, arith}
use Rattle.shared_map.specs.Found.{keys_found}
use Rattle.shared_map.specs.Map.{AreKeysWithin, AreListed}
use Rattle.shared_map.specs.Root.{in_root}
use Rattle.shared_map.proofs.Ordered.{are_keys}
use Rattle.shared_map.proofs.map.SharedMap.keys_behind.Goals as goal

pub returns : goal.returns
returns g c =
    let find = in_root c.self.inside.root in
    let fits : c.args.last < 2 ^ 64 = omega arith in
    subst (λ m. AreListed g.K.Key.listed (AreKeysWithin c.args.first c.args.last m) c.args.others.items
    c.list.new.found.items)
    c.self.view_is (record {
      keys = keys_found find 0 c.args.first (c.args.last + 1);
      are = are_keys find c.args.first c.args.last fits;
      is = c.in_ok-list.ensures;
    })
