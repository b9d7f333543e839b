use Rattle.std.proofs.Common.{subst, sym}
use Rattle.std.specs.Option.{IsSome}
use Rattle.std.specs.FinMap as map
use Rattle.shared_map.specs.Root.{in_root}
use Rattle.shared_map.proofs.Maps.{key_fits}
use Rattle.shared_map.proofs.map.SharedMap.count.Goals as goal

pub returns-clause-keys : goal.returns-clause-keys
returns-clause-keys g c = λ key some.
    key_fits (in_root c.self.inside.root) key (subst (λ m. IsSome (map.get m key)) (sym c.self.view_is) some)
