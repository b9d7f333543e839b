use Rattle.std.proofs.Common.{ap, sym, ◌∙◌, arith}
use Rattle.std.specs.FinMap as map
use Rattle.shared_map.specs.Root.{in_root}
use Rattle.shared_map.proofs.Maps.{get-map_of}
use Rattle.shared_map.proofs.map.SharedMap.get.Goals as goal

pub returns : goal.returns
returns g c =
    c.get.ensures ∙ sym (get-map_of (in_root c.self.inside.root) c.args.key (omega arith))
    ∙ ap (λ m. map.get m c.args.key) c.self.view_is
