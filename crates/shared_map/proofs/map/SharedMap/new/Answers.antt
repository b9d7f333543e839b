use Rattle.std.proofs.Common.{ap, sym, ◌∙◌}
use Rattle.std.specs.FinMap as map
use Rattle.std.specs.Ordering.{nat_cmp}
use Rattle.shared_map.specs.Root.{in_root}
use Rattle.shared_map.proofs.Maps.{empty}
use Rattle.shared_map.proofs.map.SharedMap.new.Goals as goal

pub invariant_of-result : goal.invariant_of-result
invariant_of-result g c =
    sym (ap map.len (empty (in_root c.in_ok-empty.field-0) c.in_ok-empty.ensures) ∙ map.len-empty nat_cmp _)

pub returns : goal.returns
returns g c = empty (in_root c.in_ok-empty.field-0) c.in_ok-empty.ensures
