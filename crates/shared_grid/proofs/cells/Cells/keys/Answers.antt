use Rattle.std.proofs.Common.{[], subst}
use Rattle.std.proofs.lemmas.Result.{IfOk-weaker}
use Rattle.shared_map.specs.Found.{halves_of}
use Rattle.shared_map.specs.Map.{AreKeysWithin, AreListed}
use Rattle.shared_grid.proofs.cells.Cells.keys.Goals as goal

pub returns : goal.returns
returns g c = IfOk-weaker c.keys_behind.result _ _ (λ keys listed.
    subst (λ items. AreListed halves_of (AreKeysWithin 0 18446744073709551615 items) [] keys.items) c.self.view_is
    (subst (λ before. AreListed halves_of (AreKeysWithin 0 18446744073709551615 c.self.inside.items) before keys.items)
    c.in_ok-none.ensures.items listed)) c.keys_behind.ensures
