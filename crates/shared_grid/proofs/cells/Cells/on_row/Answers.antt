use Rattle.std.proofs.Common.{subst}
use Rattle.std.proofs.lemmas.Result.{IfOk-weaker}
use Rattle.shared_map.specs.Map.{AreKeysWithin}
use Rattle.shared_grid.specs.Cells.{AreKeysOnRow}
use Rattle.shared_grid.proofs.Cleared.{keys_on_row}
use Rattle.shared_grid.proofs.Keys.{as_keys}
use Rattle.shared_grid.proofs.cells.Cells.on_row.Goals as goal

pub returns : goal.returns
returns g c = IfOk-weaker c.keys.result _ _
    (λ keys listed. subst (λ items. AreKeysOnRow c.args.row items keys.items) c.self.view_is
    (keys_on_row c.self.inside.items c.args.row c.key.result c.key-2.result keys.items c.key.ensures c.key-2.ensures
    (as_keys (AreKeysWithin c.key.result c.key-2.result c.self.inside.items) keys.items listed))) c.keys.ensures
