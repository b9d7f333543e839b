use Rattle.std.proofs.Common.{subst}
use Rattle.std.proofs.lemmas.Result.{IfOk-weaker}
use Rattle.shared_map.specs.Found.{halves_of}
use Rattle.shared_map.specs.Map.{AreKeysWithin, AreListed}
use Rattle.shared_grid.specs.Cells.{AreKeysOnRow}
use Rattle.shared_grid.proofs.Cleared.{keys_on_row}
use Rattle.shared_grid.proofs.Keys.{also}
use Rattle.shared_grid.proofs.cells.Cells.row_behind.Goals as goal

pub returns : goal.returns
returns g c = IfOk-weaker c.keys_behind.result _ _ (λ keys listed.
    subst (λ items. AreListed halves_of (AreKeysOnRow c.args.row items) c.args.others.items keys.items) c.self.view_is
    (also halves_of (AreKeysWithin c.key.result c.key-2.result c.self.inside.items)
    (AreKeysOnRow c.args.row c.self.inside.items)
    c.args.others.items keys.items
    (λ ks within. keys_on_row c.self.inside.items c.args.row c.key.result c.key-2.result ks c.key.ensures
    c.key-2.ensures within) listed)) c.keys_behind.ensures
