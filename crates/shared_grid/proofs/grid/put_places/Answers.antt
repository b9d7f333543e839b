use Rattle.std.proofs.Common.{◌<◌, length, get_or, arith}
use Rattle.std.proofs.lemmas.List.Elements.{Contains-get_or}
use Rattle.shared_grid.specs.Cells.{across_in}
use Rattle.shared_grid.proofs.grid.put_places.Goals as goal

pub place-requires : goal.place-requires
place-requires c =
    let there : across_in (get_or c.args.keys.now c.loop-key.key-index 0) < length c.args.columns.now.places =
    c.requires (get_or c.args.keys.now c.loop-key.key-index 0)
    (Contains-get_or c.args.keys.now c.loop-key.key-index 0 c.loop-key-test.true) in
    omega (arith, c.across.ensures, there)
