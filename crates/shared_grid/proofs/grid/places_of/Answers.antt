use Rattle.std.proofs.Common.{get_or}
use Rattle.std.proofs.lemmas.List.Elements.{Contains-get_or}
use Rattle.shared_grid.proofs.grid.places_of.Goals as goal

pub place-requires : goal.place-requires
place-requires c =
    (c.requires.each (get_or c.args.keys.now c.loop-key.key-index (0, 0))
    (Contains-get_or c.args.keys.now c.loop-key.key-index (0, 0) c.loop-key-test.true)).0

pub place-requires-in-loop-key : goal.place-requires-in-loop-key
place-requires-in-loop-key c =
    (c.requires.each (get_or c.args.keys.now c.loop-key.key-index (0, 0))
    (Contains-get_or c.args.keys.now c.loop-key.key-index (0, 0) c.loop-key-test.true)).1
