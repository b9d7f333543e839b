use Rattle.std.proofs.Common.{◌≡◌, ◌++◌, length}
use Rattle.std.specs.Str.{IsCharBoundary}
use Rattle.std.specs.Vec.Iter.{into_iter_items, into_iter_len}
use Rattle.formula_reader.specs.Pieces.{pieces_from}
use Rattle.formula_reader.specs.Cuts.{Cuts}
use Rattle.formula_reader.proofs.pieces.pieces_of.Given as goal

-- the text can be cut at the tokens that are left, and their pieces from here on, behind those so far,
-- are all
abbrev pub invariant-loop-placed : goal.invariant-loop-placed
invariant-loop-placed g l =
    (into_iter_len l.placed-iterator ≡ length (into_iter_items l.placed-iterator))
    × IsCharBoundary l.text l.from
    × Cuts l.text l.from (into_iter_items l.placed-iterator)
    × (l.pieces.items ++ pieces_from (g.S.SheetNames.sheets l.names) l.here l.text l.from
    (into_iter_items l.placed-iterator)
    ≡ pieces_from (g.S.SheetNames.sheets l.names) l.here l.text 0 (into_iter_items l.initial.placed-iterator))
