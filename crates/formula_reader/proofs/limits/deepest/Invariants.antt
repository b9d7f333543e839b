use Rattle.std.proofs.Common.{◌≡◌, ◌≤◌, max, drop}
use Rattle.formula_reader.specs.Limits.{depth_behind, deepest}
use Rattle.formula_reader.proofs.limits.deepest.Given as goal

-- no more brackets are open than items were passed or than were open at most, and that most and the
-- most from here on are the most of all
abbrev pub invariant-loop-item : goal.invariant-loop-item
invariant-loop-item g l =
    (l.depth ≤ l.item-index) × (l.depth ≤ l.deepest)
    × (max l.deepest (deepest (λ item. depth_behind (g.T.Limited.counts_as item)) l.depth (drop l.item-index l.items))
    ≡ deepest (λ item. depth_behind (g.T.Limited.counts_as item)) 0 l.items)
