use Rattle.link_store.specs.Lists.{entries_of}
use Rattle.link_store.proofs.Search.{IsLeft}
use Rattle.link_store.proofs.cells.find_in.Given as goal

-- the cells that were gone through are of other columns
abbrev pub invariant-loop-node : goal.invariant-loop-node
invariant-loop-node g l = IsLeft (entries_of l.rows.links l.list) l.node-iterator l.column
