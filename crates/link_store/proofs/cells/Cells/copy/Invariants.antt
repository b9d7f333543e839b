use Rattle.link_store.specs.Crossings.{IsGrid, HasFirstRows, HasSameSize}
use Rattle.link_store.proofs.cells.Cells.copy.Given as goal

-- the copy has the items of the first rows
abbrev pub invariant-loop-row : goal.invariant-loop-row
invariant-loop-row g l = record {
  grid : IsGrid l.copy;
  size : HasSameSize l.self l.copy;
  copied : HasFirstRows l.self l.row l.copy;
}
