use Rattle.link_store.specs.Crossings.{IsGrid, HasSameSize}
use Rattle.link_store.proofs.Copied.{IsRowCopied}
use Rattle.link_store.proofs.cells.Cells.copy_row.Given as goal

-- the copy has the items of the row's first cells, too
abbrev pub invariant-loop-cell : goal.invariant-loop-cell
invariant-loop-cell g l = record {
  grid : IsGrid l.copy;
  size : HasSameSize l.self l.copy;
  copied : IsRowCopied l.self l.row l.copy l.cell-iterator;
}
