use Rattle.std.proofs.Common.{◌∙◌, ap, arith}
use Rattle.link_store.specs.Lists.{entries_of}
use Rattle.link_store.proofs.Copied.{row_starts, row_copied, column_listed, column_within, no_cell_yet, cell_copied}
use Rattle.link_store.proofs.cells.Cells.copy_row.Goals as goal

pub loop-cell-init : goal.loop-cell-init
loop-cell-init g c = record {
  grid = c.requires.copy;
  size = c.requires.size;
  copied = row_starts c.args.self.now c.args.row c.args.copy.now c.into_iter-cell-iterator.result c.requires.before
      (c.into_iter-cell-iterator.ensures.into_iter_gives ∙ c.entries-cell-items.ensures.entries
      ∙ ap (entries_of c.args.self.now.rows.links) c.list.ensures.value);
}

pub bounds-columns-cell : goal.bounds-columns-cell
bounds-columns-cell g c = column_listed c.requires.grid c.requires.columns c.loop-cell.invariant.copied
    c.in-Some.ensures.steps

pub add-requires-clause-there : goal.add-requires-clause-there
add-requires-clause-there g c =
    let inv = c.loop-cell.invariant in
    let within = column_within c.requires.grid c.requires.columns inv.copied c.in-Some.ensures.steps in
    (omega (arith, inv.size.rows, c.requires.there), omega (arith, inv.size.columns, within))

pub add-requires-clause-empty : goal.add-requires-clause-empty
add-requires-clause-empty g c =
    let inv = c.loop-cell.invariant in
    no_cell_yet c.requires.grid c.requires.columns inv.copied c.in-Some.ensures.steps inv.grid

pub loop-cell-preserved : goal.loop-cell-preserved
loop-cell-preserved g c =
    let inv = c.loop-cell.invariant in
    let added = c.in_default.ensures in
    record {
      grid = added.grid;
      size = record { rows = added.size.rows ∙ inv.size.rows; columns = added.size.columns ∙ inv.size.columns };
      copied = cell_copied c.requires.grid c.requires.columns inv.copied c.in-Some.ensures.steps
          c.in_ok-item.ensures added.put;
    }

pub returns-clause-copied : goal.returns-clause-copied
returns-clause-copied g c = row_copied c.args.self.now c.args.row c.loop-cell.invariant.copied c.in-None.ensures.steps.0
