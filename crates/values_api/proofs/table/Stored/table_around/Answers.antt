use Rattle.std.proofs.Common.{refl, arith}
use Rattle.values_api.proofs.Growing.{cell_few, one_cell, still_least, still_in, has_cells_of}
use Rattle.values_api.proofs.table.Stored.table_around.Goals as goal

pub overflow_add-table : goal.overflow_add-table
overflow_add-table c =
    let few = cell_few c.args.self.now c.requires.stored c.args.row c.args.col c.requires.there in omega arith

pub overflow_add-table-2 : goal.overflow_add-table-2
overflow_add-table-2 c =
    let few = cell_few c.args.self.now c.requires.stored c.args.row c.args.col c.requires.there in omega arith

pub loop-grown-init : goal.loop-grown-init
loop-grown-init c = record {
  has_cell = (one_cell c.args.self.now c.args.row c.args.col).0;
  least = (one_cell c.args.self.now c.args.row c.args.col).1;
}

pub grown-requires-clause-cells : goal.grown-requires-clause-cells
grown-requires-clause-cells c = has_cells_of _ _ _ c.loop-grown.invariant.has_cell

pub loop-grown-smaller : goal.loop-grown-smaller
loop-grown-smaller c = c.in-Some.ensures.grown.fewer

pub loop-grown-preserved : goal.loop-grown-preserved
loop-grown-preserved c =
    let grown = c.in-Some.ensures.grown in
    record {
      has_cell =
          still_in c.loop-grown.table c.in-Some.grown c.args.row c.args.col grown.holds c.loop-grown.invariant.has_cell;
      least = still_least c.args.self.now c.loop-grown.table c.in-Some.grown c.args.row c.args.col grown
          c.loop-grown.invariant.least;
    }

pub returns : goal.returns
returns c = record {
  has_cell = c.loop-grown.invariant.has_cell;
  closed = c.in_default.ensures.closed refl;
  least = c.loop-grown.invariant.least;
}
