use Rattle.std.proofs.Common.{◌-◌, refl, sym, ap, subst, arith}
use Rattle.std.specs.Prelude.{Contains}
use Rattle.link_store.specs.Lists.{entries_of}
use Rattle.link_store.specs.Crossings.{IsCellAt}
use Rattle.link_store.proofs.Removed.{IsRemoved, grid_left, changes_left}
use Rattle.link_store.proofs.cells.Cells.remove.Goals as goal

pub unlink-requires : goal.unlink-requires
unlink-requires g c =
    let live = c.requires.live in
    let cell = c.unlink-cell.result in
    let is = c.unlink-cell.ensures.item live.0 live.1 in (
      record { row = live.1.0; row_node = c.args.node },
      (
        cell.column,
        c.requires.grid.crossed.in_column live.1.0 c.args.node cell
            (subst (λ one. Contains (entries_of c.args.self.now.rows.links live.1.0) (c.args.node, one)) (sym is)
            live.1.1),
      ),
    )

-- the cell that went, and what is left
removed : (g : _) (c : goal.After-self-1 g) → IsRemoved c.args.self.now
    (record {
      rows = record {
        links = c.unlink-cell.new.self;
        lists = c.args.self.now.rows.lists;
        count = c.args.self.now.rows.count;
      };
      columns = record {
        links = c.unlink.new.self;
        lists = c.args.self.now.columns.lists;
        count = c.args.self.now.columns.count;
      };
      filled = c.args.self.now.filled - 1;
    })
    c.requires.live.1.0 c.args.node c.unlink-cell.result
removed g c =
    let live = c.requires.live in
    record {
      stood = subst (λ one. Contains (entries_of c.args.self.now.rows.links live.1.0) (c.args.node, one))
          (sym (c.unlink-cell.ensures.item live.0 live.1)) live.1.1;
      rows_once = c.unlink-cell.ensures.once;
      columns_once = c.unlink.ensures.once;
      rows = c.unlink-cell.ensures.taken;
      columns = c.unlink.ensures.taken;
      kept_rows = refl;
      row_count = refl;
      kept_columns = refl;
      column_count = refl;
      live_rows = omega (arith, c.unlink-cell.ensures.count, c.requires.grid.filled);
      live_columns = omega (arith, c.unlink.ensures.count, c.requires.grid.linked);
    }

pub returns-clause-grid : goal.returns-clause-grid
returns-clause-grid g c = grid_left c.args.self.now _ c.requires.live.1.0 c.args.node c.unlink-cell.result
    c.requires.grid (removed g c)

pub returns-clause-item : goal.returns-clause-item
returns-clause-item g c = λ row column cell at. ap (λ one. one.item) (c.unlink-cell.ensures.item cell (_, at.stands))

pub returns-clause-taken : goal.returns-clause-taken
returns-clause-taken g c = λ row column cell at.
    changes_left c.args.self.now _ c.requires.live.1.0 c.args.node c.unlink-cell.result c.requires.grid
    (removed g c) row column
    (subst (IsCellAt c.args.self.now row column c.args.node) (sym (c.unlink-cell.ensures.item cell (_, at.stands))) at)
