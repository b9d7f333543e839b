use Rattle.std.proofs.Common.{◌-◌, ◌<◌, refl, sym, ap, arith}
use Rattle.std.proofs.lemmas.Bool.{false≢true}
use Rattle.link_store.specs.Lists.{entries_of}
use Rattle.link_store.specs.Crossings.{sheet_items}
use Rattle.cell_store.specs.Entries.{entry_at}
use Rattle.link_store.proofs.Elements.{first_in, none_first}
use Rattle.link_store.proofs.Removed.{IsRemoved, grid_left, other_rows_left}
use Rattle.link_store.proofs.cells.Cells.drop_in_row.Goals as goal

pub unlink_counted-requires : goal.unlink_counted-requires
unlink_counted-requires g c =
    let stood = first_in (entries_of c.args.self.now.rows.links c.args.list) (c.in-Some.field-0-0, c.in-Some.cell)
    c.in-Some.ensures.first in (
      record { row = c.args.list; row_node = c.in-Some.field-0-0 },
      (c.in-Some.cell.column, c.requires.grid.crossed.in_column c.args.list c.in-Some.field-0-0 c.in-Some.cell stood),
    )

-- the cell that went, and what is left
removed : (g : _) (c : goal.After-drop-cell g) → IsRemoved c.args.self.now
    (record {
      rows = record {
        links = c.take_first_counted.new.self;
        lists = c.args.self.now.rows.lists;
        count = c.args.self.now.rows.count;
      };
      columns = record {
        links = c.unlink_counted.new.self;
        lists = c.args.self.now.columns.lists;
        count = c.args.self.now.columns.count;
      };
      filled = c.args.self.now.filled - 1;
    })
    c.args.list c.in-Some.field-0-0 c.in-Some.cell
removed g c = record {
  stood = first_in (entries_of c.args.self.now.rows.links c.args.list) (c.in-Some.field-0-0, c.in-Some.cell)
      c.in-Some.ensures.first;
  rows_once = c.in-Some.ensures.once;
  columns_once = c.unlink_counted.ensures.once;
  rows = c.in-Some.ensures.taken;
  columns = c.unlink_counted.ensures.taken;
  kept_rows = refl;
  row_count = refl;
  kept_columns = refl;
  column_count = refl;
  live_rows = omega (arith, c.in-Some.ensures.count, c.requires.grid.filled);
  live_columns = omega (arith, c.unlink_counted.ensures.count, c.requires.grid.linked);
}

pub returns-in-Some-clause-grid : goal.returns-in-Some-clause-grid
returns-in-Some-clause-grid g c = grid_left c.args.self.now _ c.args.list c.in-Some.field-0-0 c.in-Some.cell
    c.requires.grid (removed g c)

pub returns-in-Some-clause-lost : goal.returns-in-Some-clause-lost
returns-in-Some-clause-lost g c = record {
  lines = record { rows = refl; columns = refl; size = record { rows = refl; columns = refl } };
  others = λ place other. other_rows_left c.args.self.now _ c.args.list c.in-Some.field-0-0 c.in-Some.cell
      c.requires.grid (removed g c) place other;
  fewer = λ _. let less : c.args.self.now.filled - 1 < c.args.self.now.filled = omega
      (arith, c.in-Some.ensures.count, c.requires.grid.filled) in less;
  none = λ kept. absurd (false≢true (sym kept));
}

pub returns-in-None-clause-lost : goal.returns-in-None-clause-lost
returns-in-None-clause-lost g c = record {
  lines = record { rows = refl; columns = refl; size = record { rows = refl; columns = refl } };
  others = λ place other. ap (λ all. entry_at
      (sheet_items (record c.args.self.now { rows = record c.args.self.now.rows { links = all } })) place)
      c.in-None.ensures.unchanged;
  fewer = λ lost. absurd (false≢true lost);
  none = λ _. (
    ap (λ all. record c.args.self.now { rows = record c.args.self.now.rows { links = all } })
        c.in-None.ensures.unchanged,
    none_first (entries_of c.args.self.now.rows.links c.args.list) c.in-None.ensures.first,
  );
}
