-- Lists with no entries.
use Rattle.std.proofs.Common.{◌≡◌, ℕ, ◌+◌, ◌≤◌, [], map, sym, subst}
use Rattle.std.specs.Prelude.{None, Contains, nat_eq}
use Rattle.std.specs.List.{IsDistinct}
use Rattle.cell_store.specs.Entries.{entry_at}
use Rattle.cell_store.specs.Table.{most_lines}
use Rattle.link_store.specs.declared.cells.Cell.{Cell}
use Rattle.link_store.specs.declared.cells.Cells.{Cells}
use Rattle.link_store.specs.Lists.{entries_of, live_nodes}
use Rattle.link_store.specs.Lines.{AreLines, list_of}
use Rattle.link_store.specs.Crossings.{IsGrid, sheet_items}
use Rattle.cell_value.specs.Elements.{nothing_in, IsDistinct-none}
use Rattle.link_store.proofs.Sheets.{cell_from}
use Rattle.link_store.proofs.Emptied.{nothing}

module _ {T : Type 0} (cells : Cells T) (rows : AreLines cells.rows) (columns : AreLines cells.columns)
    (no_cells : (list : ℕ) → entries_of cells.rows.links list ≡ [])
    (no_links : (list : ℕ) → entries_of cells.columns.links list ≡ [])
    (size : cells.rows.count + cells.columns.count ≤ most_lines)
    (filled : live_nodes cells.rows.links ≡ cells.filled)
    (linked : live_nodes cells.columns.links ≡ cells.filled) where
  pub empty_grid : IsGrid cells
  empty_grid = record {
    rows_are = rows;
    columns_are = columns;
    crossed = record {
      in_column = λ list node cell has. absurd
          (nothing_in (node, cell) (subst (λ es. Contains es (node, cell)) (no_cells list) has));
      in_row = λ list node link has. absurd (nothing_in (node, link)
          (subst (λ es. Contains es (node, link)) (no_links list) has));
      one_cell = λ list. subst (λ es. IsDistinct nat_eq (map (λ (e : ℕ × Cell T). e.1.column) es))
          (sym (no_cells list)) (IsDistinct-none nat_eq);
    };
    size = size;
    filled = filled;
    linked = linked;
  }

  pub empty_items : (place : ℕ × ℕ) → entry_at (sheet_items cells) place ≡ None
  empty_items place = nothing (entry_at (sheet_items cells) place) (λ item is.
      let held = cell_from cells empty_grid place.0 place.1 item is in
      nothing_in (held.0, held.1) (subst (λ es. Contains es (held.0, held.1))
      (no_cells (list_of cells.rows place.0)) held.2.stands))
