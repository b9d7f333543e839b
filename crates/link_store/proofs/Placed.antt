-- What a look-up in the lists says of the sheet.
use Rattle.std.proofs.Common.{◌≡◌, ℕ, true, false, refl, sym, ap, ◌∙◌, cond}
use Rattle.std.specs.Prelude.{None}
use Rattle.std.specs.Ordering.{eq_by_cmp}
use Rattle.std.proofs.lemmas.Map.Views.{tells_apart}
use Rattle.grid_range.specs.Area.{by_rows}
use Rattle.grid_range.specs.ByRows.{by_rows_exact}
use Rattle.cell_store.specs.Entries.{entry_at}
use Rattle.link_store.specs.declared.cells.Cell.{Cell}
use Rattle.link_store.specs.declared.cells.Cells.{Cells}
use Rattle.link_store.specs.Lists.{IsLive}
use Rattle.link_store.specs.Lines.{list_of}
use Rattle.link_store.specs.Crossings.{IsGrid, IsCellAt, ChangesAt, sheet_items}
use Rattle.link_store.proofs.Sheets.{cell_from}
use Rattle.link_store.proofs.Emptied.{nothing}

module _ {T : Type 0} (cells : Cells T) (row column : ℕ) where
  -- a cell's node is live
  pub live_cell : (node : ℕ) (cell : Cell T) → IsCellAt cells row column node cell → IsLive cells.rows.links node
  live_cell node cell at = (cell, (list_of cells.rows row, at.stands))

  -- there is no cell
  pub none_at : IsGrid cells → ((node : ℕ) (cell : Cell T) → IsCellAt cells row column node cell → ⊥)
      → entry_at (sheet_items cells) (row, column) ≡ None
  none_at are none = nothing (entry_at (sheet_items cells) (row, column)) (λ item is.
      let held = cell_from cells are row column item is in
      none held.0 held.1 held.2)

  -- where there is none, nothing is taken
  pub nothing_taken : entry_at (sheet_items cells) (row, column) ≡ None
      → ChangesAt (sheet_items cells) (sheet_items cells) (row, column) None
  nothing_taken none other =
      elim (eq_by_cmp by_rows (row, column) other) as (λ b. eq_by_cmp by_rows (row, column) other ≡ b
      → entry_at (sheet_items cells) other ≡ cond b None (entry_at (sheet_items cells) other)) [
        | true ↦ λ same. ap (entry_at (sheet_items cells))
            (sym (tells_apart by_rows_exact (row, column) other same)) ∙ none
        | false ↦ λ _. refl
      ] refl
