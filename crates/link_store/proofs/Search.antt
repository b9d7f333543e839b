-- A list that is gone through for the cell of a column.
use Rattle.std.proofs.Common.{◌≡◌, ◌≢◌, inl, inr, ℕ, ◌<◌, List, [], ◌∷◌, refl, sym, ap, subst, ◌∙◌, arith}
use Rattle.std.specs.Prelude.{Option, Some, None, Contains, IfSome, IfNone}
use Rattle.link_store.specs.declared.cells.Cells.{Cells}
use Rattle.link_store.specs.Lists.{entries_of}
use Rattle.link_store.specs.Lines.{list_of}
use Rattle.link_store.specs.Crossings.{IsCellAt}
use Rattle.cell_value.specs.Elements.{Contains-cons, Contains-cons_cases}
use Rattle.link_store.specs.declared.cells.Cell.{Cell}

module _ {T : Type 0} where
  -- what is left are entries of the list, and no other is of the column
  pub record IsLeft (all left : List (ℕ × Cell T)) (column : ℕ) : Type 0 where
    pub held : (entry : ℕ × Cell T) → Contains left entry → Contains all entry
    pub kept : (entry : ℕ × Cell T) → Contains all entry → entry.1.column ≡ column → Contains left entry

  pub all_left : (all left : List (ℕ × Cell T)) (column : ℕ) → left ≡ all → IsLeft all left column
  all_left all left column same = record {
    held = λ entry has. subst (λ es. Contains es entry) same has;
    kept = λ entry has _. subst (λ es. Contains es entry) (sym same) has;
  }

  pub one_less : (all left rest : List (ℕ × Cell T)) (column : ℕ) (entry : ℕ × Cell T) → IsLeft all left column
      → left ≡ entry ∷ rest → entry.1.column ≢ column
      → IsLeft all rest column
  one_less all left rest column entry is steps differs = record {
    held = λ e has. is.held e (subst (λ es. Contains es e) (sym steps) (Contains-cons entry e rest has));
    kept = λ e has same. elim (Contains-cons_cases entry e rest
        (subst (λ es. Contains es e) steps (is.kept e has same))) [
          | inl here ↦ absurd (differs (ap (λ (x : ℕ × Cell T). x.1.column) here ∙ same))
          | inr there ↦ there
        ];
  }

  pub found_first : (all left rest : List (ℕ × Cell T)) (column : ℕ) (entry : ℕ × Cell T) → IsLeft all left column
      → left ≡ entry ∷ rest → Contains all entry
  found_first all left rest column entry is steps = is.held entry
      (subst (λ es. Contains es entry) (sym steps) (0, omega arith, refl))

  pub none_left : (all left : List (ℕ × Cell T)) (column node : ℕ) (cell : Cell T) → IsLeft all left column
      → left ≡ [] → Contains all (node, cell)
      → cell.column ≡ column → ⊥
  none_left all left column node cell is empty has same =
      let held = subst (λ es. Contains es (node, cell)) empty (is.kept (node, cell) has same) in
      omega (arith, held.1)

  module _ (cells : Cells T) (row column in_row in_column : ℕ) (row_is : in_row ≡ list_of cells.rows row)
      (column_is : in_column ≡ list_of cells.columns column) where
    pub cell_found : (found : Option ℕ) → (row < cells.rows.count) × (column < cells.columns.count)
        → IfSome found (λ node. (cell : Cell T) × Contains (entries_of cells.rows.links in_row)
        (node, cell) × (cell.column ≡ in_column))
        → IfSome found (λ node. (cell : Cell T) × IsCellAt cells row column node cell)
    cell_found None there is = tt
    cell_found (Some node) there is = (
      is.0,
      record {
        there = there;
        stands = subst (λ list. Contains (entries_of cells.rows.links list) (node, is.0)) row_is is.1;
        column_is = is.2 ∙ column_is;
      },
    )

    pub cell_missed : (found : Option ℕ)
        → IfNone found ((node : ℕ) (cell : Cell T) → Contains (entries_of cells.rows.links in_row) (node, cell)
        → cell.column ≡ in_column → ⊥)
        → IfNone found ((node : ℕ) (cell : Cell T) → IsCellAt cells row column node cell → ⊥)
    cell_missed None missed = λ node cell at.
        missed node cell (subst (λ list. Contains (entries_of cells.rows.links list) (node, cell)) (sym row_is)
        at.stands) (at.column_is ∙ sym column_is)
    cell_missed (Some node) missed = tt
