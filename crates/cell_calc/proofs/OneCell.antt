-- The stored places of an area of one cell.
use Rattle.std.proofs.Common.{◌≡◌, ℕ, ◌+◌, ◌-◌, [], ◌∷◌, map, Contains, Option, Some, None, refl, ap, sym, subst, ◌∙◌, inl, inr, arith}
use Rattle.std.specs.Prelude.{flat_map}
use Rattle.std.specs.Option.{IsSome}
use Rattle.std.specs.List.{range_with_len}
use Rattle.std.specs.List.Sorted.{IsStrictlySortedBy}
use Rattle.cell_value.specs.declared.cell.Value.{Value}
use Rattle.cell_value.specs.Elements.{nothing_in, Contains-head, Contains-cons_cases}
use Rattle.grid_range.specs.declared.area.Area.{Area}
use Rattle.grid_range.specs.declared.band.Band.TheVariants.{Span}
use Rattle.grid_range.specs.Area.{Holds, by_rows}
use Rattle.cell_calc.specs.declared.mark.Mark.{Mark}
use Rattle.cell_calc.specs.Arguments.{value_of_cells}
use Rattle.cell_calc.specs.Book.{Book, Place, cells_of, columns_of, lines_of}
use Rattle.cell_calc.specs.Calculated.{one_cell}
use Rattle.cell_calc.specs.declared.cells.StoredCell.{StoredCell}
use Rattle.cell_calc.specs.Contents.{Contents, AreStoredCells, AreStoredPlaces, IsStoredFormula}
use Rattle.cell_calc.specs.Marks.{IsKnown}
use Rattle.cell_calc.specs.Walk.{IsAreaSettled}

-- the area whose bands have one line each
pub is_one_cell : (area : Area) (row column : ℕ) → area.rows ≡ Span row (row + 1) → area.cols ≡ Span column (column + 1)
    → area ≡ one_cell area.sheet row column
is_one_cell area row column rows cols =
    ap (λ band. record area { rows = band }) rows
    ∙ ap (λ band. record { sheet = area.sheet; rows = Span row (row + 1); cols = band }) cols

alone : (cell : ℕ × ℕ) → IsStrictlySortedBy by_rows (cell ∷ [])
unfolding IsStrictlySortedBy
alone cell = (tt, tt)

none_in_order : IsStrictlySortedBy by_rows []
unfolding IsStrictlySortedBy
none_in_order = tt

module _ (contents : Contents) (sheet row column : ℕ) where
  abbrev at : ℕ → ℕ → Place
  at r c = record { sheet = sheet; row = r; column = c }

  held_row : (r c : ℕ) → Holds (one_cell sheet row column) r c → row ≡ r
  held_row r c (in_row, in_column) = omega (arith, in_row.0, in_row.1)

  held_column : (r c : ℕ) → Holds (one_cell sheet row column) r c → column ≡ c
  held_column r c (in_row, in_column) = omega (arith, in_column.0, in_column.1)

  holds_it : Holds (one_cell sheet row column) row column
  holds_it = ((omega arith, omega arith), (omega arith, omega arith))

  held_at : (r c : ℕ) → Holds (one_cell sheet row column) r c → ◌≡◌ {A = ℕ × ℕ} (row, column) (r, c)
  held_at r c holds = ap (λ x. (x, column)) (held_row r c holds) ∙ ap (λ y. (r, y)) (held_column r c holds)

  stored_alone : IsSome (contents.content (at row column))
      → AreStoredPlaces contents (one_cell sheet row column) ((row, column) ∷ [])
  stored_alone some = record {
    in_order = alone (row, column);
    exactly = λ r c. (
      λ has. elim (Contains-cons_cases (row, column) (r, c) [] has) [
        | inl same ↦
            subst (λ p. Holds (one_cell sheet row column) p.0 p.1 × IsSome (contents.content (at p.0 p.1))) same
            (holds_it, some)
        | inr never ↦ absurd (nothing_in (r, c) never)
      ],
      λ found. subst (Contains ((row, column) ∷ [])) (held_at r c found.0) (Contains-head (row, column) []),
    );
  }

  none_stored : contents.content (at row column) ≡ None → AreStoredPlaces contents (one_cell sheet row column) []
  none_stored none = record {
    in_order = none_in_order;
    exactly = λ r c. (
      λ has. absurd (nothing_in (r, c) has),
      λ found.
          let some = subst (λ p. IsSome (contents.content (at p.0 p.1))) (sym (held_at r c found.0)) found.1 in
          let never : ⊥ = cc in absurd never,
    );
  }

  -- the cell where something is stored in it
  pub one_stored : (cell : StoredCell) → cell.row ≡ row → cell.column ≡ column
      → contents.content (at row column) ≡ Some cell.content.now
      → AreStoredCells contents (one_cell sheet row column) (cell ∷ [])
  one_stored cell is_row is_column is = record {
    places = subst (λ p. AreStoredPlaces contents (one_cell sheet row column) (p ∷ []))
        (ap (λ r. (r, column)) (sym is_row) ∙ ap (λ c. (cell.row, c)) (sym is_column))
        (stored_alone (subst IsSome (sym is) refl));
    content = λ other has. elim (Contains-cons_cases cell other [] has) [
      | inl same ↦
          subst (λ c. contents.content (at c.row c.column) ≡ Some c.content.now) same
          (ap (λ r. contents.content (at r cell.column)) is_row ∙ ap (λ c. contents.content (at row c)) is_column ∙ is)
      | inr never ↦ absurd (nothing_in other never)
    ];
  }

  -- and where nothing is
  pub nothing_stored : contents.content (at row column) ≡ None → AreStoredCells contents (one_cell sheet row column) []
  nothing_stored none = record {
    places = none_stored none;
    content = λ cell has. absurd (nothing_in cell has);
  }

  -- the formula in the only place is known, if one stands there
  pub one_settled : (marks : Place → Option Mark)
      → (IsStoredFormula (contents.content (at row column)) → IsKnown (marks (at row column)))
      → IsAreaSettled contents marks (one_cell sheet row column)
  one_settled marks known place holds formed =
      let same : at row column ≡ place =
      ap (λ (p : ℕ × ℕ). at p.0 p.1) (held_at place.row place.column holds.1)
      ∙ ap (λ s. record { sheet = s; row = place.row; column = place.column }) holds.0 in
      subst (λ p. IsKnown (marks p)) same (known (subst (λ p. IsStoredFormula (contents.content p)) (sym same) formed))

-- an area of one cell has that cell's value
one_line : (line count : ℕ) → lines_of (Span line (line + 1)) count ≡ line ∷ []
one_line line count = ap (range_with_len line) (let one : line + 1 - line ≡ 1 = omega arith in one)

pub value_of_one : (book : Book) (read : Place → Value) (sheet row column : ℕ)
    → value_of_cells (cells_of book read (one_cell sheet row column)).values
    ≡ read (record { sheet = sheet; row = row; column = column })
value_of_one book read sheet row column =
    ap (λ rows. value_of_cells (map read
    (flat_map
    (λ r. map (λ c. record { sheet = sheet; row = r; column = c })
    (columns_of book (one_cell sheet row column))) rows)))
    (one_line row (book.size sheet).0)
    ∙ ap (λ columns. value_of_cells (map read
    (flat_map (λ r. map (λ c. record { sheet = sheet; row = r; column = c }) columns) (row ∷ []))))
    (one_line column (book.size sheet).1)
