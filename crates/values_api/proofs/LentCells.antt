-- The cells that are lent to a calculation.
use Rattle.std.proofs.Common.{◌≡◌, ℕ, suc, ◌+◌, ◌<◌, List, [], ◌∷◌, ◌++◌, length, map, take, get_or, Contains, Some, None, refl, ap, sym, subst, ◌∙◌, inl, inr, arith}
use Rattle.std.specs.Prelude.{MatchOption}
use Rattle.std.specs.Option.{IsSome, option_and_then}
use Rattle.std.proofs.Math.Seq.{take-suc}
use Rattle.std.proofs.lemmas.List.{map-append}
use Rattle.std.proofs.lemmas.List.Elements.{Contains-append_cases}
use Rattle.cell_value.specs.Elements.{nothing_in, Contains-cons_cases}
use Rattle.grid_range.specs.declared.area.Area.{Area}
use Rattle.cell_store.specs.Places.{AreFilledPlaces}
use Rattle.cell_store.specs.Table.{Table, item_at}
use Rattle.ref_rewrite.specs.declared.cell_content.Content.{Content}
use Rattle.cell_calc.specs.Contents.{AreStoredCells, AreStoredPlaces, cell_place}
use Rattle.cell_calc.specs.declared.cells.StoredCell.{StoredCell}
use Rattle.world_model.specs.Book.{PlaceBook}
use Rattle.world_model.specs.Sheet.{PlaceSheet}
use Rattle.world_model.specs.Sound.{place_sheet_with}
use Rattle.values_api.specs.Sheets.{AddsCell, AreCellsAt, AreCellsOn, stored_in}
use Rattle.values_api.proofs.Readable.{places_stored}

plus_one : (n : ℕ) → n + 1 ≡ suc n
plus_one n = omega arith

module _ (table : Table Content) where
  pub no_cells : (cells : List StoredCell) → cells ≡ [] → AreCellsAt table [] cells
  no_cells cells none = record {
    at = ap (map cell_place) none;
    held = λ cell has. absurd (nothing_in cell (subst (λ l. Contains l cell) none has));
  }

  pub one_more_cell : (places : List (ℕ × ℕ)) (count : ℕ) (d : ℕ × ℕ) → count < length places
      → (before after : List StoredCell) → AreCellsAt table (take count places) before
      → IsSome (item_at table (get_or places count d).0 (get_or places count d).1)
      → AddsCell table (get_or places count d) before after → AreCellsAt table (take (count + 1) places) after
  one_more_cell places count d within before after are some adds =
      let (cell, at, held, more) = adds some in
      record {
        at = ap (map cell_place) more ∙ map-append cell_place before (cell ∷ [])
            ∙ ap (λ l. l ++ cell_place cell ∷ []) are.at ∙ ap (λ p. take count places ++ p ∷ []) at
            ∙ sym (ap (λ n. take n places) (plus_one count) ∙ take-suc places count d within);
        held = λ other has.
            elim (Contains-append_cases before (cell ∷ []) other (subst (λ l. Contains l other) more has)) [
              | inl earlier ↦ are.held other earlier
              | inr last ↦ elim (Contains-cons_cases cell other [] last) [
                | inl same ↦
                    subst (λ c. item_at table c.row c.column ≡ Some c.content.now) same
                    (ap (λ (p : ℕ × ℕ). item_at table p.0 p.1) at ∙ held)
                | inr never ↦ absurd (nothing_in other never)
              ]
            ];
      }

-- the cells of an area of a spreadsheet
module _ (book : PlaceBook) (area : Area) where
  pub cells_of_sheet : (sheet : PlaceSheet) → place_sheet_with area.sheet book.sheets ≡ Some sheet
      → (cells : List StoredCell) → AreCellsOn area sheet.table cells → AreStoredCells (stored_in book) area cells
  cells_of_sheet sheet is cells (places, filled, are) = record {
    places = subst (AreStoredPlaces (stored_in book) area) (sym are.at)
        (places_stored book area places
        (subst (λ found. MatchOption found (places ≡ []) (λ (one : PlaceSheet). AreFilledPlaces area one.table places))
        (sym is) filled));
    content = λ cell has.
        ap (option_and_then (λ (one : PlaceSheet). item_at one.table cell.row cell.column)) is ∙ are.held cell has;
  }

  pub cells_of_none : place_sheet_with area.sheet book.sheets ≡ None → (cells : List StoredCell) → cells ≡ []
      → AreStoredCells (stored_in book) area cells
  cells_of_none is cells none = record {
    places = subst (AreStoredPlaces (stored_in book) area) (sym (ap (map cell_place) none))
        (places_stored book area []
        (subst (λ found. MatchOption found (◌≡◌ {A = List (ℕ × ℕ)} [] [])
        (λ (one : PlaceSheet). AreFilledPlaces area one.table [])) (sym is) refl));
    content = λ cell has. absurd (nothing_in cell (subst (λ l. Contains l cell) none has));
  }
