-- The contents of a table that become others, where those that don't pass a test stay as they are.
use Rattle.std.proofs.Common.{◌≡◌, ℕ, sym, refl, ap, ◌∙◌, List, [], ◌∷◌, length, cond, Bool, true, false, arith, inl, inr}
use Rattle.std.specs.Prelude.{Option, None, Some, ◌==◌}
use Rattle.std.specs.List.{filter, fold}
use Rattle.std.specs.Option.{option_map, option_map_or}
use Rattle.std.specs.Cmp.{eq_by_cmp_equiv}
use Rattle.std.proofs.lemmas.Bool.{cases_Bool, eqb-true, false≢true}
use Rattle.std.proofs.lemmas.List.Kept.{IsStrictlySortedBy-filter}
use Rattle.std.proofs.lemmas.Map.Views.{list_any-from_Contains}
use Rattle.cell_value.specs.Elements.{Contains-filter, Contains-filter_from}
use Rattle.grid_range.specs.Area.{by_rows}
use Rattle.grid_range.specs.ByRows.{by_rows_total}
use Rattle.grid_range.specs.declared.band.Band.TheVariants.{Whole}
use Rattle.cell_store.specs.Places.{AreFilledPlaces}
use Rattle.cell_store.specs.Table.{Table, item_at}
use Rattle.ref_rewrite.specs.declared.cell_content.Content.{Content}
use Rattle.world_model.specs.Counts.{is_formula}
use Rattle.dimension_ops.specs.References.{AreMarked, ArePlacesOfSuch, passes_at}
use Rattle.dimension_ops.proofs.Places.{all_followed, among, at_place, size_stays}

module _ (becomes : Content → Content) (test : Content → Bool)
    (stays : (item : Content) → test item ≡ false → becomes item ≡ item) where
  held_stays : (held : Option Content) → option_map_or test held false ≡ false → option_map becomes held ≡ held
  held_stays None is = refl
  held_stays (Some item) is = ap Some (stays item is)

  -- what becomes of those at the places becomes of all
  module _ (table : Table Content) (places : List (ℕ × ℕ)) (are : ArePlacesOfSuch test table places) where
    by_cases : (b : Bool) (held : Option Content) → (b ≡ false → option_map becomes held ≡ held)
        → cond b (option_map becomes held) held ≡ option_map becomes held
    by_cases true held stays = refl
    by_cases false held stays = sym (stays refl)

    not_listed : (row col : ℕ) → among places (row, col) ≡ false → passes_at test table (row, col) ≡ false
    not_listed row col none = elim (cases_Bool (passes_at test table (row, col))) [
      | inl passes ↦ absurd (false≢true (sym none
          ∙ list_any-from_Contains (eq_by_cmp_equiv by_rows_total) (row, col) places ((are.exactly row col).1 passes)))
      | inr is ↦ is
    ]

    pub items_become : (row col : ℕ) → item_at (fold (at_place becomes) table places) row col
        ≡ option_map becomes (item_at table row col)
    items_become row col =
        all_followed becomes places table (row, col) are.in_order
        ∙ by_cases (among places (row, col)) (item_at table row col)
        (λ none. held_stays (item_at table row col) (not_listed row col none))

    pub rows_stay : (fold (at_place becomes) table places).rows ≡ table.rows
    rows_stay = (size_stays becomes places table).0

    pub cols_stay : (fold (at_place becomes) table places).cols ≡ table.cols
    cols_stay = (size_stays becomes places table).1

-- ---- where formulas are marked, those that pass a test are among the marked places

module _ (test : Content → Bool) (formulas : (item : Content) → test item ≡ true → is_formula item ≡ true) where
  is_formula_then : (held : Option Content) → option_map_or test held false ≡ true
      → option_map_or is_formula held false ≡ true
  is_formula_then None passes = passes
  is_formula_then (Some item) passes = formulas item passes

  pub such_marked : {M : Type 0} (table : Table Content) (marks : Table M) (places : List (ℕ × ℕ))
      → AreMarked table marks → AreFilledPlaces (record { sheet = 0; rows = Whole; cols = Whole }) marks places
      → ArePlacesOfSuch test table (filter (passes_at test table) places)
  such_marked table marks places marked are = record {
    in_order = IsStrictlySortedBy-filter by_rows (passes_at test table) places are.in_order;
    exactly = λ row col. (
      λ there. (Contains-filter_from (passes_at test table) places (row, col) there).1,
      λ passes. Contains-filter (passes_at test table) places (row, col)
          ((are.exactly row col).1 ((tt, tt), marked.each row col (is_formula_then (item_at table row col) passes)))
          passes,
    );
  }

-- ---- where there are none

pub no_items : {A : Type 0} (items : List A) → (length items == 0) ≡ true → items ≡ []
no_items [] is = refl
no_items (first ∷ items) is = absurd (omega (arith, eqb-true (length (first ∷ items)) 0 is))
