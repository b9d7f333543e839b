-- Sheets stay where they are under an update, with their sizes, and so do the areas on them.
use Rattle.std.proofs.Common.{◌≡◌, ℕ, Bool, true, false, cond, sym, subst, List, [], ◌∷◌}
use Rattle.std.specs.Prelude.{Option, Some, None, IsSomeAnd, ◌==◌}
use Rattle.std.specs.List.{AllZip}
use Rattle.grid_range.specs.Area.{AreaWithin}
use Rattle.grid_range.specs.declared.area.Area.{Area}
use Rattle.world_model.specs.Sheet.{PlaceSheet}
use Rattle.world_model.specs.Sound.{place_sheet_with}
use Rattle.world_model.specs.Updating.{SheetUpdated, Updates}
use Rattle.values_api.specs.FoundLaws.{some_and}
use Rattle.values_api.specs.Ranges.{IsThere}

none_is_some : (sheet : PlaceSheet) → None ≡ Some sheet → ⊥
none_is_some sheet e = cc

first_some : (one other : PlaceSheet) → Some one ≡ Some other → one ≡ other
first_some one other e = cc

module _ (number : ℕ) (updates : Updates) (id : ℕ) where
  abbrev Kept : PlaceSheet → Option PlaceSheet → Type 0
  Kept sheet after = IsSomeAnd after (SheetUpdated number updates sheet)

  kept_first : (same : Bool) (one other sheet : PlaceSheet) (ones others : Option PlaceSheet)
      → SheetUpdated number updates one other → (ones ≡ Some sheet → Kept sheet others)
      → cond same (Some one) ones ≡ Some sheet → Kept sheet (cond same (Some other) others)
  kept_first true one other sheet ones others updated rest found =
      subst (λ first. SheetUpdated number updates first other) (first_some one sheet found) updated
  kept_first false one other sheet ones others updated rest found = rest found

  -- the sheet with the id stays where it is
  pub kept_sheet : (before after : List PlaceSheet) → AllZip (SheetUpdated number updates) before after
      → (sheet : PlaceSheet) → place_sheet_with id before ≡ Some sheet → Kept sheet (place_sheet_with id after)
  kept_sheet [] [] updated sheet is = absurd (none_is_some sheet is)
  kept_sheet [] (other ∷ others) updated sheet is = absurd updated
  kept_sheet (one ∷ ones) [] updated sheet is = absurd updated
  kept_sheet (one ∷ ones) (other ∷ others) updated sheet is =
      subst (λ key. Kept sheet (cond (key == id) (Some other) (place_sheet_with id others))) (sym updated.0.id)
      (kept_first (one.id == id) one other sheet (place_sheet_with id ones) (place_sheet_with id others) updated.0
      (kept_sheet ones others updated.1 sheet) is)

-- the area stays on its sheet
pub stays_there : (number : ℕ) (updates : Updates) (area : Area) (before after : List PlaceSheet)
    → AllZip (SheetUpdated number updates) before after → IsThere before area → IsThere after area
stays_there number updates area before after updated there =
    let (sheet, is, within) = some_and (λ (sheet : PlaceSheet). AreaWithin area sheet.table.rows sheet.table.cols)
    (place_sheet_with area.sheet before) there in
    let (now, is_now, same) = some_and (SheetUpdated number updates sheet) (place_sheet_with area.sheet after)
    (kept_sheet number updates area.sheet before after updated sheet is) in
    subst (λ one. IsSomeAnd one (λ (sheet : PlaceSheet). AreaWithin area sheet.table.rows sheet.table.cols))
    (sym is_now)
    (subst (λ cols. AreaWithin area now.table.rows cols) (sym same.cols)
    (subst (λ rows. AreaWithin area rows sheet.table.cols) (sym same.rows) within))
