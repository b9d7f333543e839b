-- What is taken of the insertion of lines: it can be made where it breaks no rule, and each sheet is there afterwards.
use Rattle.std.proofs.Common.{◌≡◌, ℕ, ◌<◌, ◌≤◌, List, [], ◌∷◌, refl, ap, sym, cond, Bool, true, false}
use Rattle.std.specs.Prelude.{◌==◌, Some, None}
use Rattle.std.specs.List.{AllZip}
use Rattle.std.proofs.lemmas.Bool.{false≢true}
use Rattle.grid_range.specs.declared.axis.Axis.{Axis}
use Rattle.grid_range.specs.declared.change.Change.{Change}
use Rattle.grid_range.specs.declared.change.Change.TheVariants.{Insert}
use Rattle.world_model.specs.Book.{PlaceBook}
use Rattle.world_model.specs.BookChange.{AreChanges, BookChange}
use Rattle.world_model.specs.PlaceChange.{BookChanged, SheetChanged}
use Rattle.world_model.specs.Sheet.{PlaceSheet}
use Rattle.world_model.specs.Sound.{IsSound, place_sheet_with}
use Rattle.dimension_ops.specs.Broken.{first_broken}
use Rattle.dimension_ops.specs.Lines.{lines_broken, lines_of_sheet}

-- lines are inserted on the axis of a sheet that has so many lines there, whatever lines are called, and by their
-- places
pub record AreInserted (id : ℕ) (axis : Axis) (at count : ℕ) (own : PlaceSheet) (before after : PlaceBook) : Type
    0 where
  pub changes : AreChanges (BookChange.LinesChanged id axis (Insert at count) ∷ []) before after
  pub places : BookChanged id axis (lines_of_sheet axis own) (Insert at count) before after

-- so many lines can be inserted on an axis of a sheet that is there, unless that breaks a rule
abbrev pub LinesInsert : Type 0
LinesInsert = (book : PlaceBook) → IsSound book → (id : ℕ) (own : PlaceSheet)
    → place_sheet_with id book.sheets ≡ Some own → (axis : Axis) (at count : ℕ) → at ≤ lines_of_sheet axis own
    → 0 < count → first_broken (lines_broken id axis (Insert at count) book.sheets) ≡ None
    → (after : PlaceBook) × AreInserted id axis at count own book after

-- ---- sheets

none_some : {A : Type 0} (x : A) → None ≡ Some x → ⊥
none_some x e = cc

-- a sheet is found among those that have the same ids
module _ (R : PlaceSheet → PlaceSheet → Type 0) (same : (one other : PlaceSheet) → R one other → other.id ≡ one.id)
    (id : ℕ) where
  pub still_found : (xs ys : List PlaceSheet) → AllZip R xs ys → (own : PlaceSheet) → place_sheet_with id xs ≡ Some own
      → (other : PlaceSheet) × (place_sheet_with id ys ≡ Some other)
  still_found [] ys all own is = absurd (none_some own is)
  still_found (x ∷ xs) [] all own is = absurd all
  still_found (x ∷ xs) (y ∷ ys) all own is =
      by_test (x.id == id) (y.id == id) (ap (λ n. n == id) (same x y all.0)) (still_found xs ys all.1 own) is
    where
      by_test : (b b' : Bool) → b' ≡ b
          → (place_sheet_with id xs ≡ Some own → (other : PlaceSheet) × (place_sheet_with id ys ≡ Some other))
          → cond b (Some x) (place_sheet_with id xs) ≡ Some own
          → (other : PlaceSheet) × (cond b' (Some y) (place_sheet_with id ys) ≡ Some other)
      by_test true true is later found = (y, refl)
      by_test false false is later found = later found
      by_test true false is later found = absurd (false≢true is)
      by_test false true is later found = absurd (false≢true (sym is))

-- a change of lines keeps each sheet
pub changed_found : (id : ℕ) (axis : Axis) (lines : ℕ) (change : Change) (before after : PlaceBook)
    → BookChanged id axis lines change before after → (own : PlaceSheet) → place_sheet_with id before.sheets ≡ Some own
    → (other : PlaceSheet) × (place_sheet_with id after.sheets ≡ Some other)
changed_found id axis lines change before after changed own there =
    still_found (SheetChanged id axis lines change) (λ one other is. is.id) id before.sheets after.sheets changed.sheets
    own there
